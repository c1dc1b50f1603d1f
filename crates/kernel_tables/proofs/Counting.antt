-- How many pages stand in a place: as many as the list of the place has.
use Rattle.std.proofs.Common.{◌≡◌, ℕ, zero, suc, ◌+◌, ◌<◌, ◌≤◌, List, [], ◌∷◌, length, filter, cond, nat_eq, refl, sym, ap, ◌∙◌, subst, Bool, true, false, inl, inr, ◌⊎◌, arith, zero-le}
use Rattle.std.specs.Prelude.{count_by}
use Rattle.std.proofs.lemmas.Bool.{true≢false}
use Rattle.std.proofs.lemmas.Bool.Decides.{nat_tests}
use Rattle.std.proofs.lemmas.List.Sums.{length-filter}
use Rattle.kern_ids.specs.declared.entries.Entry.{Entry}
use Rattle.kern_ids.specs.declared.ids.PageId.{PageId}
use Rattle.kernel_model.specs.declared.place.Place.{Place}
use Rattle.kernel_model.specs.System.{System}
use Rattle.kernel_model.specs.Lists.{pair_lt}
use Rattle.kernel_model.specs.Pages.{place, pages_of, same_page, stamp}
use Rattle.kernel_model.specs.Scan.{stamp_lt}
use Rattle.kernel_model.specs.Laws.Frames.{is_page}
use Rattle.kernel_model.specs.Laws.Order.{Has, Rising, Keeps, Distinct}
use Rattle.kernel_model.specs.Laws.Queues.{KeepsPages}
use Rattle.kernel_model.proofs.Laws.Agree.{count_by-cons}
use Rattle.kernel_model.proofs.Laws.Order.{filter-has, has-filter, distinct-filter}
use Rattle.kernel_model.proofs.Laws.Queues.{pair_lt-asym}
use Rattle.kernel_model.proofs.Laws.Untouched.{has-pages}
use Rattle.kernel_model.proofs.Laws.Counting.{count_by-none}
use Rattle.kernel_model.proofs.Laws.Frames.{pages-once}

-- a list without one of its elements
abbrev taken_out : {A : Type 0} (ys : List A) (x : A) → Has ys x → List A
taken_out [] x h = absurd h
taken_out (y ∷ ys) x (inl e) = ys
taken_out (y ∷ ys) x (inr m) = y ∷ taken_out ys x m

length-taken_out : {A : Type 0} (ys : List A) (x : A) (h : Has ys x) → length ys ≡ suc (length (taken_out ys x h))
length-taken_out [] x h = absurd h
length-taken_out (y ∷ ys) x (inl e) = refl
length-taken_out (y ∷ ys) x (inr m) = ap suc (length-taken_out ys x m)

has-taken_out : {A : Type 0} (ys : List A) (x : A) (h : Has ys x) (z : A) → Has ys z → (x ≡ z) ⊎ Has (taken_out ys x h) z
has-taken_out [] x h z m = absurd h
has-taken_out (y ∷ ys) x (inl e) z (inl f) = inl (sym e ∙ f)
has-taken_out (y ∷ ys) x (inl e) z (inr n) = inr n
has-taken_out (y ∷ ys) x (inr m) z (inl f) = inr (inl f)
has-taken_out (y ∷ ys) x (inr m) z (inr n) = elim (has-taken_out ys x m z n) [ inl f ↦ inl f | inr k ↦ inr (inr k) ]

-- a list with no element twice is no longer than one that has all its elements
within-length : {A : Type 0} (xs ys : List A) → Distinct xs → ((x : A) → Has xs x → Has ys x) → length xs ≤ length ys
within-length [] ys d h = zero-le
within-length {A} (x ∷ xs) ys d h =
    let m : Has ys x = h x (inl refl) in
    let rest : (z : A) → Has xs z → Has (taken_out ys x m) z = λ z n. elim (has-taken_out ys x m z (h z (inr n))) [ inl e ↦ absurd (d.0 (subst (Has xs) (sym e) n)) | inr k ↦ k ] in
    let shorter : length xs ≤ length (taken_out ys x m) = within-length xs (taken_out ys x m) d.1 rest in
    let longer : length ys ≡ suc (length (taken_out ys x m)) = length-taken_out ys x m in
    omega arith

rising-distinct : {A : Type 0} (less : A → A → Bool) (xs : List A) → ((x : A) → less x x ≡ false) → Rising less xs → Distinct xs
rising-distinct less [] irr r = tt
rising-distinct less (x ∷ xs) irr r = ((λ h. absurd (true≢false (sym (r.0 x h) ∙ irr x))), rising-distinct less xs irr r.1)

-- a list that keeps those that pass is as long as they are many
pub keeps-count : {A : Type 0} (whole : List A) (test : A → Bool) (less : A → A → Bool) (xs : List A) → Distinct whole → ((x : A) → less x x ≡ false) → Keeps whole test less xs → count_by test whole ≡ length xs
keeps-count whole test less xs d irr k =
    let passing : length (filter test whole) ≡ count_by test whole = length-filter test whole in
    let most : length xs ≤ length (filter test whole) = within-length xs (filter test whole) (rising-distinct less xs irr k.rising) (λ x h. has-filter test whole x (k.within x h) (k.passes x h)) in
    let least : length (filter test whole) ≤ length xs = within-length (filter test whole) xs (distinct-filter test whole d) (λ x h. let q = filter-has test whole x h in k.all x q.0 q.1) in
    omega arith

-- no page stands twice among all pages
nat_eq-itself : (n : ℕ) → nat_eq n n ≡ true
nat_eq-itself n = grind (arith, nat_tests)

same_itself : (p : PageId) → same_page p p ≡ true
same_itself p = rw (nat_eq-itself p.obj, nat_eq-itself p.page) refl

count_has : (p : PageId) (ps : List PageId) → Has ps p → 1 ≤ count_by (same_page p) ps
count_has p [] h = absurd h
count_has p (q ∷ qs) (inl e) = let c : count_by (same_page p) (q ∷ qs) ≡ 1 + count_by (same_page p) qs = count_by-cons (same_page p) q qs ∙ ap (λ b. cond b 1 0 + count_by (same_page p) qs) (ap (same_page p) e ∙ same_itself p) in omega arith
count_has p (q ∷ qs) (inr m) = let c : count_by (same_page p) (q ∷ qs) ≡ cond (same_page p q) 1 0 + count_by (same_page p) qs = count_by-cons (same_page p) q qs in let k : 1 ≤ count_by (same_page p) qs = count_has p qs m in omega arith

distinct-once : (ps : List PageId) → ((p : PageId) → Has ps p → count_by (same_page p) ps ≤ 1) → Distinct ps
distinct-once [] once = tt
distinct-once (p ∷ ps) once = (
  (λ h.
      let c : count_by (same_page p) (p ∷ ps) ≡ 1 + count_by (same_page p) ps = count_by-cons (same_page p) p ps ∙ ap (λ b. cond b 1 0 + count_by (same_page p) ps) (same_itself p) in
      let one : count_by (same_page p) (p ∷ ps) ≤ 1 = once p (inl refl) in
      let more : 1 ≤ count_by (same_page p) ps = count_has p ps h in
      absurd (omega arith)),
  distinct-once ps (λ q m.
      let c : count_by (same_page q) (p ∷ ps) ≡ cond (same_page q p) 1 0 + count_by (same_page q) ps = count_by-cons (same_page q) p ps in
      let one : count_by (same_page q) (p ∷ ps) ≤ 1 = once q (inr m) in
      omega arith),
)

pub pages-distinct : (boot : System) → Distinct (pages_of boot)
pages-distinct boot = distinct-once (pages_of boot) (λ p h. let one : count_by (same_page p) (pages_of boot) ≡ 1 = pages-once boot p (has-pages boot p h) in omega arith)

pub pair_lt-itself : (a : ℕ × ℕ) → pair_lt a a ≡ false
pair_lt-itself a = grind (arith, nat_tests)

-- so the list of a place is as long as the place has pages
pub pages-count : (boot : System) (past : List Entry) (k : Place → Bool) (ps : List PageId) → KeepsPages boot past k ps → count_by (λ p. k (place boot past p)) (pages_of boot) ≡ length ps
unfolding stamp_lt
pages-count boot past k ps keeps = keeps-count (pages_of boot) (λ p. k (place boot past p)) (stamp_lt boot past) ps (pages-distinct boot) (λ p. pair_lt-itself (stamp boot past p)) keeps
