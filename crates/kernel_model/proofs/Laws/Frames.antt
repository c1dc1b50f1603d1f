-- The numbers of pages after an entry: by one page, and by one object.
use Rattle.std.proofs.Common.{◌≡◌, ℕ, ◌+◌, ◌<◌, List, ◌∷◌, length, refl, sym, ap, ap₂, ◌∙◌, Bool, true, false, ◌&&◌, count_by, nat_eq, nat_lt, if◌then◌else◌, arith, inl, inr, zero-le}
use Rattle.std.specs.Prelude.{sum_by}
use Rattle.std.specs.List.{range_with_len}
use Rattle.std.specs.Option.{option_map_or}
use Rattle.std.proofs.lemmas.Bool.Decides.{eqb_tells, nat_tests}
use Rattle.std.proofs.lemmas.Bool.{false≢true}
use Rattle.kern_ids.specs.declared.entries.Entry.{Entry}
use Rattle.kern_ids.specs.declared.ids.PageId.{PageId}
use Rattle.kern_ids.specs.declared.calls.State.{State}
use Rattle.kernel_model.specs.declared.place.Place.{Place}
use Rattle.kernel_model.specs.declared.place.Place.TheVariants.{Absent}
use Rattle.kernel_model.specs.System.{System}
use Rattle.kernel_model.specs.Mapping.{owner}
use Rattle.kernel_model.specs.State.{state}
use Rattle.kernel_model.specs.Pages.{place, placed, same_page, pages_of, pages_of_size, pages_in}
use Rattle.kernel_model.specs.Counted.{counts, count_of, owned_by, is_nonvolatile_state}
use Rattle.kernel_model.specs.Groups.{is_volatile_state}
use Rattle.kernel_model.specs.Pages.{is_stored}
use Rattle.kernel_model.specs.Laws.Frames.{is_page, pages_at, has_share, share_of, is_in, bit}
use Rattle.kernel_model.proofs.Laws.Agree.{count_by-agree}
use Rattle.kernel_model.proofs.Laws.Counting.{count_by-once, count_by-flat_map, count_by-map, sum_by-agree, sum_by-once, sum_by-none, count_by-none, count_by-range, count_by-and}

-- a test of a page is the test of two numbers
nat_is : (a b : ℕ) → nat_eq a b ≡ true → a ≡ b
nat_is a b h = elim (eqb_tells a b) [ inl same ↦ same.1 | inr other ↦ absurd (false≢true (sym other.0 ∙ h)) ]

both_true : (a b : Bool) → (a && b) ≡ true → (a ≡ true) × (b ≡ true)
both_true true b h = (refl, h)
both_true false b h = absurd (false≢true h)

pub same_page-is : (p q : PageId) → same_page p q ≡ true → q ≡ p
same_page-is p q h =
    let b = both_true (nat_eq p.obj q.obj) (nat_eq p.page q.page) h in
    ap₂ (λ o k. record { obj = o; page = k }) (sym (nat_is p.obj q.obj b.0)) (sym (nat_is p.page q.page b.1))

nat_below : (a b : ℕ) → nat_lt a b ≡ true → a < b
nat_below a b h = grind (arith, nat_tests)

-- a count of pages is the sum of the counts of each object's
pub pages-by_objects : (boot : System) (f : PageId → Bool) → count_by f (pages_of boot) ≡ sum_by (λ o. count_by (λ k. f (record { obj = o; page = k })) (range_with_len 0 (pages_in boot o))) (range_with_len 0 (length boot.objects))
unfolding pages_of_size
pages-by_objects boot f =
    count_by-flat_map f (λ o. pages_of_size o (pages_in boot o)) (range_with_len 0 (length boot.objects))
    ∙ sum_by-agree (λ o. count_by f (pages_of_size o (pages_in boot o))) (λ o. count_by (λ k. f (record { obj = o; page = k })) (range_with_len 0 (pages_in boot o)))
    (λ o. count_by-map f (λ k. record { obj = o; page = k }) (range_with_len 0 (pages_in boot o))) (range_with_len 0 (length boot.objects))

pages_apart : (b : Bool) (page n : ℕ) → b ≡ false → count_by (λ k. b && nat_eq page k) (range_with_len 0 n) ≡ 0
pages_apart b page n h = count_by-and b (nat_eq page) (range_with_len 0 n) ∙ ap (λ x. if x then count_by (nat_eq page) (range_with_len 0 n) else 0) h

pages_here : (b : Bool) (page n : ℕ) → b ≡ true → count_by (λ k. b && nat_eq page k) (range_with_len 0 n) ≡ count_by (nat_eq page) (range_with_len 0 n)
pages_here b page n h = count_by-and b (nat_eq page) (range_with_len 0 n) ∙ ap (λ x. if x then count_by (nat_eq page) (range_with_len 0 n) else 0) h

-- a page of a declared object stands once among all pages
pub pages-once : (boot : System) (p : PageId) → is_page boot p ≡ true → count_by (same_page p) (pages_of boot) ≡ 1
pages-once boot p h =
    let b = both_true (nat_lt p.obj (length boot.objects)) (nat_lt p.page (pages_in boot p.obj)) h in
    let f = λ (o : ℕ). count_by (λ k. nat_eq p.obj o && nat_eq p.page k) (range_with_len 0 (pages_in boot o)) in
    let below : p.obj < 0 + length boot.objects = let l = nat_below p.obj (length boot.objects) b.0 in omega arith in
    let t : nat_eq p.obj p.obj ≡ true = grind (arith, nat_tests) in
    let one : f p.obj ≡ 1 = pages_here (nat_eq p.obj p.obj) p.page (pages_in boot p.obj) t ∙ count_by-range p.page (pages_in boot p.obj) (nat_below p.page (pages_in boot p.obj) b.1) in
    let s = sum_by-once f (λ x. 0) p.obj (λ x h. pages_apart (nat_eq p.obj x) p.page (pages_in boot x) h) 0 (length boot.objects) zero-le below in
    let z = sum_by-none (range_with_len 0 (length boot.objects)) in
    pages-by_objects boot (same_page p) ∙ omega (arith, s, z, one)

-- a count of pages after an entry that changes the place of one page at most
pub pages-page : (boot : System) (e : Entry) (before : List Entry) (p : PageId) (k : Place → Bool) → is_page boot p ≡ true → ((q : PageId) → same_page p q ≡ false → placed boot (e ∷ before) q ≡ placed boot before q) → count_by (λ q. k (place boot (e ∷ before) q)) (pages_of boot) + bit (k (place boot before p)) ≡ count_by (λ q. k (place boot before q)) (pages_of boot) + bit (k (place boot (e ∷ before) p))
pages-page boot e before p k h apart =
    count_by-once (same_page p) p (λ q. k (place boot (e ∷ before) q)) (λ q. k (place boot before q)) (λ q s. same_page-is p q s) (λ q s. ap (λ x. k x.place) (apart q s)) (pages_of boot) (pages-once boot p h)

-- a count of pages after an entry that changes places of one object's pages at most
pub pages-object : (boot : System) (e : Entry) (before : List Entry) (o : ℕ) (k : Place → Bool) → o < length boot.objects → ((q : PageId) → nat_eq o q.obj ≡ false → placed boot (e ∷ before) q ≡ placed boot before q) → count_by (λ q. k (place boot (e ∷ before) q)) (pages_of boot) + pages_at boot before k o ≡ count_by (λ q. k (place boot before q)) (pages_of boot) + pages_at boot (e ∷ before) k o
pages-object boot e before o k l apart =
    let n = pages-by_objects boot (λ q. k (place boot (e ∷ before) q)) in
    let w = pages-by_objects boot (λ q. k (place boot before q)) in
    let below : o < 0 + length boot.objects = omega arith in
    let off = λ (x : ℕ) (h : nat_eq o x ≡ false). count_by-agree (λ n. k (place boot (e ∷ before) (record { obj = x; page = n }))) (λ n. k (place boot before (record { obj = x; page = n }))) (λ n. ap (λ y. k y.place) (apart (record { obj = x; page = n }) h)) (range_with_len 0 (pages_in boot x)) in
    let s = sum_by-once (pages_at boot (e ∷ before) k) (pages_at boot before k) o off 0 (length boot.objects) zero-le below in
    rw (n, w) s

-- an object whose pages are all Absent has none in other places
pub pages_at-absent : (boot : System) (past : List Entry) (k : Place → Bool) (o : ℕ) → k Absent ≡ false → ((n : ℕ) → place boot past (record { obj = o; page = n }) ≡ Absent) → pages_at boot past k o ≡ 0
pages_at-absent boot past k o h a = count_by-none (λ n. k (place boot past (record { obj = o; page = n }))) (λ n. ap k (a n) ∙ h) (range_with_len 0 (pages_in boot o))

and_swap : (a b c : Bool) → ((a && b) && c) ≡ ((a && c) && b)
and_swap true true true = refl
and_swap true true false = refl
and_swap true false true = refl
and_swap true false false = refl
and_swap false b c = refl

share_is : (a c : Bool) (f : ℕ → Bool) (ns : List ℕ) → count_by (λ n. (a && f n) && c) ns ≡ (if a && c then count_by f ns else 0)
share_is a c f ns = count_by-agree (λ n. (a && f n) && c) (λ n. (a && c) && f n) (λ n. and_swap a (f n) c) ns ∙ count_by-and (a && c) f ns

-- the pages of a task, by objects
pub count_of-by_objects : (boot : System) (past : List Entry) (t : ℕ) (k : Place → Bool) (what : State → Bool) → count_of boot past t (λ p. k (place boot past p)) what ≡ sum_by (share_of boot past t k what) (range_with_len 0 (length boot.objects))
count_of-by_objects boot past t k what =
    pages-by_objects boot (λ p. owned_by boot past t p && k (place boot past p) && what (state past p.obj))
    ∙ sum_by-agree (λ o. count_by (λ n. owned_by boot past t (record { obj = o; page = n }) && k (place boot past (record { obj = o; page = n })) && what (state past o)) (range_with_len 0 (pages_in boot o))) (share_of boot past t k what)
    (λ o. share_is (option_map_or (nat_eq t) (owner boot past o) false) (what (state past o)) (λ n. k (place boot past (record { obj = o; page = n }))) (range_with_len 0 (pages_in boot o))) (range_with_len 0 (length boot.objects))

-- what an object adds stays with its owner, its state and its places
pub share_of-kept : (boot : System) (e : Entry) (before : List Entry) (t : ℕ) (k : Place → Bool) (what : State → Bool) (o : ℕ) → owner boot (e ∷ before) o ≡ owner boot before o → state (e ∷ before) o ≡ state before o → ((n : ℕ) → place boot (e ∷ before) (record { obj = o; page = n }) ≡ place boot before (record { obj = o; page = n })) → share_of boot (e ∷ before) t k what o ≡ share_of boot before t k what o
share_of-kept boot e before t k what o w s p =
    let c = count_by-agree (λ n. k (place boot (e ∷ before) (record { obj = o; page = n }))) (λ n. k (place boot before (record { obj = o; page = n }))) (λ n. ap k (p n)) (range_with_len 0 (pages_in boot o)) in
    rw (w, s) (ap (λ n. if has_share boot before t what o then n else 0) c)

-- the pages of a task after an entry that changes one object at most
pub count_of-object : (boot : System) (e : Entry) (before : List Entry) (t : ℕ) (k : Place → Bool) (what : State → Bool) (o : ℕ) → o < length boot.objects → ((x : ℕ) → nat_eq o x ≡ false → share_of boot (e ∷ before) t k what x ≡ share_of boot before t k what x) → count_of boot (e ∷ before) t (λ p. k (place boot (e ∷ before) p)) what + share_of boot before t k what o ≡ count_of boot before t (λ p. k (place boot before p)) what + share_of boot (e ∷ before) t k what o
count_of-object boot e before t k what o l apart =
    let below : o < 0 + length boot.objects = omega arith in
    let s = sum_by-once (share_of boot (e ∷ before) t k what) (share_of boot before t k what) o apart 0 (length boot.objects) zero-le below in
    rw (count_of-by_objects boot (e ∷ before) t k what, count_of-by_objects boot before t k what) s

-- and after one that changes the place of one page at most
pub count_of-page : (boot : System) (e : Entry) (before : List Entry) (t : ℕ) (k : Place → Bool) (what : State → Bool) (p : PageId) → is_page boot p ≡ true → ((o : ℕ) → owner boot (e ∷ before) o ≡ owner boot before o) → ((o : ℕ) → state (e ∷ before) o ≡ state before o) → ((q : PageId) → same_page p q ≡ false → placed boot (e ∷ before) q ≡ placed boot before q) → count_of boot (e ∷ before) t (λ q. k (place boot (e ∷ before) q)) what + bit (has_share boot before t what p.obj && k (place boot before p)) ≡ count_of boot before t (λ q. k (place boot before q)) what + bit (has_share boot before t what p.obj && k (place boot (e ∷ before) p))
count_of-page boot e before t k what p h w s apart =
    let f = λ (q : PageId). owned_by boot (e ∷ before) t q && k (place boot (e ∷ before) q) && what (state (e ∷ before) q.obj) in
    let g = λ (q : PageId). owned_by boot before t q && k (place boot before q) && what (state before q.obj) in
    let off = λ (q : PageId) (d : same_page p q ≡ false). (let here : k (place boot (e ∷ before) q) ≡ k (place boot before q) = ap (λ x. k x.place) (apart q d) in ap₂ (λ a b. a && k (place boot (e ∷ before) q) && b) (ap (λ x. option_map_or (nat_eq t) x false) (w q.obj)) (ap what (s q.obj)) ∙ ap (λ x. owned_by boot before t q && x && what (state before q.obj)) here) in
    let n : f p ≡ (has_share boot before t what p.obj && k (place boot (e ∷ before) p)) = ap₂ (λ a b. a && k (place boot (e ∷ before) p) && b) (ap (λ x. option_map_or (nat_eq t) x false) (w p.obj)) (ap what (s p.obj)) ∙ and_swap (owned_by boot before t p) (k (place boot (e ∷ before) p)) (what (state before p.obj)) in
    let o : g p ≡ (has_share boot before t what p.obj && k (place boot before p)) = and_swap (owned_by boot before t p) (k (place boot before p)) (what (state before p.obj)) in
    rw (← n, ← o) (count_by-once (same_page p) p f g (λ q s. same_page-is p q s) off (pages_of boot) (pages-once boot p h))

-- the parts of the counts
module _ (boot : System) (past : List Entry) (t : ℕ) where
  pub counts-res_non : (counts boot past t).res_non ≡ count_of boot past t (λ p. is_in (place boot past p)) is_nonvolatile_state
  unfolding counts
  counts-res_non = refl

  pub counts-res_vol : (counts boot past t).res_vol ≡ count_of boot past t (λ p. is_in (place boot past p)) is_volatile_state
  unfolding counts
  counts-res_vol = refl

  pub counts-com_non : (counts boot past t).com_non ≡ count_of boot past t (λ p. is_stored (place boot past p)) is_nonvolatile_state
  unfolding counts
  counts-com_non = refl

  pub counts-com_vol : (counts boot past t).com_vol ≡ count_of boot past t (λ p. is_stored (place boot past p)) is_volatile_state
  unfolding counts
  counts-com_vol = refl

  pub counts-footprint : (counts boot past t).footprint ≡ (counts boot past t).res_non + (counts boot past t).com_non
  unfolding counts
  counts-footprint = refl
