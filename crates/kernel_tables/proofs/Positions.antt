-- Where numbers stand in a list, and lists after all numbers of a list were placed at the tail of one.
use Rattle.std.proofs.Common.{◌≡◌, ℕ, suc, ◌+◌, ◌<◌, ◌≤◌, List, [], ◌∷◌, ◌++◌, length, filter, fold, map, set, take, slice_get, Option, Some, None, refl, sym, ap, ap₂, ◌∙◌, subst, Bool, true, false, ◌&&◌, ◌||◌, not, cond, nat_eq, nat_lt, inl, inr, arith}
use Rattle.std.specs.Prelude.{position}
use Rattle.std.specs.List.{position_from}
use Rattle.std.specs.Option.{unwrap_or}
use Rattle.std.proofs.lemmas.Bool.{cases_Bool, false≢true}
use Rattle.std.proofs.lemmas.Bool.Decides.{eqb_tells, nat_tests}
use Rattle.std.proofs.lemmas.List.{length-set, length-map, take_more}
use Rattle.std.proofs.lemmas.List.Sums.{fold-append}
use Rattle.std.proofs.lemmas.Option.{slice_get_within, get_or_from_slice_get}
use Rattle.std.proofs.lemmas.List.Elements.{filter-append, filter_agree}
use Rattle.std.proofs.lemmas.Iterator.Adapters.{position_from-zero}
use Rattle.kernel_model.specs.Laws.Order.{Has, Rising, Distinct}
use Rattle.kernel_model.proofs.Laws.Order.{rising-agree}
use Rattle.link_list.specs.KeyLists.{list_at, has, without}
use Rattle.priority_bands.specs.Banded.{placed, removed}
use Rattle.kernel_tables.proofs.Lists.{placed-at, has-fact, fact-has}

-- a number's place in a list, counted from some number on
place-none : (t i : ℕ) (xs : List ℕ) → has t xs ≡ false → position_from (nat_eq t) i xs ≡ None
place-none t i [] h = refl
place-none t i (x ∷ xs) h = elim (cases_Bool (nat_eq t x)) [
  | inl e ↦ absurd (false≢true (sym h ∙ ap (λ b. b || has t xs) e))
  | inr e ↦ rw e (place-none t (i + 1) xs (sym (ap (λ b. b || has t xs) e) ∙ h))
]

place-some : (t i : ℕ) (xs : List ℕ) → has t xs ≡ true → (k : ℕ) × (i ≤ k) × (position_from (nat_eq t) i xs ≡ Some k)
place-some t i [] h = absurd (false≢true h)
place-some t i (x ∷ xs) h = elim (cases_Bool (nat_eq t x)) [
  | inl e ↦ (i, omega arith, ap (λ b. cond b (Some i) (position_from (nat_eq t) (i + 1) xs)) e)
  | inr e ↦ (
      let q = place-some t (i + 1) xs (sym (ap (λ b. b || has t xs) e) ∙ h) in
      (q.0, (let m : i + 1 ≤ q.0 = q.1 in omega arith), ap (λ b. cond b (Some i) (position_from (nat_eq t) (i + 1) xs)) e ∙ q.2))
]

abbrev pub place_in : ℕ → List ℕ → ℕ → ℕ
place_in i xs t = unwrap_or (position_from (nat_eq t) i xs) 0

place_here : (x i : ℕ) (xs : List ℕ) → place_in i (x ∷ xs) x ≡ i
place_here x i xs = let e : nat_eq x x ≡ true = grind (arith, nat_tests) in rw e refl

place_there : (x i : ℕ) (xs : List ℕ) (t : ℕ) → (t ≡ x → ⊥) → place_in i (x ∷ xs) t ≡ place_in (i + 1) xs t
place_there x i xs t d = let e : nat_eq t x ≡ false = grind (arith, nat_tests) in rw e refl

apart_in : (x : ℕ) (xs : List ℕ) (t : ℕ) → (Has xs x → ⊥) → Has xs t → t ≡ x → ⊥
apart_in x xs t d h e = d (subst (Has xs) e h)

later_in : (x i : ℕ) (xs : List ℕ) (t : ℕ) → (Has xs x → ⊥) → Has xs t → nat_lt (place_in i (x ∷ xs) x) (place_in i (x ∷ xs) t) ≡ true
later_in x i xs t d h =
    let q = place-some t (i + 1) xs (fact-has t xs h) in
    let far : place_in i (x ∷ xs) t ≡ q.0 = place_there x i xs t (apart_in x xs t d h) ∙ ap (λ o. unwrap_or o 0) q.2 in
    let near : place_in i (x ∷ xs) x ≡ i = place_here x i xs in
    let m : i + 1 ≤ q.0 = q.1 in
    let r : nat_lt i q.0 ≡ true = grind (arith, nat_tests) in
    ap₂ nat_lt near far ∙ r

-- a list that has no number twice is in the order of its places
pub rising-places : (i : ℕ) (xs : List ℕ) → Distinct xs → Rising (λ t u. nat_lt (place_in i xs t) (place_in i xs u)) xs
rising-places i [] d = tt
rising-places i (x ∷ xs) d = (
  (λ t h. later_in x i xs t d.0 h),
  rising-agree (λ t u. nat_lt (place_in (i + 1) xs t) (place_in (i + 1) xs u)) (λ t u. nat_lt (place_in i (x ∷ xs) t) (place_in i (x ∷ xs) u)) xs
      (λ t u ht hu. ap₂ nat_lt (place_there x i xs t (apart_in x xs t d.0 ht)) (place_there x i xs u (apart_in x xs u d.0 hu)))
      (rising-places (i + 1) xs d.1),
)

pub position-place : (t : ℕ) (xs : List ℕ) → has t xs ≡ true → position (nat_eq t) xs ≡ Some (place_in 0 xs t)
position-place t xs h = let q = place-some t 0 xs h in position_from-zero (nat_eq t) xs ∙ q.2 ∙ ap (λ o. Some (unwrap_or o 0)) (sym q.2)

pub position-none : (t : ℕ) (xs : List ℕ) → has t xs ≡ false → position (nat_eq t) xs ≡ None
position-none t xs h = position_from-zero (nat_eq t) xs ∙ place-none t 0 xs h

-- all numbers of a list go to the tail of one of the lists
abbrev pub placed_all : List (List ℕ) → List ℕ → ℕ → List (List ℕ)
placed_all lists xs l = fold (λ at t. placed at t l) lists xs

length-placed : (lists : List (List ℕ)) (t l : ℕ) → length (placed lists t l) ≡ length lists
length-placed lists t l = length-set (removed lists t) l (list_at (removed lists t) l ++ t ∷ []) ∙ length-map lists (without t)

not_either : (x t : ℕ) (b : Bool) → not (nat_eq t x || b) ≡ (not (nat_eq x t) && not b)
not_either x t b = elim (eqb_tells x t) [
  | inl same ↦ let e : nat_eq t x ≡ true = grind (arith, nat_tests) in rw (e, same.0) refl
  | inr other ↦ let e : nat_eq t x ≡ false = grind (arith, nat_tests) in rw (e, other.0) refl
]

filter_twice : (p q : ℕ → Bool) (xs : List ℕ) → filter p (filter q xs) ≡ filter (λ x. q x && p x) xs
filter_twice p q [] = refl
filter_twice p q (x ∷ xs) = elim (cases_Bool (q x)) [
  | inl e ↦ elim (cases_Bool (p x)) [
    | inl f ↦ rw (e, f) (ap (λ ys. x ∷ ys) (filter_twice p q xs))
    | inr f ↦ rw (e, f) (filter_twice p q xs)
  ]
  | inr e ↦ rw e (filter_twice p q xs)
]

none_left : (xs : List ℕ) → filter (λ t. not (has t [])) xs ≡ xs
none_left [] = refl
none_left (x ∷ xs) = ap (λ ys. x ∷ ys) (none_left xs)

stays_last : (x : ℕ) (xs : List ℕ) (c : Bool) → has x xs ≡ false → filter (λ t. not (has t xs)) (cond c (x ∷ []) []) ++ cond c xs [] ≡ cond c (x ∷ xs) []
stays_last x xs true h = rw h refl
stays_last x xs false h = refl

abbrev no_numbers : List ℕ
no_numbers = []

nothing : (c : Bool) → cond c no_numbers no_numbers ≡ no_numbers
nothing true = refl
nothing false = refl

absent_has : (x : ℕ) (xs : List ℕ) → (Has xs x → ⊥) → has x xs ≡ false
absent_has x xs d = elim (cases_Bool (has x xs)) [ inl t ↦ absurd (d (has-fact x xs t)) | inr f ↦ f ]

pub placed_all-at : (xs : List ℕ) (lists : List (List ℕ)) (l b : ℕ) → l < length lists → Distinct xs → list_at (placed_all lists xs l) b ≡ filter (λ t. not (has t xs)) (list_at lists b) ++ cond (nat_eq l b) xs []
placed_all-at [] lists l b inside d = sym (ap₂ (λ ys zs. ys ++ zs) (none_left (list_at lists b)) (nothing (nat_eq l b)) ∙ Rattle.std.proofs.lemmas.List.append-nil (list_at lists b))
placed_all-at (x ∷ xs) lists l b inside d =
    let still : l < length (placed lists x l) = subst (λ n. l < n) (sym (length-placed lists x l)) inside in
    let out : has x xs ≡ false = absent_has x xs d.0 in
    let c = nat_eq l b in
    let keep = λ (t : ℕ). not (has t xs) in
    placed_all-at xs (placed lists x l) l b still d.1
    ∙ ap (λ ys. filter keep ys ++ cond c xs []) (placed-at lists x l b inside)
    ∙ ap (λ ys. ys ++ cond c xs []) (filter-append keep (without x (list_at lists b)) (cond c (x ∷ []) []))
    ∙ Rattle.std.proofs.Common.append_assoc (filter keep (without x (list_at lists b))) (filter keep (cond c (x ∷ []) [])) (cond c xs [])
    ∙ ap₂ (λ ys zs. ys ++ zs)
    (filter_twice keep (λ t. not (nat_eq x t)) (list_at lists b) ∙ filter_agree (λ t. not (nat_eq x t) && keep t) (λ t. not (has t (x ∷ xs))) (λ t. sym (not_either x t (has t xs))) (list_at lists b))
    (stays_last x xs c out)

-- one number of the list more
pub placed_all-more : (lists : List (List ℕ)) (xs : List ℕ) (l i t : ℕ) → slice_get xs i ≡ Some t → placed_all lists (take (i + 1) xs) l ≡ placed (placed_all lists (take i xs) l) t l
placed_all-more lists xs l i t at =
    ap (λ ys. placed_all lists ys l) (take_more xs i 0 (slice_get_within xs i t at) ∙ ap (λ u. take i xs ++ u ∷ []) (get_or_from_slice_get xs i t 0 at))
    ∙ fold-append (λ bs u. placed bs u l) lists (take i xs) (t ∷ [])
