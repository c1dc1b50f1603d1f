-- The tasks of a band and of those above it.
use Rattle.std.proofs.Common.{◌≡◌, ℕ, true, ◌+◌, ◌-◌, ◌<◌, ◌≤◌, inl, inr, zero, suc, List, [], ◌∷◌, ◌++◌, length, refl, sym, ap, ◌∙◌, arith, subst, slice_get, Some, None}
use Rattle.std.specs.List.{flat_map}
use Rattle.std.proofs.lemmas.List.{drop_more, drop_all}
use Rattle.std.proofs.lemmas.Bool.{cases_lt, false_from_ne_true, false≢true}
use Rattle.std.proofs.lemmas.Option.{none-some, same_Some}
use Rattle.link_list.specs.KeyLists.{list_at, list_with, has, after, place_of, IsOnce, IsOnceEach}
use Rattle.link_list.proofs.Members.{has_append, IsOnce-append, after-skip, after-in_some, after-in_none}
use Rattle.link_list.proofs.Places.{has_at_place}
use Rattle.priority_bands.specs.Banded.{tasks_from}

pub tasks_from_past : (bands : List (List ℕ)) (band : ℕ) → length bands ≤ band → tasks_from bands band ≡ []
tasks_from_past bands band h = ap (λ (ls : List (List ℕ)). flat_map (λ tasks. tasks) ls) (drop_all band bands h)

tasks_from_more : (bands : List (List ℕ)) (band : ℕ) → band < length bands → tasks_from bands band ≡ list_at bands band ++ tasks_from bands (band + 1)
tasks_from_more bands band h = ap (λ (ls : List (List ℕ)). flat_map (λ tasks. tasks) ls) (drop_more bands band [] h)

none_is_empty : (xs : List ℕ) → slice_get xs 0 ≡ None → xs ≡ []
none_is_empty [] h = refl
none_is_empty (x ∷ xs) h = absurd (none-some x (sym h))

some_append : (xs ys : List ℕ) (x : ℕ) → slice_get xs 0 ≡ Some x → slice_get (xs ++ ys) 0 ≡ Some x
some_append [] ys x h = absurd (none-some x h)
some_append (y ∷ xs) ys x h = h

-- an empty band adds no task
pub tasks_from_empty : (bands : List (List ℕ)) (band : ℕ) → band < length bands → slice_get (list_at bands band) 0 ≡ None → tasks_from bands (band + 1) ≡ tasks_from bands band
tasks_from_empty bands band h none = sym (tasks_from_more bands band h ∙ ap (λ xs. xs ++ tasks_from bands (band + 1)) (none_is_empty (list_at bands band) none))

-- the head of a band that isn't empty is the least task
pub tasks_from_head : (bands : List (List ℕ)) (band x : ℕ) → band < length bands → slice_get (list_at bands band) 0 ≡ Some x → slice_get (tasks_from bands band) 0 ≡ Some x
tasks_from_head bands band x h some = ap (λ xs. slice_get xs 0) (tasks_from_more bands band h) ∙ some_append (list_at bands band) (tasks_from bands (band + 1)) x some

-- a task of these bands stands in one of them
in_some_band : (bands : List (List ℕ)) (once : IsOnceEach bands) (task rest band : ℕ) → band + rest ≡ length bands → has task (tasks_from bands band) ≡ true → (b : ℕ) × (band ≤ b) × (b < length bands) × (place_of task bands ≡ Some b)
in_some_band bands once task zero band e m = absurd (false≢true (sym (ap (has task) (tasks_from_past bands band (omega arith))) ∙ m))
in_some_band bands once task (suc rest) band e m =
    elim (has_append task (list_at bands band) (tasks_from bands (band + 1)) (sym (ap (has task) (tasks_from_more bands band (omega arith))) ∙ m)) [
      | inl here ↦ (band, omega arith, omega arith, once.between band task (omega arith) here)
      | inr there ↦
          let found = in_some_band bands once task rest (band + 1) (omega arith) there in
          (found.0, omega arith, found.2, found.3)
    ]

pub band_of_task : (bands : List (List ℕ)) (once : IsOnceEach bands) (task band : ℕ) → has task (tasks_from bands band) ≡ true → (b : ℕ) × (band ≤ b) × (b < length bands) × (place_of task bands ≡ Some b)
band_of_task bands once task band m = elim (cases_lt band (length bands)) [
  | inl lt ↦ in_some_band bands once task (length bands - band) band (omega arith) m
  | inr past ↦ absurd (false≢true (sym (ap (has task) (tasks_from_past bands band past)) ∙ m))
]

-- no task comes twice
IsOnce-tasks : (bands : List (List ℕ)) (once : IsOnceEach bands) (rest band : ℕ) → band + rest ≡ length bands → IsOnce (tasks_from bands band)
IsOnce-tasks bands once zero band e = subst IsOnce (sym (tasks_from_past bands band (omega arith))) tt
IsOnce-tasks bands once (suc rest) band e = subst IsOnce (sym (tasks_from_more bands band (omega arith)))
    (IsOnce-append (list_at bands band) (tasks_from bands (band + 1)) (once.within band (omega arith)) (IsOnce-tasks bands once rest (band + 1) (omega arith)) (λ x here. false_from_ne_true _ (λ there.
    let found = band_of_task bands once x (band + 1) there in
    let same : band ≡ found.0 = same_Some band found.0 (sym (once.between band x (omega arith) here) ∙ found.3) in
    omega arith)))

pub IsOnce-tasks_from : (bands : List (List ℕ)) (once : IsOnceEach bands) (band : ℕ) → IsOnce (tasks_from bands band)
IsOnce-tasks_from bands once band = elim (cases_lt band (length bands)) [
  | inl lt ↦ IsOnce-tasks bands once (length bands - band) band (omega arith)
  | inr past ↦ subst IsOnce (sym (tasks_from_past bands band past)) tt
]

-- what comes after a task is looked for from its band on
after_from_band : (bands : List (List ℕ)) (once : IsOnceEach bands) (task b between band : ℕ) → band + between ≡ b → b < length bands → place_of task bands ≡ Some b → after task (tasks_from bands band) ≡ after task (tasks_from bands b)
after_from_band bands once task b zero band e lt place = ap (λ i. after task (tasks_from bands i)) (omega arith)
after_from_band bands once task b (suc between) band e lt place =
    ap (after task) (tasks_from_more bands band (omega arith))
    ∙ after-skip task (list_at bands band) (tasks_from bands (band + 1)) (false_from_ne_true _ (λ here.
    let same : band ≡ b = same_Some band b (sym (once.between band task (omega arith) here) ∙ place) in
    omega arith))
    ∙ after_from_band bands once task b between (band + 1) (omega arith) lt place

after_from : (bands : List (List ℕ)) (once : IsOnceEach bands) (task band b : ℕ) → has task (tasks_from bands band) ≡ true → place_of task bands ≡ Some b → after task (tasks_from bands band) ≡ after task (list_at bands b ++ tasks_from bands (b + 1))
after_from bands once task band b m place =
    let found = band_of_task bands once task band m in
    let same : found.0 ≡ b = same_Some found.0 b (sym found.3 ∙ place) in
    after_from_band bands once task b (b - band) band (omega arith) (omega arith) place ∙ ap (after task) (tasks_from_more bands b (omega arith))

-- the next task in its band comes after it
pub after_in_band : (bands : List (List ℕ)) (once : IsOnceEach bands) (task band x : ℕ) → has task (tasks_from bands band) ≡ true → after task (list_with task bands) ≡ Some x → after task (tasks_from bands band) ≡ Some x
after_in_band bands once task band x m next =
    let found = band_of_task bands once task band m in
    let at = has_at_place task found.0 bands found.3 in
    after_from bands once task band found.0 m found.3
    ∙ after-in_some task x (list_at bands found.0) (tasks_from bands (found.0 + 1)) (ap (λ i. after task (list_at bands i)) (sym at.1) ∙ next)

-- after the last of a band comes the least above it
pub after_above : (bands : List (List ℕ)) (once : IsOnceEach bands) (task band b : ℕ) → has task (tasks_from bands band) ≡ true → after task (list_with task bands) ≡ None → place_of task bands ≡ Some b → after task (tasks_from bands band) ≡ slice_get (tasks_from bands (b + 1)) 0
after_above bands once task band b m next place =
    let at = has_at_place task b bands place in
    after_from bands once task band b m place
    ∙ after-in_none task (list_at bands b) (tasks_from bands (b + 1)) at.2 (ap (λ i. after task (list_at bands i)) (sym at.1) ∙ next)
