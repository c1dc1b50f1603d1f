-- Where a key stands after the lists were changed.
use Rattle.std.proofs.Common.{◌≡◌, ℕ, true, false, ◌<◌, ◌≤◌, inl, inr, List, [], length, map, refl, sym, ap, ◌∙◌, arith, subst, Some, None}
use Rattle.std.specs.List.{position_or_len}
use Rattle.std.proofs.lemmas.List.{get_or-map, length-map, same_lists, get_or_past, get_or_default}
use Rattle.std.proofs.lemmas.List.Sums.{position_or_len_is, fails_before_first, passes_at_first}
use Rattle.std.proofs.lemmas.Bool.{cases_lt, lt-ltb, le-ltb, false_from_ne_true}
use Rattle.std.proofs.lemmas.Option.{none-some, same_Some}
use Rattle.link_list.specs.KeyLists.{list_at, has, without, place_of}
use Rattle.link_list.proofs.Members.{has_without, without_absent}

-- no list that isn't there has a key
pub has_past : (key : ℕ) (lists : List (List ℕ)) (l : ℕ) → length lists ≤ l → has key (list_at lists l) ≡ false
has_past key lists l h = ap (has key) (get_or_past lists l [] h)

-- a key that stands nowhere is in no list
pub has_nowhere : (key : ℕ) (lists : List (List ℕ)) (l : ℕ) → place_of key lists ≡ None → has key (list_at lists l) ≡ false
has_nowhere key lists l none = elim (cases_lt l (length lists)) [
  | inl lt ↦ elim (cases_lt (position_or_len (has key) lists) (length lists)) [
    | inl found ↦ absurd (none-some (position_or_len (has key) lists) (sym none ∙ rw (lt-ltb _ _ found) refl))
    | inr past ↦ fails_before_first (has key) lists l [] (omega arith)
  ]
  | inr past ↦ has_past key lists l past
]

-- and the other way round
pub place_nowhere : (key : ℕ) (lists : List (List ℕ)) → ((l : ℕ) → l < length lists → has key (list_at lists l) ≡ false) → place_of key lists ≡ None
place_nowhere key lists none =
    let at_end : position_or_len (has key) lists ≡ length lists = position_or_len_is (has key) lists (length lists) [] (omega arith) none (λ lt. absurd (omega arith)) in
    rw (at_end, le-ltb (length lists) (length lists) (omega arith)) refl

-- a key stands in the list that `place_of` tells
pub has_at_place : (key l : ℕ) (lists : List (List ℕ)) → place_of key lists ≡ Some l → (l < length lists) × (position_or_len (has key) lists ≡ l) × (has key (list_at lists l) ≡ true)
has_at_place key l lists e = elim (cases_lt (position_or_len (has key) lists) (length lists)) [
  | inl found ↦
      let is : position_or_len (has key) lists ≡ l = same_Some _ _ (sym (rw (lt-ltb _ _ found) refl) ∙ e) in
      (subst (λ i. i < length lists) is found, is, subst (λ i. has key (list_at lists i) ≡ true) is (passes_at_first (has key) lists [] found))
  | inr past ↦ absurd (none-some l (sym (rw (le-ltb _ _ past) refl) ∙ e))
]

-- taking out a key that stands nowhere changes nothing
pub without_nowhere : (key : ℕ) (lists : List (List ℕ)) → place_of key lists ≡ None → map (without key) lists ≡ lists
without_nowhere key lists none = same_lists _ _ (length-map lists (without key)) (λ l d lt.
    let inside : l < length lists = subst (λ i. l < i) (length-map lists (without key)) lt in
    get_or-map (without key) lists l [] d inside ∙ without_absent key (list_at lists l) (has_nowhere key lists l none) ∙ get_or_default lists l [] d inside)

-- a key that was taken out stands nowhere
pub place_of-removed : (key : ℕ) (lists : List (List ℕ)) → place_of key (map (without key) lists) ≡ None
place_of-removed key lists = place_nowhere key (map (without key) lists) (λ l lt.
    let inside : l < length lists = subst (λ i. l < i) (length-map lists (without key)) lt in
    ap (has key) (get_or-map (without key) lists l [] [] inside) ∙ false_from_ne_true _ (λ m. (has_without key key (list_at lists l) m).0 refl))
