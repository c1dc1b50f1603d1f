-- What is left of a list from a key on, while it is gone through.
use Rattle.std.proofs.Common.{◌≡◌, ℕ, Bool, true, false, inl, inr, List, [], ◌∷◌, refl, sym, ap, ◌∙◌, cond, find, nat_eq, slice_get, is_some, Option, Some, None}
use Rattle.std.proofs.lemmas.Bool.{cases_eq, eq-eqb, ne_eqb, false≢true}
use Rattle.std.proofs.lemmas.Option.{none-some, same_Some}
use Rattle.link_list.specs.KeyLists.{has, after, IsOnce}
use Rattle.link_list.proofs.Members.{has_at_head, has_in_rest, other_in_rest, apart_from_has, has_after}
use Rattle.priority_bands.specs.Banded.{IsFirstTrue}

pub none_if : (o : Option ℕ) → is_some o ≡ false → o ≡ None
none_if None h = refl
none_if (Some x) h = absurd (false≢true (sym h))

abbrev suffix_at : ℕ → List ℕ → List ℕ
suffix_at key [] = []
suffix_at key (x ∷ xs) = cond (nat_eq key x) (x ∷ xs) (suffix_at key xs)

-- the keys from one on, or none
abbrev pub rest_from : Option ℕ → List ℕ → List ℕ
rest_from None xs = []
rest_from (Some key) xs = suffix_at key xs

pub rest_from_first : (xs : List ℕ) → rest_from (slice_get xs 0) xs ≡ xs
rest_from_first [] = refl
rest_from_first (x ∷ xs) = rw (eq-eqb x x refl) refl

-- from another key than the head
rest_in_tail : (o : Option ℕ) (x : ℕ) (xs : List ℕ) → has x xs ≡ false → ((y : ℕ) → o ≡ Some y → has y xs ≡ true) → rest_from o (x ∷ xs) ≡ rest_from o xs
rest_in_tail None x xs h m = refl
rest_in_tail (Some y) x xs h m = rw (ne_eqb y x (apart_from_has y x xs (m y refl) h)) refl

pub first_has : (xs : List ℕ) (y : ℕ) → slice_get xs 0 ≡ Some y → has y xs ≡ true
first_has [] y h = absurd (none-some y h)
first_has (x ∷ xs) y h = has_at_head y x xs (sym (same_Some x y h))

-- one key on
pub rest_from_key : (key : ℕ) (xs : List ℕ) → IsOnce xs → has key xs ≡ true → rest_from (Some key) xs ≡ key ∷ rest_from (after key xs) xs
rest_from_key key [] o m = absurd (false≢true m)
rest_from_key key (x ∷ xs) o m = elim (cases_eq key x) [
  | inl e ↦ rw (eq-eqb key x e) (ap (λ i. i ∷ xs) (sym e) ∙ ap (λ ys. key ∷ ys) (sym (rest_in_tail (slice_get xs 0) x xs o.0 (first_has xs) ∙ rest_from_first xs)))
  | inr e ↦ rw (ne_eqb key x e) (rest_from_key key xs o.1 (other_in_rest key x xs m e) ∙ ap (λ ys. key ∷ ys) (sym (rest_in_tail (after key xs) x xs o.0 (λ y a. has_after key y xs a))))
]

-- where each task has one answer, the first that was answered true is the first that passes
pub first_true_is_find : (answers : ℕ → Bool → Type 0) (q : ℕ → Bool) (tasks : List ℕ) (first : Option ℕ) → IsFirstTrue answers tasks first → ((t : ℕ) (x : Bool) → has t tasks ≡ true → answers t x → x ≡ q t) → first ≡ find q tasks
first_true_is_find answers q [] first h one = h
first_true_is_find answers q (t ∷ tasks) first h one = elim h [
  | inl passed ↦ rw (sym (one t true (has_at_head t t tasks refl) passed.0)) passed.1
  | inr failed ↦ rw (sym (one t false (has_at_head t t tasks refl) failed.0)) (first_true_is_find answers q tasks first failed.1 (λ u x m. one u x (has_in_rest u t tasks m)))
]
