-- Tests that agree find, keep and count the same.
use Rattle.std.proofs.Common.{◌≡◌, ◌+◌, List, [], ◌∷◌, refl, ap, ◌∙◌, sym, Bool, not, cond, find, filter, count_by}
use Rattle.std.specs.List.{list_any}
use Rattle.kernel_model.specs.Lists.{least}
use Rattle.std.proofs.lemmas.List.Sums.{sum_by-cons}

module _ {A : Type 0} (p q : A → Bool) (agree : (x : A) → p x ≡ q x) where
  pub find-agree : (xs : List A) → find p xs ≡ find q xs
  find-agree [] = refl
  find-agree (x ∷ xs) = rw (agree x, find-agree xs) refl

  pub any-agree : (xs : List A) → list_any p xs ≡ list_any q xs
  any-agree [] = refl
  any-agree (x ∷ xs) = rw (agree x, any-agree xs) refl

  pub filter-agree : (xs : List A) → filter p xs ≡ filter q xs
  filter-agree [] = refl
  filter-agree (x ∷ xs) = rw (agree x, filter-agree xs) refl

pub count_by-cons : {A : Type 0} (p : A → Bool) (x : A) (xs : List A) → count_by p (x ∷ xs) ≡ cond (p x) 1 0 + count_by p xs
count_by-cons p x xs = sum_by-cons (λ x. cond (p x) 1 0) x xs

pub count_by-agree : {A : Type 0} (p q : A → Bool) → ((x : A) → p x ≡ q x) → (xs : List A) → count_by p xs ≡ count_by q xs
count_by-agree p q agree [] = refl
count_by-agree p q agree (x ∷ xs) = count_by-cons p x xs ∙ rw (agree x, count_by-agree p q agree xs) (sym (count_by-cons q x xs))

pub least-agree : {A : Type 0} (l m : A → A → Bool) → ((x y : A) → l x y ≡ m x y) → (xs : List A) → least l xs ≡ least m xs
least-agree l m agree xs = find-agree (λ x. not (list_any (λ y. l y x) xs)) (λ x. not (list_any (λ y. m y x) xs)) (λ x. ap not (any-agree (λ y. l y x) (λ y. m y x) (λ y. agree y x) xs)) xs
