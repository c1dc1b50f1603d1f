-- Lists that keep, in rising order, exactly the elements with a test.
use Rattle.std.specs.Prelude.{◌≡◌, List, [], ◌∷◌, Bool, true, ◌⊎◌}

-- x is one of the list
abbrev pub Has : {A : Type 0} → List A → A → Type 0
Has [] x = ⊥
Has (y ∷ ys) x = (y ≡ x) ⊎ Has ys x

-- each element is less than each later one
abbrev pub Rising : {A : Type 0} → (A → A → Bool) → List A → Type 0
Rising less [] = Unit {0}
Rising {A} less (x ∷ xs) = ((y : A) → Has xs y → less x y ≡ true) × Rising less xs

-- xs holds the elements of a whole that pass a test, and no other, in rising order
pub record Keeps {A : Type 0} (whole : List A) (test : A → Bool) (less : A → A → Bool) (xs : List A) : Type 0 where
  pub rising : Rising less xs
  pub within : (x : A) → Has xs x → Has whole x
  pub passes : (x : A) → Has xs x → test x ≡ true
  pub all : (x : A) → Has whole x → test x ≡ true → Has xs x

-- no element stands twice
abbrev pub Distinct : {A : Type 0} → List A → Type 0
Distinct [] = Unit {0}
Distinct (x ∷ xs) = (Has xs x → ⊥) × Distinct xs
