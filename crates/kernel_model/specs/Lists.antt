-- Words on lists and options.
use Rattle.std.specs.Prelude.{ℕ, List, [], ◌∷◌, Bool, not, Option, Some, None, if◌then◌else◌, find, nat_lt, nat_eq, ◌||◌, ◌&&◌}
use Rattle.std.specs.List.{list_any}

-- the first of these that is something
abbrev pub first_some : {A B : Type 0} → (A → Option B) → List A → Option B
first_some f [] = None
first_some f (x ∷ xs) = elim (f x) [ Some y ↦ Some y | None ↦ first_some f xs ]

-- something where the test holds
abbrev pub some_if : {A : Type 0} → Bool → A → Option A
some_if b x = if b then Some x else None

-- the element that none is less than, the first of them
abbrev pub least : {A : Type 0} → (A → A → Bool) → List A → Option A
least less xs = find (λ x. not (list_any (λ y. less y x) xs)) xs

-- a list in rising order
abbrev pub put : {A : Type 0} → (A → A → Bool) → A → List A → List A
put less x [] = x ∷ []
put less x (y ∷ ys) = if less x y then x ∷ y ∷ ys else y ∷ put less x ys

abbrev pub in_order : {A : Type 0} → (A → A → Bool) → List A → List A
in_order less [] = []
in_order less (x ∷ xs) = put less x (in_order less xs)

-- pairs in their order
abbrev pub pair_lt : ℕ × ℕ → ℕ × ℕ → Bool
pair_lt a b = nat_lt a.0 b.0 || (nat_eq a.0 b.0 && nat_lt a.1 b.1)

-- a list without its last
abbrev pub but_last : {A : Type 0} → List A → List A
but_last [] = []
but_last (x ∷ xs) = elim xs [ [] ↦ [] | y ∷ ys ↦ x ∷ but_last xs ]
