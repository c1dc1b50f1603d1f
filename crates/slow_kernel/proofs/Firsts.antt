-- The first of some numbers at which something is found, as a loop meets it.
use Rattle.std.proofs.Common.{◌≡◌, ℕ, ◌+◌, List, [], ◌∷◌, ◌++◌, map, Option, Some, None, refl, ap, ◌∙◌}
use Rattle.std.specs.List.{range_with_len, flat_map}
use Rattle.kernel_model.specs.Lists.{first_some}
use Rattle.kernel_model.proofs.Ranges.{range_push}
use Rattle.slow_kernel.specs.ObjectTables.{or_else}

pub first_some_append : {A B : Type 0} (f : A → Option B) (xs ys : List A) → first_some f (xs ++ ys) ≡ or_else (first_some f xs) (first_some f ys)
first_some_append f [] ys = refl
first_some_append f (x ∷ xs) ys =
    elim (f x) as (λ o. elim o [ Some y ↦ Some y | None ↦ first_some f (xs ++ ys) ] ≡ or_else (elim o [ Some y ↦ Some y | None ↦ first_some f xs ]) (first_some f ys))
    [ Some y ↦ refl | None ↦ first_some_append f xs ys ]

pub first_some_map : {A B C : Type 0} (f : B → Option C) (h : A → B) (xs : List A) → first_some f (map h xs) ≡ first_some (λ x. f (h x)) xs
first_some_map f h [] = refl
first_some_map f h (x ∷ xs) =
    ap (λ o. elim (f (h x)) [ Some y ↦ Some y | None ↦ o ]) (first_some_map f h xs)

pub first_some_flat_map : {A B C : Type 0} (f : B → Option C) (h : A → List B) (xs : List A) → first_some f (flat_map h xs) ≡ first_some (λ x. first_some f (h x)) xs
first_some_flat_map f h [] = refl
first_some_flat_map f h (x ∷ xs) =
    first_some_append f (h x) (flat_map h xs)
    ∙ ap (or_else (first_some f (h x))) (first_some_flat_map f h xs)
    ∙ elim (first_some f (h x)) as (λ o. or_else o (first_some (λ x. first_some f (h x)) xs) ≡ elim o [ Some y ↦ Some y | None ↦ first_some (λ x. first_some f (h x)) xs ]) [ Some y ↦ refl | None ↦ refl ]

or-none : {A : Type 0} (o : Option A) → elim o [ Some y ↦ Some y | None ↦ None ] ≡ o
or-none None = refl
or-none (Some x) = refl

-- one number more
pub first_some_more : {B : Type 0} (f : ℕ → Option B) (i : ℕ) → first_some f (range_with_len 0 (i + 1)) ≡ or_else (first_some f (range_with_len 0 i)) (f i)
first_some_more f i =
    ap (first_some f) (range_push i)
    ∙ first_some_append f (range_with_len 0 i) (i ∷ [])
    ∙ ap (or_else (first_some f (range_with_len 0 i))) (or-none (f i))

pub or_else_assoc : {A : Type 0} (a b c : Option A) → or_else (or_else a b) c ≡ or_else a (or_else b c)
or_else_assoc (Some x) b c = refl
or_else_assoc None b c = refl
