-- An edit next to a place that has been written.
use Rattle.std.proofs.Common.{◌≡◌, ℕ, ◌<◌, zero, suc, List, [], ◌∷◌, length, get_or, set, refl, ap, arith}
use Rattle.std.specs.List.{insert, remove}

pub insert-set_after : {X : Type 0} (xs : List X) (p : ℕ) (y d : X) → p < length xs → insert (set xs p y) (suc p) (get_or xs p d) ≡ insert xs p y
insert-set_after [] p y d h = absurd (omega arith)
insert-set_after (x ∷ xs) zero y d h = refl
insert-set_after (x ∷ xs) (suc p) y d h = ap (λ r. x ∷ r) (insert-set_after xs p y d (omega arith))

pub insert-set_before : {X : Type 0} (xs : List X) (p : ℕ) (y d : X) → p < length xs → insert (set xs p y) p (get_or xs p d) ≡ insert xs (suc p) y
insert-set_before [] p y d h = absurd (omega arith)
insert-set_before (x ∷ xs) zero y d h = refl
insert-set_before (x ∷ xs) (suc p) y d h = ap (λ r. x ∷ r) (insert-set_before xs p y d (omega arith))

pub remove-set_after : {X : Type 0} (xs : List X) (p : ℕ) (d : X) → suc p < length xs → remove (set xs p (get_or xs (suc p) d)) (suc p) ≡ remove xs p
remove-set_after [] p d h = absurd (omega arith)
remove-set_after (x ∷ []) p d h = absurd (omega arith)
remove-set_after (x ∷ y ∷ xs) zero d h = refl
remove-set_after (x ∷ y ∷ xs) (suc p) d h = ap (λ r. x ∷ r) (remove-set_after (y ∷ xs) p d (omega arith))

pub remove-set_before : {X : Type 0} (xs : List X) (p : ℕ) (d : X) → suc p < length xs → remove (set xs (suc p) (get_or xs p d)) p ≡ remove xs (suc p)
remove-set_before [] p d h = absurd (omega arith)
remove-set_before (x ∷ []) p d h = absurd (omega arith)
remove-set_before (x ∷ y ∷ xs) zero d h = refl
remove-set_before (x ∷ y ∷ xs) (suc p) d h = ap (λ r. x ∷ r) (remove-set_before (y ∷ xs) p d (omega arith))
