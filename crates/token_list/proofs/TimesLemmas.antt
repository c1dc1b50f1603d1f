-- How often a slot stands in a list.
use Rattle.std.proofs.Common.{◌≡◌, ℕ, ◌+◌, ◌<◌, ◌≤◌, zero, suc, List, [], ◌∷◌, ◌++◌, length, get_or, take, drop, cond, eqb, refl, ap, arith}
use Rattle.std.specs.List.{insert, remove}
use Rattle.std.proofs.lemmas.Bool.Decides.{nat_tests}
use Rattle.std.proofs.lemmas.List.{take-append-drop}
use Rattle.token_list.specs.Slots.{times}

pub times-append : (v : ℕ) (xs ys : List ℕ) → times v (xs ++ ys) ≡ times v xs + times v ys
times-append v [] ys = omega arith
times-append v (x ∷ xs) ys = omega (arith, times-append v xs ys)

pub times-insert : (v : ℕ) (xs : List ℕ) (p k : ℕ) → times v (insert xs p k) ≡ cond (eqb k v) 1 0 + times v xs
times-insert v xs p k =
    omega (arith, times-append v (take p xs) (k ∷ drop p xs), times-append v (take p xs) (drop p xs), ap (times v) (take-append-drop p xs))

pub times-remove : (v : ℕ) (xs : List ℕ) (p d : ℕ) → p < length xs → cond (eqb (get_or xs p d) v) 1 0 + times v (remove xs p) ≡ times v xs
times-remove v [] p d h = absurd (omega arith)
times-remove v (x ∷ xs) zero d h = refl
times-remove v (x ∷ xs) (suc p) d h = omega (arith, times-remove v xs p d (omega arith))

-- what stands at a place stands there at least once
pub times-at : (xs : List ℕ) (p d k : ℕ) → p < length xs → get_or xs p d ≡ k → 1 ≤ times k xs
times-at [] p d k h e = absurd (omega arith)
times-at (x ∷ xs) zero d k h e = grind (arith, nat_tests)
times-at (x ∷ xs) (suc p) d k h e = omega (arith, times-at xs p d k (omega arith) e)
