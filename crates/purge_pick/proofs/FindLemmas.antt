-- The first object that is found in a list of queues and groups.
use Rattle.std.proofs.Common.{◌≡◌, ℕ, ◌+◌, ◌-◌, ◌<◌, suc, List, ◌∷◌, Option, Some, None, refl, ap, arith}
use Rattle.std.specs.List.{range_with_len}
use Rattle.kern_ids.specs.declared.calls.Queue.{Queue}
use Rattle.kernel_model.specs.Lists.{first_some}
use Rattle.purge_pick.specs.Picks.{first_of, both_places}

pub range_with_len-more : (i n : ℕ) → i < n → range_with_len i (n - i) ≡ i ∷ range_with_len (i + 1) (n - (i + 1))
range_with_len-more i n h =
    let e : n - i ≡ suc (n - (i + 1)) = omega arith in
    ap (range_with_len i) e

pub first_some-yes : {A : Type 0} (f : A → Option ℕ) (x : A) (xs : List A) (y : ℕ) → f x ≡ Some y → first_some f (x ∷ xs) ≡ Some y
first_some-yes f x xs y e = rw (e, first_some) refl

pub first_some-no : {A : Type 0} (f : A → Option ℕ) (x : A) (xs : List A) → f x ≡ None → first_some f (x ∷ xs) ≡ first_some f xs
first_some-no f x xs e = rw (e, first_some) refl

-- what is left to look through at group i
pub first_of-both : (gs : List (List ℕ)) (own other : Queue) (i : ℕ) → i < 8
    → first_of gs (both_places own other (range_with_len i (8 - i))) ≡ first_of gs ((own, i) ∷ (other, i) ∷ both_places own other (range_with_len (i + 1) (8 - (i + 1))))
first_of-both gs own other i h = ap (λ ns. first_of gs (both_places own other ns)) (range_with_len-more i 8 h)
