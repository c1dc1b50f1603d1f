-- The first place at which a test passes.
use Rattle.std.proofs.Common.{◌≡◌, ℕ, ◌≤◌, List, length, cond, Bool, true, false, not, Some, None, refl, arith, nat_lt}
use Rattle.std.specs.List.{position, position_or_len}
use Rattle.std.proofs.lemmas.Bool.{ltb-false}
use Rattle.std.proofs.lemmas.List.Sums.{prefix_len-le-length}

some-at : (b : Bool) (n i : ℕ) → cond b (Some n) None ≡ Some i → i ≡ n
some-at true n i h = cc
some-at false n i h = cc

none-at : (b : Bool) (n : ℕ) → cond b (Some n) None ≡ None → b ≡ false
none-at true n h = cc
none-at false n h = refl

pub position_at : {A : Type 0} (p : A → Bool) (xs : List A) (i : ℕ) → position p xs ≡ Some i → i ≡ position_or_len p xs
position_at p xs i h = some-at (nat_lt (position_or_len p xs) (length xs)) (position_or_len p xs) i h

pub position_bound : {A : Type 0} (p : A → Bool) (xs : List A) → position_or_len p xs ≤ length xs
position_bound p xs = prefix_len-le-length (λ x. not (p x)) xs

pub position_past : {A : Type 0} (p : A → Bool) (xs : List A) → position p xs ≡ None → length xs ≡ position_or_len p xs
position_past p xs h =
    let l : length xs ≤ position_or_len p xs = ltb-false (position_or_len p xs) (length xs) (none-at (nat_lt (position_or_len p xs) (length xs)) (position_or_len p xs) h) in
    let b = position_bound p xs in
    omega arith
