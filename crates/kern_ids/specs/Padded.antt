-- A list that is kept in an array with a fill behind it.
use Rattle.std.specs.Prelude.{◌≡◌, ℕ, ◌+◌, ◌≤◌, ◌<◌, ◌-◌, List, ◌++◌, length, take, drop, replicate, slice_set}
use Rattle.std.proofs.Common.{refl, ap, ◌∙◌, arith}
use Rattle.std.proofs.lemmas.List.{drop-set-lt, drop-drop, length-take-le, take-append-drop, drop-replicate, drop_at, length-append, length-replicate, length-set}

-- the list, filled up to the array's size
abbrev pub padded : {A : Type 0} → A → ℕ → List A → List A
padded fill size xs = xs ++ replicate (size - length xs) fill

-- the array holds its first len elements and then only the fill
pub record IsPadded {A : Type 0} (fill : A) (size len : ℕ) (array : List A) : Type 0 where
  pub within : len ≤ size
  pub long : length array ≡ size
  pub rest : drop len array ≡ replicate (size - len) fill

pub length-padded : {A : Type 0} (fill : A) (size len : ℕ) (array : List A) → IsPadded fill size len array → length (take len array) ≡ len
length-padded fill size len array h = length-take-le len array (let w = h.within in rw h.long w)

-- an array that holds a list and then the fill is that list filled up
pub padded-take : {A : Type 0} (fill : A) (size len : ℕ) (array : List A) → IsPadded fill size len array → padded fill size (take len array) ≡ array
padded-take fill size len array h =
    let l : length (take len array) ≡ len = length-padded fill size len array h in
    rw (l, ← h.rest) (take-append-drop len array)

-- a list before the rest of the fill
pub IsPadded-copied : {A : Type 0} (fill : A) (size : ℕ) (xs : List A) → length xs ≤ size → IsPadded fill size (length xs) (xs ++ drop (length xs) (replicate size fill))
IsPadded-copied fill size xs h = record {
  within = h;
  long = rw (drop-replicate (length xs) size fill, length-append xs (replicate (size - length xs) fill), length-replicate (size - length xs) fill) (omega arith);
  rest = rw (drop_at xs (drop (length xs) (replicate size fill)) (length xs) refl) (drop-replicate (length xs) size fill);
}

-- writing over the first of the fill
pub IsPadded-set : {A : Type 0} (fill : A) (size len : ℕ) (array : List A) (x : A) → IsPadded fill size len array → len < size → IsPadded fill size (len + 1) (slice_set array len x)
IsPadded-set fill size len array x h l = record {
  within = omega arith;
  long = length-set array len x ∙ h.long;
  rest = rw (drop-set-lt (len + 1) array len x (omega arith), ← drop-drop 1 len array, h.rest, drop-replicate 1 (size - len) fill) (ap (λ n. replicate n fill) (omega arith));
}
