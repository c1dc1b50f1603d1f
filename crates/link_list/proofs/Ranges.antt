-- A range of numbers, and one number more.
use Rattle.std.proofs.Common.{◌≡◌, ℕ, ◌+◌, List, [], ◌∷◌, ◌++◌, sym, ap, ◌∙◌, arith}
use Rattle.std.specs.List.{range_with_len}
use Rattle.std.proofs.lemmas.List.{map-id, append_assoc}
use Rattle.std.proofs.lemmas.List.FromFn.{map-range_with_len_more}

pub range_more : (n : ℕ) → range_with_len 0 (n + 1) ≡ range_with_len 0 n ++ n ∷ []
range_more n = sym (map-id (range_with_len 0 (n + 1))) ∙ map-range_with_len_more (λ k. k) 0 n n (omega arith) ∙ ap (λ xs. xs ++ n ∷ []) (map-id (range_with_len 0 n))

pub range_more_behind : (xs : List ℕ) (n : ℕ) → xs ++ range_with_len 0 (n + 1) ≡ (xs ++ range_with_len 0 n) ++ n ∷ []
range_more_behind xs n = ap (λ ys. xs ++ ys) (range_more n) ∙ sym (append_assoc xs (range_with_len 0 n) (n ∷ []))
