-- How lists of keys stand in arrays of links. The numbers below `cap` are the keys; number `cap + l` is the
-- end mark of list l. The links of a list make a ring: from its end mark through its keys and back to it.
use Rattle.std.specs.Prelude.{◌≡◌, ℕ, true, ◌+◌, ◌<◌, ◌≤◌, zero, suc, List, [], ◌∷◌, length, map, slice_index_or, nat_lt, if◌then◌else◌}
use Rattle.std.specs.List.{range_with_len}
use Rattle.link_list.specs.KeyLists.{list_at, has, IsOnce}

-- the links run from a through the keys xs to z, and back
abbrev pub Runs : List ℕ → List ℕ → ℕ → List ℕ → ℕ → Type 0
Runs next prev a [] z = (slice_index_or next a 0 ≡ z) × (slice_index_or prev z 0 ≡ a)
Runs next prev a (x ∷ xs) z = (slice_index_or next a 0 ≡ x) × (slice_index_or prev x 0 ≡ a) × Runs next prev x xs z

-- the keys from a number on, up to the first end mark, and at most `most` of them
abbrev pub walk : List ℕ → ℕ → ℕ → ℕ → List ℕ
walk next cap zero a = []
walk next cap (suc most) a = if nat_lt a cap then a ∷ walk next cap most (slice_index_or next a 0) else []

-- list l, by its links
abbrev pub walked : List ℕ → ℕ → ℕ → List ℕ
walked next cap l = walk next cap cap (slice_index_or next (cap + l) 0)

-- the n lists, by their links
abbrev pub lists_of : ℕ → List ℕ → ℕ → List (List ℕ)
lists_of n next cap = map (walked next cap) (range_with_len 0 n)

-- the arrays hold these n lists: each list is a ring, and `owner` tells for each key the number of its list,
-- or n, and for each end mark the number of the list that it ends
pub record IsLinked (n cap : ℕ) (next prev owner : List ℕ) (lists : List (List ℕ)) : Type 0 where
  pub nexts : length next ≡ cap + n
  pub prevs : length prev ≡ cap + n
  pub owners : length owner ≡ cap + n
  pub count : length lists ≡ n
  pub rings : (l : ℕ) → l < n → Runs next prev (cap + l) (list_at lists l) (cap + l)
  pub once : (l : ℕ) → l < n → IsOnce (list_at lists l)
  pub owned : (l key : ℕ) → l < n → has key (list_at lists l) ≡ true → (key < cap) × (slice_index_or owner key 0 ≡ l)
  pub found : (key : ℕ) → key < cap → slice_index_or owner key 0 < n → has key (list_at lists (slice_index_or owner key 0)) ≡ true
  pub marks : (l : ℕ) → l < n → slice_index_or owner (cap + l) 0 ≡ l
  pub bound : (key : ℕ) → key < cap → slice_index_or owner key 0 ≤ n
