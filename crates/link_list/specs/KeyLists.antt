-- Lists of keys, numbered from 0. A key stands in one of them at most, and there once.
use Rattle.std.specs.Prelude.{◌≡◌, ℕ, Bool, false, ◌<◌, List, [], ◌∷◌, Option, Some, None, nat_eq, not, filter, length, position, slice_get, slice_index_or, if◌then◌else◌}
use Rattle.std.specs.List.{list_any, position_or_len}

-- the lists, and the number below which all keys are
pub record KeyLists : Type 0 where
  pub cap : ℕ
  pub lists : List (List ℕ)

-- list number l
abbrev pub list_at : List (List ℕ) → ℕ → List ℕ
list_at lists l = slice_index_or lists l []

-- whether a key stands in a list
abbrev pub has : ℕ → List ℕ → Bool
has key xs = list_any (nat_eq key) xs

-- the number of the list in which a key stands, if it stands in one
abbrev pub place_of : ℕ → List (List ℕ) → Option ℕ
place_of key lists = position (has key) lists

-- the list in which a key stands, or the empty list
abbrev pub list_with : ℕ → List (List ℕ) → List ℕ
list_with key lists = list_at lists (position_or_len (has key) lists)

-- the key that comes right after a key in a list
abbrev pub after : ℕ → List ℕ → Option ℕ
after key [] = None
after key (x ∷ xs) = if nat_eq key x then slice_get xs 0 else after key xs

-- a list without a key
abbrev pub without : ℕ → List ℕ → List ℕ
without key xs = filter (λ x. not (nat_eq key x)) xs

-- no key stands twice in a list
abbrev pub IsOnce : List ℕ → Type 0
IsOnce [] = Unit {0}
IsOnce (x ∷ xs) = (has x xs ≡ false) × IsOnce xs

-- no key stands twice over all lists: where it stands is the list that `place_of` tells
pub record IsOnceEach (lists : List (List ℕ)) : Type 0 where
  pub within : (l : ℕ) → l < length lists → IsOnce (list_at lists l)
  pub between : (l key : ℕ) → l < length lists → has key (list_at lists l) ≡ Bool.true → place_of key lists ≡ Some l
