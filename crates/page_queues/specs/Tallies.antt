-- Keys of pages in lists, and how many of each object's pages a list has.
use Rattle.std.specs.Prelude.{◌≡◌, ℕ, Bool, ◌+◌, ◌*◌, ◌/◌, ◌<◌, ◌≤◌, List, ◌++◌, [], ◌∷◌, length, map, set, filter, nat_eq, slice_index_or}
use Rattle.link_list.specs.KeyLists.{KeyLists, list_at, without}

-- whether a key is that of a page of an object
abbrev pub is_of : ℕ → ℕ → Bool
is_of o key = nat_eq (key / 256) o

-- how many pages of an object stand in a list
abbrev pub count_of : ℕ → List ℕ → ℕ
count_of o keys = length (filter (is_of o) keys)

-- the lists without a key
abbrev pub taken : List (List ℕ) → ℕ → List (List ℕ)
taken lists key = map (without key) lists

-- the lists after a key left its list, if it stood in one, and went to the tail of list l
abbrev pub moved : List (List ℕ) → ℕ → ℕ → List (List ℕ)
moved lists key l = set (taken lists key) l (list_at (taken lists key) l ++ key ∷ [])

-- the lists, and the number of objects whose pages they have
pub record Tallies : Type 0 where
  pub objects : ℕ
  pub lists : List (List ℕ)

-- three lists of the pages of some objects; `lengths` has the length of each list, and `counts` at 3 o + l the
-- number of the pages of object o in list l
pub record IsTallied (objects : ℕ) (kept : KeyLists) (lengths counts : List ℕ) : Type 0 where
  pub few : objects ≤ 256
  pub cap : kept.cap ≡ 256 * objects
  pub three : length kept.lists ≡ 3
  pub each_length : length lengths ≡ 3
  pub each_count : length counts ≡ 3 * objects
  pub lengths_are : (l : ℕ) → l < 3 → slice_index_or lengths l 0 ≡ length (list_at kept.lists l)
  pub counts_are : (o l : ℕ) → o < objects → l < 3 → slice_index_or counts (3 * o + l) 0 ≡ count_of o (list_at kept.lists l)
