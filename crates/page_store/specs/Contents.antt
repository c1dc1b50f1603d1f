-- The bytes of an object, and its places that are prepared. A place is the number of a byte; an object has those
-- below 1,048,576, which are 256 pages of 4,096.
use Rattle.std.specs.Prelude.{◌≡◌, ℕ, ◌+◌, ◌-◌, ◌/◌, ◌<◌, ◌≤◌, Bool, true, false, ◌&&◌, List, [], ◌∷◌, map, filter, replicate, nat_eq, nat_lt, nat_le, slice_get, slice_index_or, Option, None, if◌then◌else◌}
use Rattle.std.specs.List.{range_with_len}
use Rattle.std.specs.Option.{unwrap_or}

-- `bytes` is a finite map, as the list of its places in rising order, each with its byte; a byte that it doesn't
-- have is 0, and it has no byte 0. `prepared` says for each page whether its places are prepared
pub record Contents : Type 0 where
  pub bytes : List (ℕ × ℕ)
  pub prepared : List Bool

-- of the places from first to below first + n those whose byte isn't 0, each with its byte, where f has the bytes
abbrev pub bytes_between : (ℕ → ℕ) → ℕ → ℕ → List (ℕ × ℕ)
bytes_between f first n = map (λ place. (place, f place)) (filter (λ place. nat_lt 0 (f place)) (range_with_len first n))

-- the finite map of the bytes of all places of an object
unfoldable pub bytes_of : (ℕ → ℕ) → List (ℕ × ℕ)
bytes_of f = bytes_between f 0 1048576

-- the byte of a place
abbrev pub byte_at : List (ℕ × ℕ) → ℕ → ℕ
byte_at [] place = 0
byte_at (entry ∷ rest) place = if nat_eq entry.0 place then entry.1 else byte_at rest place

-- two functions have the same byte at each place of an object
abbrev pub AreAlike : (ℕ → ℕ) → (ℕ → ℕ) → Type 0
AreAlike f g = (place : ℕ) → place < 1048576 → f place ≡ g place

-- the byte that a write of some bytes from a place on gives to a place
abbrev pub written_at : ℕ → List ℕ → ℕ → Option ℕ
written_at off bytes place = if nat_le off place then slice_get bytes (place - off) else None

-- the bytes after a write: what it gives, and elsewhere what was there
abbrev pub overwritten : List (ℕ × ℕ) → ℕ → List ℕ → List (ℕ × ℕ)
overwritten old off bytes = bytes_of (λ place. unwrap_or (written_at off bytes place) (byte_at old place))

-- all bytes 0, and nothing prepared
abbrev pub nothing : Contents
nothing = record { bytes = []; prepared = replicate 256 false }

-- whether a place is prepared
abbrev pub is_prepared : Contents → ℕ → Bool
is_prepared contents place = slice_index_or contents.prepared (place / 4096) false

-- whether each place of a range is prepared
pub record IsRangePrepared (contents : Contents) (off len : ℕ) : Type 0 where
  pub each : (place : ℕ) → off ≤ place → place < off + len → is_prepared contents place ≡ true

-- whether a place is on a page that has a byte of the range
abbrev pub shares_page : ℕ → ℕ → ℕ → Bool
shares_page off len place = nat_lt 0 len && nat_le (off / 4096) (place / 4096) && nat_le (place / 4096) ((off + len - 1) / 4096)
