-- The pages of a body, each absent or an array of 4,096 bytes, and how a slab keeps them.
use Rattle.std.specs.Prelude.{◌≡◌, ℕ, ◌+◌, ◌/◌, ◌%◌, List, length, map, take, drop, ◌++◌, slice_index, slice_index_or, Option, Some, None, IsSome, option_and_then, option_map, is_some, count_by}
use Rattle.std.specs.Option.{option_map_or}
use Rattle.slab.specs.Slab.{Slab, get, slab_len}

-- the page of a number, if it isn't absent
abbrev pub page_at : List (Option (List ℕ)) → ℕ → Option (List ℕ)
page_at pages page = slice_index_or pages page None

-- the byte of a place, 0 where its page is absent
abbrev pub byte_in : List (Option (List ℕ)) → ℕ → ℕ
byte_in pages place = option_map_or (λ page. slice_index page (place % 4096)) (page_at pages (place / 4096)) 0

-- a page with other bytes from a place in it on
abbrev pub page_with : List ℕ → ℕ → List ℕ → List ℕ
page_with page start bytes = take start page ++ (bytes ++ drop (start + length bytes) page)

-- a page, where it isn't absent, with other bytes from a place in it on
abbrev pub slot_with : Option (List ℕ) → ℕ → List ℕ → Option (List ℕ)
slot_with slot start bytes = option_map (λ page. page_with page start bytes) slot

-- 256 pages, each that isn't absent of 4,096 bytes
pub record ArePages (pages : List (Option (List ℕ))) : Type 0 where
  pub count : length pages ≡ 256
  pub full : (page : ℕ) (bytes : List ℕ) → page_at pages page ≡ Some bytes → length bytes ≡ 4096

-- the key of a page in the slab
abbrev pub key_at : List (Option ℕ) → ℕ → Option ℕ
key_at keys page = slice_index_or keys page None

-- the pages that these keys have in a slab
abbrev pub pages_in : Slab (List ℕ) → List (Option ℕ) → List (Option (List ℕ))
pages_in slab keys = map (option_and_then (get slab)) keys

-- how many pages have a key
abbrev pub key_count : List (Option ℕ) → ℕ
key_count keys = count_by is_some keys

-- how the pages are kept: each key has a page of 4,096 bytes, no two pages have one key, and the slab has no page more
pub record IsKept (slab : Slab (List ℕ)) (keys : List (Option ℕ)) : Type 0 where
  pub count : length keys ≡ 256
  pub held : (page key : ℕ) → key_at keys page ≡ Some key → IsSome (get slab key)
  pub full : (key : ℕ) (bytes : List ℕ) → get slab key ≡ Some bytes → length bytes ≡ 4096
  pub apart : (page other key : ℕ) → key_at keys page ≡ Some key → key_at keys other ≡ Some key → page ≡ other
  pub whole : slab_len slab ≡ key_count keys
