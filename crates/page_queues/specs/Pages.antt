-- The places of the pages, the order in which the Active and the Inactive ones were placed, and their marks.
use Rattle.std.specs.Prelude.{◌≡◌, ℕ, Bool, true, false, ◌+◌, ◌-◌, ◌*◌, ◌/◌, ◌%◌, ◌<◌, ◌≤◌, ◌&&◌, List, length, map, set, filter, not, nat_eq, nat_lt, slice_index_or, Option, Some, None, if◌then◌else◌}
use Rattle.kern_ids.specs.declared.ids.PageId.{PageId}
use Rattle.kernel_model.specs.declared.place.Place.{Place}
use Rattle.kernel_model.specs.declared.place.Place.TheVariants.{Absent, Active, Inactive, Stored}
use Rattle.link_list.specs.KeyLists.{list_at, has, place_of}
use Rattle.page_queues.specs.Tallies.{taken, moved, is_of}

-- `queues` has the keys of the Active, the Inactive and the Stored pages, those placed last at the tail;
-- `marks` says for each key whether the page is marked. The other pages are Absent
pub record Pages : Type 0 where
  pub frames : ℕ
  pub sizes : List ℕ
  pub queues : List (List ℕ)
  pub marks : List Bool

-- the key of a page, and the page of a key
abbrev pub key_of : PageId → ℕ
key_of p = 256 * p.obj + p.page

abbrev pub page_of : ℕ → PageId
page_of key = record { obj = key / 256; page = key % 256 }

-- whether a page is one of the objects'
pub record IsPage (pages : Pages) (p : PageId) : Type 0 where
  pub object : p.obj < length pages.sizes
  pub inside : p.page < slice_index_or pages.sizes p.obj 0

-- the Active, the Inactive and the Stored pages
abbrev pub active : Pages → List ℕ
active pages = list_at pages.queues 0

abbrev pub inactive : Pages → List ℕ
inactive pages = list_at pages.queues 1

abbrev pub stored : Pages → List ℕ
stored pages = list_at pages.queues 2

-- the place of the pages of a queue, or of no queue
abbrev pub place_at : Option ℕ → Place
place_at None = Absent
place_at (Some l) = if nat_eq l 0 then Active else if nat_eq l 1 then Inactive else Stored

-- the place of a page
abbrev pub place : Pages → PageId → Place
place pages p = place_at (place_of (key_of p) pages.queues)

-- whether a page has no frame
abbrev pub is_out : Place → Bool
is_out Absent = true
is_out Stored = true
is_out _ = false

-- whether a page is Inactive
abbrev pub is_inactive : Place → Bool
is_inactive Inactive = true
is_inactive _ = false

-- the frames that no page has
abbrev pub free : Pages → ℕ
free pages = pages.frames - (length (active pages) + length (inactive pages))

-- whether a key's page is marked
abbrev pub is_marked : Pages → ℕ → Bool
is_marked pages key = slice_index_or pages.marks key false

-- a page becomes Active, Inactive or Stored, placed last, and it has no mark
abbrev pub placed : Pages → ℕ → ℕ → Pages
placed pages key l = record pages { queues = moved pages.queues key l; marks = set pages.marks key false }

-- a page becomes Absent
abbrev pub absented : Pages → ℕ → Pages
absented pages key = record pages { queues = taken pages.queues key; marks = set pages.marks key false }

-- whether a key is that of one of the first n pages of an object
abbrev pub is_of_first : ℕ → ℕ → ℕ → Bool
is_of_first o n key = is_of o key && nat_lt (key % 256) n

-- the queues without the first n pages of an object
abbrev pub without_object : ℕ → ℕ → List (List ℕ) → List (List ℕ)
without_object o n queues = map (filter (λ key. not (is_of_first o n key))) queues

-- how the pages are kept: no more of them have frames than there are frames, and only Inactive ones are marked
pub record AreKept (objects : ℕ) (pages : Pages) : Type 0 where
  pub few : objects ≤ 256
  pub three : length pages.queues ≡ 3
  pub each_size : length pages.sizes ≡ objects
  pub small : (o : ℕ) → slice_index_or pages.sizes o 0 ≤ 256
  pub marks : length pages.marks ≡ 256 * objects
  pub frames : length (active pages) + length (inactive pages) ≤ pages.frames
  pub only_inactive : (key : ℕ) → is_marked pages key ≡ true → has key (inactive pages) ≡ true
