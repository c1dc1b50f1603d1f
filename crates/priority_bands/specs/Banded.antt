-- The priority bands: a list of tasks for each band, from the lowest on. The head of a band comes first in it.
use Rattle.std.specs.Prelude.{◌<◌, ◌≡◌, ℕ, Bool, true, false, List, [], ◌∷◌, ◌++◌, ◌⊎◌, Option, Some, None, map, drop, set, length}
use Rattle.std.specs.List.{flat_map}
use Rattle.link_list.specs.KeyLists.{KeyLists, has, list_at, without, IsOnceEach}

-- the bands without a task
abbrev pub removed : List (List ℕ) → ℕ → List (List ℕ)
removed bands task = map (without task) bands

-- the bands after a task left its band, if it stood in one, and went to the tail of a band
abbrev pub placed : List (List ℕ) → ℕ → ℕ → List (List ℕ)
placed bands task band = set (removed bands task) band (list_at (removed bands task) band ++ task ∷ [])

-- the tasks of a band and of those above it, the least first
abbrev pub tasks_from : List (List ℕ) → ℕ → List ℕ
tasks_from bands band = flat_map (λ tasks. tasks) (drop band bands)

-- the first task that is answered true: those before it were answered false
abbrev pub IsFirstTrue : (ℕ → Bool → Type 0) → List ℕ → Option ℕ → Type 0
IsFirstTrue answers [] first = first ≡ None
IsFirstTrue answers (task ∷ tasks) first =
    (answers task true × (first ≡ Some task)) ⊎ (answers task false × IsFirstTrue answers tasks first)

-- what is true of all bands that were made by the calls of this crate
pub record AreBands (bands : List (List ℕ)) : Type 0 where
  pub count : length bands ≡ 21
  pub once : IsOnceEach bands
  pub below : (band task : ℕ) → has task (list_at bands band) ≡ true → task < 64

-- how the bands are kept
pub record IsKept (kept : KeyLists) : Type 0 where
  pub cap : kept.cap ≡ 64
  pub count : length kept.lists ≡ 21
