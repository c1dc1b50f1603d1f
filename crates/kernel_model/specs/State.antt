-- The state of an object.
use Rattle.std.specs.Prelude.{ℕ, List, [], Bool, true, false, Option, Some, if◌then◌else◌, option_map}
use Rattle.std.specs.Option.{unwrap_or}
use Rattle.kern_ids.specs.declared.entries.Entry.{Entry}
use Rattle.kern_ids.specs.declared.calls.State.{State}
use Rattle.kern_ids.specs.declared.calls.State.TheVariants.{Nonvolatile, Volatile, Empty}
use Rattle.kern_ids.specs.declared.calls.Wish.{Wish}
use Rattle.kern_ids.specs.declared.calls.Wish.TheVariants.{Nonvolatile as ask_nonvolatile, Volatile as ask_volatile, Empty as ask_empty}
use Rattle.kernel_model.specs.Newest.{newest}
use Rattle.kernel_model.specs.Events.{is_map, is_purge, asked}

abbrev pub is_empty : State → Bool
is_empty Empty = true
is_empty _ = false

-- the state that an accepted SetState leaves, by the state before it
abbrev pub state_asked : State → Wish → State
state_asked was ask_nonvolatile = Nonvolatile
state_asked was ask_empty = Empty
state_asked was (ask_volatile queue group) = if is_empty was then Empty else Volatile

-- the state that an entry gives o, if it is an accepted Map, a purge or an accepted SetState of it
abbrev pub says_state : ℕ → List Entry → State → Entry → Option State
says_state o before was e =
    if is_map o e then Some Nonvolatile
    else if is_purge o e then Some Empty
    else option_map (state_asked was) (asked o e)

-- the state after an entry
unfoldable pub next_state : ℕ → State → Entry → State
next_state o was e = unwrap_or (says_state o [] was e) was

-- the state that the newest such entry gives
unfoldable pub state : List Entry → ℕ → State
state past o = newest (says_state o) Nonvolatile past
