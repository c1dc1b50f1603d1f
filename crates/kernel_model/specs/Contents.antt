-- The bytes of an object.
use Rattle.std.specs.Prelude.{ℕ, List, Bool, true, false, ◌&&◌, ◌||◌, not, Option, Some, if◌then◌else◌}
use Rattle.std.specs.Option.{option_map_or, unwrap_or}
use Rattle.kern_ids.specs.declared.entries.Entry.{Entry}
use Rattle.kern_ids.specs.declared.calls.State.{State}
use Rattle.kern_ids.specs.declared.calls.Wish.{Wish}
use Rattle.kern_ids.specs.declared.calls.Wish.TheVariants.{Empty as ask_empty}
use Rattle.kernel_model.specs.Newest.{newest}
use Rattle.kernel_model.specs.Events.{is_map, is_purge, asked, written_byte}
use Rattle.kernel_model.specs.State.{state, is_empty}

abbrev pub is_ask_empty : Wish → Bool
is_ask_empty ask_empty = true
is_ask_empty _ = false

-- an accepted SetState of o that asks for EMPTY
abbrev pub asks_empty : ℕ → Entry → Bool
asks_empty o e = option_map_or is_ask_empty (asked o e) false

-- an accepted Map of o, a purge of it, or an accepted SetState EMPTY where it wasn't EMPTY
abbrev pub empties_from : State → ℕ → Entry → Bool
empties_from was o e = is_map o e || is_purge o e || (asks_empty o e && not (is_empty was))

abbrev pub empties : ℕ → List Entry → Entry → Bool
empties o before e = empties_from (state before o) o e

-- an emptying gives 0, an accepted Write that covers the byte gives it that byte
abbrev pub says_byte : ℕ → ℕ → List Entry → ℕ → Entry → Option ℕ
says_byte o b before was e = if empties o before e then Some 0 else written_byte o b e

-- the byte after an entry, o being in this state before it
unfoldable pub next_byte : State → ℕ → ℕ → ℕ → Entry → ℕ
next_byte state o b was e = unwrap_or (if empties_from state o e then Some 0 else written_byte o b e) was

-- byte b of o: that of the newest accepted Write covering it, if this is newer than the newest emptying, else 0
unfoldable pub byte : List Entry → ℕ → ℕ → ℕ
byte past o b = newest (says_byte o b) 0 past
