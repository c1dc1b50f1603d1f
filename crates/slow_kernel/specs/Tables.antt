-- Tables that are kept while the entries are looked through, and rewritten in place.
use Rattle.std.specs.Prelude.{◌≡◌, ℕ, ◌+◌, List, ◌++◌, map, take, drop, reverse, Bool, ◌&&◌, ◌||◌, not, false, true, Some, if◌then◌else◌, is_some, nat_eq}
use Rattle.std.specs.List.{range_with_len}
use Rattle.kern_ids.specs.declared.entries.Entry.{Entry}
use Rattle.kern_ids.specs.declared.ids.PageId.{PageId}
use Rattle.kern_ids.specs.declared.calls.State.{State}
use Rattle.kernel_model.specs.declared.place.Place.{Place}
use Rattle.kernel_model.specs.Lists.{some_if}
use Rattle.std.specs.Option.{unwrap_or}
use Rattle.slow_kernel.specs.declared.pages.PageFacts.{PageFacts}
use Rattle.kernel_model.specs.System.{System}
use Rattle.kernel_model.specs.Events.{accepted, is_map, is_attach, is_unmap, is_exit_call, killed_by, write_covers}
use Rattle.kernel_model.specs.Mapping.{live, said_maps, owner, mapped, tasks_of}
use Rattle.kernel_model.specs.State.{state}
use Rattle.kernel_model.specs.Contents.{empties_from}
use Rattle.kernel_model.specs.Pages.{placed, next_placed, touched_since, written, touches_from, move_of, is_out, pages_in, pages_of_size, pages_of}
use Rattle.kern_ids.specs.declared.calls.Call.{Call}
use Rattle.kern_ids.specs.declared.calls.Call.TheVariants.{Write, Read}
use Rattle.kern_ids.specs.declared.replies.Reply.{Reply}
use Rattle.kern_ids.specs.declared.replies.Reply.TheVariants.{Moved}
use Rattle.slow_kernel.specs.declared.mapping.Mapper.{Mapper}
use Rattle.slow_kernel.specs.declared.pages.PageRow.{PageRow}
use Rattle.slow_kernel.specs.declared.pages.ObjectPass.{ObjectPass}

-- a table of n rows of which the first i are those of g, and the others those of f
unfoldable pub mixed : {A : Type 0} → (ℕ → A) → (ℕ → A) → ℕ → ℕ → List A
mixed f g n i = map g (range_with_len 0 i) ++ drop i (map f (range_with_len 0 n))

-- what is known of task t and object o
abbrev pub mapper : System → List Entry → ℕ → ℕ → Mapper
mapper boot past o t = record { task = t; live = live boot past t; said = said_maps boot past o t }

abbrev pub mappers : System → List Entry → ℕ → List Mapper
mappers boot past o = map (mapper boot past o) (tasks_of boot)

abbrev pub is_mapping : Mapper → Bool
is_mapping m = m.live && m.said

-- the first i entries, newest first
abbrev pub past_at : List Entry → ℕ → List Entry
past_at h i = reverse (take i h)

-- o is mapped before entry i and isn't after it
unfoldable pub unmapped_at : System → List Entry → ℕ → ℕ → Bool
unmapped_at boot h i o = mapped boot (past_at h i) o && not (mapped boot (past_at h (i + 1)) o)

-- the entry may change who maps o
unfoldable pub tells_mapping : ℕ → Entry → Bool
tells_mapping o e = is_map o e || is_attach o e || is_unmap o e || (accepted e && is_exit_call e.call) || is_some (killed_by e.reply)

abbrev pub page : ℕ → ℕ → PageId
page o k = record { obj = o; page = k }

-- what is known of a page
abbrev pub facts : System → List Entry → PageId → PageFacts
facts boot past p = record { placed = placed boot past p; touched = touched_since boot past p; written = written past p }

-- whether a page was touched since its stamp, after an entry, its object being in this state before it, and unmapped by it or not
unfoldable pub next_touched : State → Bool → PageId → Place → Bool → Entry → Bool
next_touched state unmapped p place was e =
    unwrap_or
    (if empties_from state p.obj e || unmapped then Some false
    else if touches_from state p e then Some (not (is_out place))
    else some_if (is_some (move_of p e.reply)) false)
    was

-- whether a page was written since its object's newest emptying, after an entry
unfoldable pub next_written : State → PageId → Bool → Entry → Bool
next_written state p was e = unwrap_or (if empties_from state p.obj e then Some false else some_if (accepted e && write_covers p e.call) true) was

-- what is known of a page after entry n
unfoldable pub next_facts : State → Bool → ℕ → PageId → PageFacts → Entry → PageFacts
next_facts state unmapped n p was e = record {
  placed = next_placed state unmapped n p was.placed e;
  touched = next_touched state unmapped p was.placed.place was.touched e;
  written = next_written state p was.written e;
}

-- what is known of the pages of o
abbrev pub pages : System → List Entry → ℕ → List PageFacts
pages boot past o = map (λ k. facts boot past (page o k)) (range_with_len 0 (pages_in boot o))

-- a page with what is known of it and of its object
abbrev pub page_row : System → List Entry → PageId → PageRow
page_row boot past p = record { page = p; facts = facts boot past p; state = state past p.obj; owner = owner boot past p.obj }

-- the call is a Write or a Read of o
abbrev pub is_access : ℕ → Call → Bool
is_access o (Write x off bytes) = nat_eq x o
is_access o (Read x off len) = nat_eq x o
is_access o _ = false

-- the scan moves a page of o
abbrev pub moves_page_of : ℕ → Reply → Bool
moves_page_of o (Moved move p) = nat_eq o p.obj
moves_page_of o _ = false

-- the entry may say something of a page of o, which was in this state, and was unmapped by it or not
unfoldable pub tells_pages : State → Bool → ℕ → Entry → Bool
tells_pages state unmapped o e = empties_from state o e || unmapped || is_access o e.call || moves_page_of o e.reply

-- what is known of an object while the entries are looked through
pub record IsKnown (boot : System) (past : List Entry) (o : ℕ) (pass : ObjectPass) : Type 0 where
  pub state : pass.state ≡ state past o
  pub mappers : pass.mappers.items ≡ mappers boot past o
  pub pages : pass.pages.items ≡ pages boot past o

-- all pages, by their objects
abbrev pub object_rows : System → List Entry → ℕ → List PageRow
object_rows boot past o = map (page_row boot past) (pages_of_size o (pages_in boot o))

abbrev pub all_rows : System → List Entry → List PageRow
all_rows boot past = map (page_row boot past) (pages_of boot)
