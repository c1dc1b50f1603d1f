-- What the definitions are after one entry more, by the entry and by what they were before it.
use Rattle.std.specs.Prelude.{ℕ, ◌+◌, ◌-◌, List, ◌∷◌, ◌++◌, length, Bool, false, ◌&&◌, not, Option, Some, None, if◌then◌else◌, nat_eq, nat_lt, nat_le, count_by, filter, find, option_and_then}
use Rattle.std.specs.List.{list_any}
use Rattle.std.specs.Option.{option_map_or, unwrap_or}
use Rattle.kern_ids.specs.declared.entries.Entry.{Entry}
use Rattle.kern_ids.specs.declared.ids.PageId.{PageId}
use Rattle.kern_ids.specs.declared.calls.Queue.{Queue}
use Rattle.kern_ids.specs.declared.calls.Queue.TheVariants.{Obsolete, Lifo, Fifo}
use Rattle.kern_ids.specs.declared.calls.State.{State}
use Rattle.kern_ids.specs.declared.replies.Counts.{Counts}
use Rattle.kern_ids.specs.declared.replies.Reply.{Reply}
use Rattle.kern_ids.specs.declared.replies.Reply.TheVariants.{Enough, Moved, Purged, Idle}
use Rattle.kern_ids.specs.declared.replies.Move.TheVariants.{Deactivated, Reactivated, Freed, Compressed, Requeued}
use Rattle.kernel_model.specs.declared.place.Place.{Place}
use Rattle.kernel_model.specs.declared.place.Placed.{Placed}
use Rattle.kernel_model.specs.declared.place.Standing.{Standing}
use Rattle.kernel_model.specs.System.{System}
use Rattle.kernel_model.specs.Mapping.{live, next_live, maps, next_said, mapped, tasks_of}
use Rattle.kernel_model.specs.State.{state, next_state}
use Rattle.kernel_model.specs.Groups.{standing, next_standing, is_volatile_state, same_queue, is_lifo, objects_of}
use Rattle.kernel_model.specs.Pages.{placed, next_placed, is_active, is_inactive, is_stored, pages_of, entered, next_entered, touched_since, says_touched, written, says_written}
use Rattle.kernel_model.specs.Counted.{is_nonvolatile_state}
use Rattle.kernel_model.specs.Deadlines.{Deadlines, deadlines, changed, ripe_of}
use Rattle.kernel_model.specs.Choice.{places_for, groups_of}
use Rattle.kernel_model.specs.Lists.{least, first_some, pair_lt}
use Rattle.kernel_model.specs.Laws.Frames.{is_in}

-- a history and one entry more
pub record Step : Type 0 where
  pub boot : System
  pub entry : Entry
  pub before : List Entry

abbrev pub after : Step → List Entry
after s = s.entry ∷ s.before

-- t is live, and the newest word on it and o isn't an Unmap
abbrev pub maps_after : Step → ℕ → ℕ → Bool
maps_after s o t = next_live s.boot t (live s.boot s.before t) s.entry && next_said s.boot o t (maps s.boot s.before o t) s.entry

abbrev pub owner_after : Step → ℕ → Option ℕ
owner_after s o = find (maps_after s o) (tasks_of s.boot)

abbrev pub mapped_after : Step → ℕ → Bool
mapped_after s o = list_any (maps_after s o) (tasks_of s.boot)

-- the entry unmaps o
abbrev pub unmapped_in : Step → ℕ → Bool
unmapped_in s o = mapped s.boot s.before o && not (mapped_after s o)

abbrev pub state_after : Step → ℕ → State
state_after s o = next_state o (state s.before o) s.entry

abbrev pub standing_after : Step → ℕ → Standing
standing_after s o = next_standing o (length s.before) (standing s.before o) s.entry

abbrev pub volatile_after : Step → ℕ → Bool
volatile_after s o = mapped_after s o && is_volatile_state (state_after s o)

abbrev pub stands_after : Step → Queue → ℕ → ℕ → Bool
stands_after s q g o = volatile_after s o && same_queue (standing_after s o).queue q && nat_eq (standing_after s o).group g

-- a stands nearer to the head of its group than b
abbrev pub nearer_after : Step → Queue → ℕ → ℕ → Bool
nearer_after s q a b = if is_lifo q then nat_lt (standing_after s b).vstamp (standing_after s a).vstamp else nat_lt (standing_after s a).vstamp (standing_after s b).vstamp

abbrev pub first_after : Step → Queue → ℕ → Option ℕ
first_after s q g = least (nearer_after s q) (filter (stands_after s q g) (objects_of s.boot))

abbrev pub placed_after : Step → PageId → Placed
placed_after s p = next_placed (state s.before p.obj) (unmapped_in s p.obj) (length s.before) p (placed s.boot s.before p) s.entry

abbrev pub place_after : Step → PageId → Place
place_after s p = (placed_after s p).place

-- how many pages are in such a place
abbrev pub pages_after : Step → (Place → Bool) → ℕ
pages_after s k = count_by (λ p. k (place_after s p)) (pages_of s.boot)

abbrev pub entered_after : Step → ℕ
entered_after s = next_entered (entered s.before) s.entry

abbrev pub free_after : Step → ℕ
free_after s = s.boot.params.frames - (pages_after s is_active + pages_after s is_inactive)

abbrev pub left_after : Step → ℕ
left_after s = entered_after s - pages_after s is_inactive

-- the pages of task t in such places, of objects in such states
abbrev pub owned_after : Step → ℕ → ℕ → Bool
owned_after s t o = option_map_or (nat_eq t) (owner_after s o) false

abbrev pub count_after : Step → ℕ → (Place → Bool) → (State → Bool) → ℕ
count_after s t k what = count_by (λ p. owned_after s t p.obj && k (place_after s p) && what (state_after s p.obj)) (pages_of s.boot)

abbrev pub counts_after : Step → ℕ → Counts
counts_after s t = record {
  res_non = count_after s t is_in is_nonvolatile_state;
  res_vol = count_after s t is_in is_volatile_state;
  com_non = count_after s t is_stored is_nonvolatile_state;
  com_vol = count_after s t is_stored is_volatile_state;
  footprint = count_after s t is_in is_nonvolatile_state + count_after s t is_stored is_nonvolatile_state;
}

abbrev pub deadlines_after : Step → Deadlines
deadlines_after s = changed s.boot s.before s.entry (deadlines s.boot s.before)

abbrev pub ripe_after : Step → Option Queue
ripe_after s = ripe_of (left_after s) (deadlines_after s)

abbrev pub first_of_after : Step → List (Queue × ℕ) → Option ℕ
first_of_after s places = first_some (λ (q, g). first_after s q g) places

abbrev pub pick_after : Step → Option ℕ
pick_after s = option_and_then (λ q. first_of_after s (places_for q)) (ripe_after s)

abbrev pub forced_after : Step → Option ℕ
forced_after s = first_of_after s (groups_of Fifo ++ groups_of Lifo ++ groups_of Obsolete)

abbrev pub stamp_lt_after : Step → PageId → PageId → Bool
stamp_lt_after s p q = pair_lt ((placed_after s p).number, p.page) ((placed_after s q).number, q.page)

-- the page of least stamp in such a place
abbrev pub first_page_after : Step → (Place → Bool) → Option PageId
first_page_after s k = least (stamp_lt_after s) (filter (λ p. k (place_after s p)) (pages_of s.boot))

abbrev pub touched_after : Step → PageId → Bool
touched_after s p = unwrap_or (says_touched s.boot p s.before (touched_since s.boot s.before p) s.entry) (touched_since s.boot s.before p)

abbrev pub written_after : Step → PageId → Bool
written_after s p = unwrap_or (says_written p s.before (written s.before p) s.entry) (written s.before p)

abbrev pub scan_inactive_after : Step → PageId → Reply
scan_inactive_after s p =
    if touched_after s p then Moved Reactivated p
    else if not (written_after s p) then Moved Freed p
    else if nat_lt (pages_after s is_stored) s.boot.params.store then Moved Compressed p
    else Moved Requeued p

abbrev pub scan_rest_after : Step → Reply
scan_rest_after s = elim (pick_after s) [
  | Some o ↦ Purged o
  | None ↦ option_map_or (scan_inactive_after s) (first_page_after s is_inactive) Idle
]

abbrev pub scan_after : Step → Reply
scan_after s =
    if nat_le s.boot.params.target (free_after s) then Enough
    else if nat_lt (pages_after s is_inactive) s.boot.params.inactive then option_map_or (Moved Deactivated) (first_page_after s is_active) (scan_rest_after s)
    else scan_rest_after s
