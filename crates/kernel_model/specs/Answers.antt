-- What the kernel answers.
use Rattle.std.specs.Prelude.{ℕ, ◌+◌, ◌*◌, ◌-◌, List, [], ◌∷◌, length, Bool, false, ◌&&◌, ◌||◌, not, Option, Some, None, is_none, if◌then◌else◌, nat_lt, nat_le, nat_eq, slice_get, map, filter, count_by, find}
use Rattle.std.specs.Option.{option_map_or, unwrap_or}
use Rattle.std.specs.List.{range_with_len, list_any}
use Rattle.kern_ids.specs.declared.entries.Entry.{Entry}
use Rattle.kern_ids.specs.declared.calls.Call.{Call}
use Rattle.kern_ids.specs.declared.calls.Call.TheVariants.{Map, Unmap, Write, Read, SetState, GetState, Active, Ledger, Exit, PurgeOne, Forced, Scan, Tick, Jetsam, SetBand, SetLimits, Info, Purgeables, Attach}
use Rattle.kern_ids.specs.declared.replies.Refusal.{Refusal}
use Rattle.kern_ids.specs.declared.replies.Refusal.TheVariants.{Dead, NotMine, NoObject, Already, Invalid, Range, Emptied, Shortage}
use Rattle.kern_ids.specs.declared.replies.Reply.{Reply}
use Rattle.kern_ids.specs.declared.replies.Reply.TheVariants.{Mapped, Unmapped, Wrote, Bytes, Old, Is, Was, Pages, Exited, Purged, Nothing, Aged, Banded, Limited, Frames, Tokens, Refused, Attached}
use Rattle.kern_ids.specs.declared.replies.QueueCounts.{QueueCounts}
use Rattle.kern_ids.specs.declared.calls.Queue.TheVariants.{Obsolete, Lifo, Fifo}
use Rattle.kern_ids.specs.StateWord.{decoded}
use Rattle.kernel_model.specs.System.{System}
use Rattle.kernel_model.specs.Events.{task_of, reaches_page}
use Rattle.kernel_model.specs.Mapping.{live, maps, mapped, tasks_of}
use Rattle.kernel_model.specs.State.{state, is_empty}
use Rattle.kernel_model.specs.Contents.{byte}
use Rattle.kernel_model.specs.Pages.{place, is_out, pages_in, free, active_pages, inactive_pages, stored_pages, entered, left}
use Rattle.kernel_model.specs.Deadlines.{deadlines, of_queue}
use Rattle.kernel_model.specs.Choice.{pick, forced}
use Rattle.kernel_model.specs.Scan.{scan}
use Rattle.kernel_model.specs.Counted.{counts}
use Rattle.kernel_model.specs.Bands.{active, due}
use Rattle.kernel_model.specs.Victims.{victim, band_lt}
use Rattle.kernel_model.specs.Lists.{first_some, some_if, in_order}

-- the object that a call names
abbrev pub object_of : Call → Option ℕ
object_of (Map o) = Some o
object_of (Attach o) = Some o
object_of (Unmap o) = Some o
object_of (Write o off bytes) = Some o
object_of (Read o off len) = Some o
object_of (SetState o word) = Some o
object_of (GetState o) = Some o
object_of _ = None

-- the task that a SetBand or a SetLimits names
abbrev pub named_task : Call → Option ℕ
named_task (SetBand t band) = Some t
named_task (SetLimits t a i) = Some t
named_task _ = None

abbrev pub is_dead : System → List Entry → Option ℕ → Bool
is_dead boot past t = option_map_or (λ t'. not (live boot past t')) t false

abbrev pub shares : System → ℕ → ℕ → Bool
shares boot o t = option_map_or (λ object. list_any (nat_eq t) object.tasks) (slice_get boot.objects o) false

-- the object that the call names isn't one of task t
abbrev pub is_stranger : System → ℕ → Call → Bool
is_stranger boot t call = option_map_or (λ o. not (shares boot o t)) (object_of call) false

-- refusals 3 and 4, by the mapping
abbrev pub no_object : System → List Entry → ℕ → Call → Bool
no_object boot past t (Attach o) = not (mapped boot past o)
no_object boot past t (Unmap o) = not (maps boot past o t)
no_object boot past t (Write o off bytes) = not (maps boot past o t)
no_object boot past t (Read o off len) = not (maps boot past o t)
no_object boot past t (SetState o word) = not (maps boot past o t)
no_object boot past t (GetState o) = not (maps boot past o t)
no_object boot past t _ = false

abbrev pub already : System → List Entry → ℕ → Call → Bool
already boot past t (Map o) = mapped boot past o
already boot past t (Attach o) = maps boot past o t
already boot past t _ = false

abbrev pub invalid : Call → Bool
invalid (SetState o word) = is_none (decoded word)
invalid _ = false

abbrev pub bad_range : System → ℕ → ℕ → ℕ → Bool
bad_range boot o off len = nat_eq len 0 || nat_lt 256 len || nat_lt (4096 * pages_in boot o) (off + len)

abbrev pub out_of_range : System → Call → Bool
out_of_range boot (Write o off bytes) = bad_range boot o off (length bytes)
out_of_range boot (Read o off len) = bad_range boot o off len
out_of_range boot _ = false

abbrev pub emptied : List Entry → Call → Bool
emptied past (Write o off bytes) = is_empty (state past o)
emptied past _ = false

-- the covered pages that are Absent or Stored
unfoldable pub needed : System → List Entry → ℕ → ℕ → ℕ → ℕ
needed boot past o off len =
    count_by (λ k. reaches_page off len k && is_out (place boot past (record { obj = o; page = k }))) (range_with_len 0 (pages_in boot o))

unfoldable pub short_of : System → List Entry → ℕ → Option Refusal
short_of boot past n = some_if (nat_lt (free boot past) n) (Shortage n (free boot past))

abbrev pub shortage : System → List Entry → Call → Option Refusal
shortage boot past (Write o off bytes) = short_of boot past (needed boot past o off (length bytes))
shortage boot past (Read o off len) = if is_empty (state past o) then None else short_of boot past (needed boot past o off len)
shortage boot past _ = None

-- the refusals of a call in the order of their numbers
abbrev pub causes : System → List Entry → ℕ → Call → List (Option Refusal)
causes boot past who call =
    let t = unwrap_or (task_of boot who) 0 in
    some_if (is_dead boot past (task_of boot who) || is_dead boot past (named_task call)) Dead
    ∷ some_if (is_stranger boot t call) NotMine
    ∷ some_if (no_object boot past t call) NoObject
    ∷ some_if (already boot past t call) Already
    ∷ some_if (invalid call) Invalid
    ∷ some_if (out_of_range boot call) Range
    ∷ some_if (emptied past call) Emptied
    ∷ shortage boot past call
    ∷ []

-- a queue's number of deadlines, of ripe ones, the due of the first unripe one and of the last
abbrev pub last_or : List ℕ → ℕ → ℕ
last_or [] d = d
last_or (x ∷ xs) d = last_or xs x

abbrev pub queue_counts : ℕ → List ℕ → QueueCounts
queue_counts n ds = record {
  tokens = length ds;
  ripe = count_by (λ d. nat_le d n) ds;
  next = option_map_or (λ d. d - n) (find (λ d. nat_lt n d) ds) 0;
  last = last_or ds 0 - n;
}

abbrev pub tokens_reply : System → List Entry → Reply
tokens_reply boot past = Tokens (record {
  obsolete = queue_counts (left boot past) (of_queue (deadlines boot past) Obsolete);
  lifo = queue_counts (left boot past) (of_queue (deadlines boot past) Lifo);
  fifo = queue_counts (left boot past) (of_queue (deadlines boot past) Fifo);
})

abbrev pub frames_reply : System → List Entry → Reply
frames_reply boot past = Frames (record {
  free = free boot past;
  active = active_pages boot past;
  inactive = inactive_pages boot past;
  stored = stored_pages boot past;
  entered = entered past;
  left = left boot past;
})

-- what an accepted call gets
abbrev pub accepted_answer : System → List Entry → ℕ → Call → Reply
accepted_answer boot past t (Map o) = Mapped
accepted_answer boot past t (Attach o) = Attached
accepted_answer boot past t (Unmap o) = Unmapped
accepted_answer boot past t (Write o off bytes) = Wrote
accepted_answer boot past t (Read o off len) = Bytes (map (byte past o) (range_with_len off len))
accepted_answer boot past t (SetState o word) = Old (state past o)
accepted_answer boot past t (GetState o) = Is (state past o)
accepted_answer boot past t (Active on) = Was (active boot past t)
accepted_answer boot past t Ledger = Pages (counts boot past t)
accepted_answer boot past t Exit = Exited
accepted_answer boot past t PurgeOne = option_map_or Purged (pick boot past) Nothing
accepted_answer boot past t Forced = option_map_or Purged (forced boot past) Nothing
accepted_answer boot past t Scan = scan boot past
accepted_answer boot past t Tick = Aged (in_order (band_lt boot past) (filter (due boot past) (tasks_of boot)))
accepted_answer boot past t Jetsam = victim boot past
accepted_answer boot past t (SetBand task band) = Banded
accepted_answer boot past t (SetLimits task a i) = Limited
accepted_answer boot past t Info = frames_reply boot past
accepted_answer boot past t Purgeables = tokens_reply boot past

unfoldable pub refusal : System → List Entry → ℕ → Call → Option Refusal
refusal boot past who call = first_some (λ cause. cause) (causes boot past who call)

-- the answer to a call that fits
unfoldable pub answer : System → List Entry → ℕ → Call → Reply
answer boot past who call = option_map_or Refused (refusal boot past who call) (accepted_answer boot past (unwrap_or (task_of boot who) 0) call)
