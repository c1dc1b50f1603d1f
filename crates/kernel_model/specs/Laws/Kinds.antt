-- Kinds of entries, by what they can change.
use Rattle.std.specs.Prelude.{ℕ, List, Bool, true, false, ◌&&◌, ◌||◌, not, if◌then◌else◌, nat_eq}
use Rattle.std.specs.Option.{option_map_or}
use Rattle.kern_ids.specs.declared.entries.Entry.{Entry}
use Rattle.kern_ids.specs.declared.calls.Call.{Call}
use Rattle.kern_ids.specs.declared.calls.Call.TheVariants.{Map, Unmap, Write, Read, SetState, Active, Exit, Tick, SetBand, SetLimits, Attach, GetState, Ledger, PurgeOne, Forced, Scan, Jetsam, Info, Purgeables}
use Rattle.kern_ids.specs.declared.replies.Reply.{Reply}
use Rattle.kern_ids.specs.declared.replies.Reply.TheVariants.{Purged, Moved, Aged, Killed, Mapped, Attached, Unmapped, Wrote, Bytes, Old, Was, Exited, Banded, Limited}
use Rattle.kern_ids.specs.declared.replies.Move.{Move}
use Rattle.kern_ids.specs.declared.replies.Cause.{Cause}
use Rattle.kern_ids.specs.declared.calls.Limit.{Limit}
use Rattle.kern_ids.specs.declared.calls.State.{State}
use Rattle.kern_ids.specs.declared.ids.PageId.{PageId}
use Rattle.kernel_model.specs.System.{System}
use Rattle.kernel_model.specs.Events.{accepted, task_of, is_map, is_purge}
use Rattle.kernel_model.specs.Contents.{asks_empty}
use Rattle.kernel_model.specs.Bands.{is_tick_call}

-- calls that change nothing by themselves, though their reply may show a change
abbrev pub is_quiet_call : Call → Bool
is_quiet_call (GetState o) = true
is_quiet_call Ledger = true
is_quiet_call PurgeOne = true
is_quiet_call Forced = true
is_quiet_call Scan = true
is_quiet_call Jetsam = true
is_quiet_call Info = true
is_quiet_call Purgeables = true
is_quiet_call _ = false

-- replies that show no change: no purge, move, ageing or kill
abbrev pub is_quiet_reply : Reply → Bool
is_quiet_reply (Purged o) = false
is_quiet_reply (Moved move p) = false
is_quiet_reply (Aged ts) = false
is_quiet_reply (Killed t cause) = false
is_quiet_reply _ = true

-- an entry that changes nothing: any refused call but a Tick, or an accepted call that only asks, with a reply that shows no change
abbrev pub is_quiet : Entry → Bool
is_quiet e = is_quiet_reply e.reply && (if accepted e then is_quiet_call e.call else not (is_tick_call e.call))

-- the thread is one of task t
abbrev pub runs_for : System → ℕ → ℕ → Bool
runs_for boot t who = option_map_or (nat_eq t) (task_of boot who) false

-- accepted calls with their answers
abbrev pub map_entry : ℕ → ℕ → Entry
map_entry who o = record { who = who; call = Map o; reply = Mapped }

abbrev pub attach_entry : ℕ → ℕ → Entry
attach_entry who o = record { who = who; call = Attach o; reply = Attached }

abbrev pub unmap_entry : ℕ → ℕ → Entry
unmap_entry who o = record { who = who; call = Unmap o; reply = Unmapped }

abbrev pub write_entry : ℕ → ℕ → ℕ → List ℕ → Entry
write_entry who o off bytes = record { who = who; call = Write o off bytes; reply = Wrote }

abbrev pub read_entry : ℕ → ℕ → ℕ → ℕ → List ℕ → Entry
read_entry who o off len bytes = record { who = who; call = Read o off len; reply = Bytes bytes }

abbrev pub set_entry : ℕ → ℕ → ℕ → State → Entry
set_entry who o word old = record { who = who; call = SetState o word; reply = Old old }

abbrev pub active_entry : ℕ → Bool → Bool → Entry
active_entry who on was = record { who = who; call = Active on; reply = Was was }

abbrev pub exit_entry : ℕ → Entry
exit_entry who = record { who = who; call = Exit; reply = Exited }

abbrev pub forced_entry : ℕ → ℕ → Entry
forced_entry who o = record { who = who; call = Forced; reply = Purged o }

abbrev pub purge_entry : ℕ → ℕ → Entry
purge_entry who o = record { who = who; call = PurgeOne; reply = Purged o }

abbrev pub scan_purge_entry : ℕ → ℕ → Entry
scan_purge_entry who o = record { who = who; call = Scan; reply = Purged o }

abbrev pub moved_entry : ℕ → Move → PageId → Entry
moved_entry who move p = record { who = who; call = Scan; reply = Moved move p }

abbrev pub tick_entry : ℕ → List ℕ → Entry
tick_entry who aged = record { who = who; call = Tick; reply = Aged aged }

abbrev pub killed_entry : ℕ → ℕ → Cause → Entry
killed_entry who t cause = record { who = who; call = Jetsam; reply = Killed t cause }

abbrev pub band_entry : ℕ → ℕ → ℕ → Entry
band_entry who t band = record { who = who; call = SetBand t band; reply = Banded }

abbrev pub limits_entry : ℕ → ℕ → Limit → Limit → Entry
limits_entry who t a i = record { who = who; call = SetLimits t a i; reply = Limited }

abbrev pub is_scan_call : Call → Bool
is_scan_call Scan = true
is_scan_call _ = false

abbrev pub is_jetsam_call : Call → Bool
is_jetsam_call Jetsam = true
is_jetsam_call _ = false

abbrev pub is_purging_call : Call → Bool
is_purging_call PurgeOne = true
is_purging_call Forced = true
is_purging_call Scan = true
is_purging_call _ = false

-- a reply that shows a change comes from a call of its kind
abbrev pub tells : Reply → Call → Bool
tells (Purged o) call = is_purging_call call
tells (Moved move p) call = is_scan_call call
tells (Aged ts) call = is_tick_call call
tells (Killed t cause) call = is_jetsam_call call
tells _ call = true

abbrev pub is_write_call : ℕ → Call → Bool
is_write_call o (Write x off bytes) = nat_eq x o
is_write_call o _ = false

-- an entry touches the bytes of o: an accepted Map or Write of it, a purge of it, or an accepted SetState of it that asks for EMPTY
abbrev pub touches_bytes : ℕ → Entry → Bool
touches_bytes o e = is_map o e || (accepted e && is_write_call o e.call) || is_purge o e || asks_empty o e
