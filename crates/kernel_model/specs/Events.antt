-- What an entry says by itself.
use Rattle.std.specs.Prelude.{ℕ, ◌+◌, ◌-◌, ◌*◌, Bool, true, false, ◌&&◌, ◌||◌, Option, Some, None, if◌then◌else◌, nat_eq, nat_lt, nat_le, slice_get, length, option_and_then}
use Rattle.std.specs.Option.{option_map_or}
use Rattle.kern_ids.specs.declared.entries.Entry.{Entry}
use Rattle.kern_ids.specs.declared.calls.Call.{Call}
use Rattle.kern_ids.specs.declared.calls.Call.TheVariants.{Map, Unmap, Write, Read, SetState, Exit, Attach}
use Rattle.kern_ids.specs.declared.replies.Reply.{Reply}
use Rattle.kern_ids.specs.declared.replies.Reply.TheVariants.{Refused, Purged, Killed}
use Rattle.kern_ids.specs.declared.ids.PageId.{PageId}
use Rattle.kern_ids.specs.declared.calls.Wish.{Wish}
use Rattle.kern_ids.specs.StateWord.{decoded}
use Rattle.kernel_model.specs.declared.boot.Side.{Side}
use Rattle.kernel_model.specs.declared.boot.Side.TheVariants.{Task, Kernel}
use Rattle.kernel_model.specs.System.{System}

-- the reply is no refusal
abbrev pub is_reply : Reply → Bool
is_reply (Refused why) = false
is_reply _ = true

abbrev pub accepted : Entry → Bool
accepted e = is_reply e.reply

-- the task of a thread, if it is a task's
abbrev pub task_of_side : Side → Option ℕ
task_of_side (Task t) = Some t
task_of_side Kernel = None

abbrev pub task_of : System → ℕ → Option ℕ
task_of boot who = option_and_then task_of_side (slice_get boot.sides who)

-- the thread of the entry is one of task t
abbrev pub is_by : System → ℕ → Entry → Bool
is_by boot t e = option_map_or (nat_eq t) (task_of boot e.who) false

abbrev pub is_map_call : ℕ → Call → Bool
is_map_call o (Map x) = nat_eq x o
is_map_call o _ = false

abbrev pub is_attach_call : ℕ → Call → Bool
is_attach_call o (Attach x) = nat_eq x o
is_attach_call o _ = false

abbrev pub is_unmap_call : ℕ → Call → Bool
is_unmap_call o (Unmap x) = nat_eq x o
is_unmap_call o _ = false

-- an accepted Map, Attach, Unmap of o
abbrev pub is_map : ℕ → Entry → Bool
is_map o e = accepted e && is_map_call o e.call

abbrev pub is_attach : ℕ → Entry → Bool
is_attach o e = accepted e && is_attach_call o e.call

abbrev pub is_unmap : ℕ → Entry → Bool
is_unmap o e = accepted e && is_unmap_call o e.call

-- the object that a reply purges
abbrev pub purged_by : Reply → Option ℕ
purged_by (Purged o) = Some o
purged_by _ = None

abbrev pub is_purge : ℕ → Entry → Bool
is_purge o e = option_map_or (nat_eq o) (purged_by e.reply) false

-- what a SetState of o asks for
abbrev pub wish_call : ℕ → Call → Option Wish
wish_call o (SetState x word) = if nat_eq x o then decoded word else None
wish_call o _ = None

-- what an accepted SetState of o asks for
abbrev pub asked : ℕ → Entry → Option Wish
asked o e = if accepted e then wish_call o e.call else None

-- the byte that a Write gives byte b of object o
abbrev pub byte_call : ℕ → ℕ → Call → Option ℕ
byte_call o b (Write x off bytes) = if nat_eq x o && nat_le off b then slice_get bytes (b - off) else None
byte_call o b _ = None

-- the byte that an accepted Write gives byte b of object o
abbrev pub written_byte : ℕ → ℕ → Entry → Option ℕ
written_byte o b e = if accepted e then byte_call o b e.call else None

-- a range of bytes has a byte of page k
abbrev pub reaches_page : ℕ → ℕ → ℕ → Bool
reaches_page off len k = nat_lt off (4096 * (k + 1)) && nat_lt (4096 * k) (off + len) && nat_lt 0 len

-- the page is one that a Write covers
abbrev pub write_covers : PageId → Call → Bool
write_covers p (Write x off bytes) = nat_eq x p.obj && reaches_page off (length bytes) p.page
write_covers p _ = false

abbrev pub read_covers : PageId → Call → Bool
read_covers p (Read x off len) = nat_eq x p.obj && reaches_page off len p.page
read_covers p _ = false

-- an end of task t: an accepted Exit by a thread of it, or a reply that kills it
abbrev pub is_exit_call : Call → Bool
is_exit_call Exit = true
is_exit_call _ = false

abbrev pub killed_by : Reply → Option ℕ
killed_by (Killed t cause) = Some t
killed_by _ = None

abbrev pub is_end : System → ℕ → Entry → Bool
is_end boot t e = (accepted e && is_exit_call e.call && is_by boot t e) || option_map_or (nat_eq t) (killed_by e.reply) false
