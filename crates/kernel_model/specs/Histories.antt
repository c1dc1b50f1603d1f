-- Which histories the kernel can have.
use Rattle.std.specs.Prelude.{◌≡◌, ℕ, List, [], ◌∷◌, length, Bool, true, false, ◌&&◌, IsTrue, nat_lt, nat_le, reverse, Option, Some, None}
use Rattle.std.specs.Option.{option_map_or}
use Rattle.kern_ids.specs.declared.entries.Entry.{Entry}
use Rattle.kern_ids.specs.declared.calls.Limit.{Limit}
use Rattle.kern_ids.specs.declared.calls.Call.{Call}
use Rattle.kern_ids.specs.declared.calls.Call.TheVariants.{Map, Unmap, Write, Read, SetState, GetState, PurgeOne, Forced, Scan, Tick, Jetsam, SetBand, SetLimits, Info, Purgeables, Attach}
use Rattle.kernel_model.specs.System.{System}
use Rattle.kernel_model.specs.Events.{task_of}
use Rattle.kernel_model.specs.Answers.{answer}

abbrev pub limit_ok : Limit → Bool
limit_ok l = nat_le l.pages 65536

abbrev pub declares_object : System → ℕ → Bool
declares_object boot o = nat_lt o (length boot.objects)

abbrev pub declares_task : System → ℕ → Bool
declares_task boot t = nat_lt t (length boot.tasks)

-- the tasks and objects that a call names are declared, a Write has bytes, and limits are in range
abbrev pub names_fit : System → Call → Bool
names_fit boot (Map o) = declares_object boot o
names_fit boot (Attach o) = declares_object boot o
names_fit boot (Unmap o) = declares_object boot o
names_fit boot (Write o off bytes) = declares_object boot o && nat_lt 0 (length bytes)
names_fit boot (Read o off len) = declares_object boot o
names_fit boot (SetState o word) = declares_object boot o
names_fit boot (GetState o) = declares_object boot o
names_fit boot (SetBand t band) = declares_task boot t
names_fit boot (SetLimits t a i) = declares_task boot t && limit_ok a && limit_ok i
names_fit boot _ = true

-- the calls of task threads; the others are of kernel threads
abbrev pub is_task_call : Call → Bool
is_task_call PurgeOne = false
is_task_call Forced = false
is_task_call Scan = false
is_task_call Tick = false
is_task_call Jetsam = false
is_task_call (SetBand t band) = false
is_task_call (SetLimits t a i) = false
is_task_call Info = false
is_task_call Purgeables = false
is_task_call _ = true

abbrev pub same : Bool → Bool → Bool
same true b = b
same false true = false
same false false = true

-- the thread is declared, the call is of its side, and what it names is declared
abbrev pub fits : System → ℕ → Call → Bool
fits boot who call =
    nat_lt who (length boot.sides) && same (is_task_call call) (Rattle.std.specs.Prelude.is_some (task_of boot who)) && names_fit boot call

-- each call fits, and each reply is the answer over the entries before it
abbrev pub IsLegal : System → List Entry → Type 0
IsLegal boot [] = Rattle.std.specs.Prelude.⊤
IsLegal boot (e ∷ before) = IsTrue (fits boot e.who e.call) × (e.reply ≡ answer boot before e.who e.call) × IsLegal boot before

-- the same of a history in order
abbrev pub Legal : System → List Entry → Type 0
Legal boot h = IsLegal boot (reverse h)
