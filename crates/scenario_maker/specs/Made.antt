-- The scenario that is made of a seed and a number of turns.
use Rattle.std.specs.Prelude.{ℕ, zero, suc, ◌+◌, ◌*◌, List, [], ◌∷◌, ◌++◌, Option, Some, None, nat_eq, nat_le, if◌then◌else◌, slice_set}
use Rattle.std.specs.Int.{w32, to_be_bytes}
use Rattle.kern_ids.specs.declared.calls.Call.{Call}
use Rattle.kern_ids.specs.declared.calls.Call.TheVariants.{Map, Write, Read, SetState, GetState, PurgeOne, Forced, Scan, Tick, Jetsam}
use Rattle.kernel_model.specs.Events.{task_of}
use Rattle.kernel_model.specs.Scenario.{Plan, script}
use Rattle.scenario_maker.specs.Draws.{Drawn, draw, drawn, ◌>>=◌}
use Rattle.scenario_maker.specs.Head.{head}

-- a call of a kernel thread, by its kind
abbrev pub kernel_call : ℕ → Call
kernel_call kind =
    if nat_le kind 3 then Scan
    else if nat_eq kind 4 then PurgeOne
    else if nat_eq kind 5 then Forced
    else if nat_eq kind 6 then Tick
    else Jetsam

-- an offset: the start of one of sixteen quarters of a page
abbrev pub offset : Drawn ℕ
offset = draw 16 >>= λ quarter. drawn (1024 * quarter)

-- a call of a task's thread on object o in turn i, by its kind; what is written are the four bytes of i, the highest first
unfoldable pub object_call : ℕ → ℕ → ℕ → Drawn Call
object_call i o kind =
    if nat_eq kind 0 then drawn (Map o)
    else if nat_eq kind 1 then (offset >>= λ off. drawn (Read o off 16))
    else if nat_le kind 3 then (offset >>= λ off. drawn (Write o off (to_be_bytes w32 i)))
    else if nat_eq kind 4 then drawn (SetState o 1)
    else if nat_eq kind 5 then (draw 8 >>= λ group. drawn (SetState o (65 + 256 * group)))
    else if nat_eq kind 6 then drawn (SetState o 0)
    else drawn (GetState o)

-- a call in turn i, by its kind: on one of the objects of the thread's task, or of the kernel
abbrev pub call_by : ℕ → ℕ → Option ℕ → Drawn Call
call_by i kind (Some task) = draw 13 >>= λ n. object_call i (task + 3 * n) kind
call_by i kind None = drawn (kernel_call kind)

-- turn i: a thread, and its call
unfoldable pub turn : ℕ → Drawn (ℕ × Call)
turn i = do
  who ← draw 6
  kind ← draw 8
  call ← call_by i kind (task_of head.boot who)
  drawn (who, call)

-- the thread has one more word in the order, and the call is the last of its script
abbrev pub with_turn : Plan → ℕ × Call → Plan
with_turn s t = record s {
  order = s.order ++ t.0 ∷ [];
  scripts = slice_set s.scripts t.0 (script s t.0 ++ t.1 ∷ []);
}

-- the scenario with the turns 0 to n - 1
unfoldable pub turns : ℕ → Drawn Plan
turns zero = drawn head
turns (suc n) = do
  s ← turns n
  t ← turn n
  drawn (with_turn s t)

-- the scenario of a seed and a number of turns
unfoldable pub made_plan : ℕ → ℕ → Plan
made_plan seed n = (turns n seed).0

-- the turns 0 to n - 1 as they are drawn, each a thread and its call
unfoldable pub drawn_turns : ℕ → ℕ → List (ℕ × Call)
drawn_turns zero x = []
drawn_turns (suc n) x = drawn_turns n x ++ (turn n (turns n x).1).0 ∷ []
