use Rattle.std.proofs.Common.{◌≡◌, ◌≤◌}
use Rattle.slow_kernel.specs.Tables.{past_at}
use Rattle.slow_kernel.specs.TaskTables.{task_pass}
use Rattle.slow_kernel.proofs.tasks.task_pass.Given as goal

abbrev pub invariant-loop-i : goal.invariant-loop-i
invariant-loop-i l = record { value : l.pass ≡ task_pass l.boot (past_at l.entries l.i) l.t; bound : l.pass.ticks ≤ l.i }
