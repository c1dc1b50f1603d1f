use Rattle.std.proofs.Common.{◌≡◌, reverse}
use Rattle.slow_kernel.specs.TaskTables.{due_of_last}
use Rattle.slow_kernel.proofs.tasks.due_tasks.Given as goal

abbrev pub invariant-loop-i : goal.invariant-loop-i
invariant-loop-i l = l.due.items ≡ due_of_last l.boot (reverse l.entries) l.i
