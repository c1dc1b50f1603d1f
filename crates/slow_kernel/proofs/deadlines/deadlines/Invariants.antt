use Rattle.std.proofs.Common.{◌≡◌}
use Rattle.kernel_model.specs.Deadlines.{deadlines}
use Rattle.slow_kernel.specs.Tables.{past_at}
use Rattle.slow_kernel.proofs.deadlines.deadlines.Given as goal

abbrev pub invariant-loop-i : goal.invariant-loop-i
invariant-loop-i l = l.lists ≡ deadlines l.boot (past_at l.entries l.i)
