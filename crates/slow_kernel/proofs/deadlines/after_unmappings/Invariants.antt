use Rattle.std.proofs.Common.{◌≡◌}
use Rattle.slow_kernel.specs.DeadlineSteps.{after_to}
use Rattle.slow_kernel.proofs.deadlines.after_unmappings.Given as goal

abbrev pub invariant-loop-k : goal.invariant-loop-k
invariant-loop-k l = l.lists ≡ after_to l.boot l.entries l.i l.k l.fn.lists
