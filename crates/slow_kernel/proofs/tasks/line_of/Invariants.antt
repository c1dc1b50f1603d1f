use Rattle.std.proofs.Common.{◌≡◌, take}
use Rattle.slow_kernel.proofs.tasks.line_of.Given as goal

abbrev pub invariant-loop-t : goal.invariant-loop-t
invariant-loop-t l = l.line ≡ take l.t-index l.due
