use Rattle.std.proofs.Common.{◌≡◌, take, nat_eq}
use Rattle.std.specs.List.{list_any}
use Rattle.slow_kernel.proofs.mapping.has_task.Given as goal

abbrev pub invariant-loop-i : goal.invariant-loop-i
invariant-loop-i l = l.found ≡ list_any (nat_eq l.t) (take l.i l.tasks)
