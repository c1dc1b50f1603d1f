use Rattle.std.proofs.Common.{◌≡◌, reverse, take}
use Rattle.kernel_model.specs.Groups.{standing}
use Rattle.slow_kernel.proofs.groups.standing.Given as goal

abbrev pub invariant-loop-i : goal.invariant-loop-i
invariant-loop-i l = l.standing ≡ standing (reverse (take l.i l.entries)) l.o
