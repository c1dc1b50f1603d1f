use Rattle.std.proofs.Common.{◌≡◌, reverse, take}
use Rattle.kernel_model.specs.Mapping.{live}
use Rattle.slow_kernel.proofs.mapping.live.Given as goal

abbrev pub invariant-loop-e : goal.invariant-loop-e
invariant-loop-e l = l.live ≡ live l.boot (reverse (take l.e-index l.entries)) l.t
