use Rattle.std.proofs.Common.{◌≡◌, reverse, take}
use Rattle.kernel_model.specs.Mapping.{said_maps}
use Rattle.slow_kernel.proofs.mapping.said_maps.Given as goal

abbrev pub invariant-loop-e : goal.invariant-loop-e
invariant-loop-e l = l.maps ≡ said_maps l.boot (reverse (take l.e-index l.entries)) l.o l.t
