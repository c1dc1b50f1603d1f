use Rattle.std.proofs.Common.{◌≡◌, reverse, take}
use Rattle.kernel_model.specs.State.{state}
use Rattle.slow_kernel.proofs.states.state.Given as goal

abbrev pub invariant-loop-e : goal.invariant-loop-e
invariant-loop-e l = l.state ≡ state (reverse (take l.e-index l.entries)) l.o
