use Rattle.std.proofs.Common.{◌≡◌, reverse, take}
use Rattle.kernel_model.specs.State.{state}
use Rattle.kernel_model.specs.Contents.{byte}
use Rattle.slow_kernel.proofs.contents.byte.Given as goal

abbrev pub invariant-loop-e : goal.invariant-loop-e
invariant-loop-e l = record {
  state : l.state ≡ state (reverse (take l.e-index l.entries)) l.o;
  byte : l.byte ≡ byte (reverse (take l.e-index l.entries)) l.o l.b;
}
