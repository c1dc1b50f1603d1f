use Rattle.std.proofs.Common.{◌≡◌}
use Rattle.program_uses.proofs.replay_kernel_tests.replays.Given as goal

abbrev pub invariant-loop-entry : goal.invariant-loop-entry
invariant-loop-entry g l = l.kernel.boot ≡ l.boot
