use Rattle.std.proofs.Common.{ℕ, ◌<◌, get_or}
use Rattle.kern_ids.specs.declared.calls.Call.{Call}
use Rattle.kernel_core.specs.Runs.{FitsIn}
use Rattle.program_uses.proofs.kernels_tests.listed.Given as goal

abbrev pub invariant-loop-turn : goal.invariant-loop-turn
invariant-loop-turn g l = (k : ℕ) (past_end : ℕ × Call) → k < l.turn-index → FitsIn l.boot (get_or l.calls k past_end)
