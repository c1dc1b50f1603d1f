use Rattle.std.proofs.Common.{◌≡◌, take}
use Rattle.kernel_model.specs.TurnsLeft.{calls_left}
use Rattle.kernel_model.proofs.turns.all_calls.Given as goal

abbrev pub invariant-scripts : goal.invariant-scripts
invariant-scripts l = calls_left l.calls.items ≡ take l.script-index l.scripts
