use Rattle.kernel_shared.specs.Calls.{IsIdleOf}
use Rattle.run_uses.proofs.tests.play.Given as goal

abbrev pub invariant-loop-step : goal.invariant-loop-step
invariant-loop-step g l = record {
  owner : IsIdleOf l.kernel l.owner;
  scanner : IsIdleOf l.kernel l.scanner;
}
