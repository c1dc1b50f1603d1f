use Rattle.kernel_shared.specs.Calls.{IsIdleOf}
use Rattle.run_uses.proofs.every_order.make_calls.Given as goal

abbrev pub invariant-loop-call : goal.invariant-loop-call
invariant-loop-call g l = IsIdleOf l.kernel l.pass
