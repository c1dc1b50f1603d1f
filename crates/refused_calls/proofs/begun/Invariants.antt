use Rattle.kernel_shared.specs.Calls.{IsIdleOf}
use Rattle.refused_calls.proofs.begun.Given as goal

abbrev pub invariant-loop-call : goal.invariant-loop-call
invariant-loop-call g l = IsIdleOf l.kernel l.owner
