use Rattle.slow_kernel.specs.Tables.{IsKnown, past_at}
use Rattle.slow_kernel.proofs.pages.look_through.Given as goal

abbrev pub invariant-loop-i : goal.invariant-loop-i
invariant-loop-i l = IsKnown l.boot (past_at l.entries l.i) l.o l.pass
