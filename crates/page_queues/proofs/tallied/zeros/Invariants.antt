use Rattle.std.proofs.Common.{◌≡◌, replicate}
use Rattle.page_queues.proofs.tallied.zeros.Given as goal

abbrev pub invariant-loop : goal.invariant-loop
invariant-loop l = l.made.items ≡ replicate l.counter 0
