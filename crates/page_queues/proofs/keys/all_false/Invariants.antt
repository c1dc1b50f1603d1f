use Rattle.std.proofs.Common.{◌≡◌, replicate, false}
use Rattle.page_queues.proofs.keys.all_false.Given as goal

abbrev pub invariant-loop : goal.invariant-loop
invariant-loop l = l.made.items ≡ replicate l.counter false
