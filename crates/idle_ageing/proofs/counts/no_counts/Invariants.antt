use Rattle.std.proofs.Common.{◌≡◌, replicate, None}
use Rattle.idle_ageing.proofs.counts.no_counts.Given as goal

abbrev pub invariant-loop : goal.invariant-loop
invariant-loop l = l.counts.items ≡ replicate l.counter None
