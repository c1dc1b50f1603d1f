use Rattle.std.proofs.Common.{◌≡◌, replicate, None}
use Rattle.page_store.proofs.page_table.no_keys.Given as goal

abbrev pub invariant-loop : goal.invariant-loop
invariant-loop l = l.keys.items ≡ replicate l.counter None
