use Rattle.std.proofs.Common.{◌≡◌, reverse, map}
use Rattle.std.specs.List.{range_with_len}
use Rattle.slow_kernel.specs.VictimTables.{victim_row}
use Rattle.slow_kernel.proofs.victims.victim_rows.Given as goal

abbrev pub invariant-loop-k : goal.invariant-loop-k
invariant-loop-k l = l.victims.items ≡ map (victim_row l.boot (reverse l.entries)) (range_with_len 0 l.k)
