use Rattle.std.proofs.Common.{◌≡◌, reverse, map}
use Rattle.std.specs.List.{range_with_len}
use Rattle.slow_kernel.specs.ObjectTables.{object_row}
use Rattle.slow_kernel.proofs.groups.object_rows.Given as goal

abbrev pub invariant-loop-k : goal.invariant-loop-k
invariant-loop-k l = l.rows.items ≡ map (object_row l.boot (reverse l.entries)) (range_with_len 0 l.k)
