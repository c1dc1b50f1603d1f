use Rattle.std.proofs.Common.{◌≡◌, reverse, flat_map}
use Rattle.std.specs.List.{range_with_len}
use Rattle.slow_kernel.specs.Tables.{object_rows}
use Rattle.slow_kernel.proofs.pages.all_rows.Given as goal

abbrev pub invariant-loop-i : goal.invariant-loop-i
invariant-loop-i l = l.rows.items ≡ flat_map (object_rows l.boot (reverse l.entries)) (range_with_len 0 l.i)
