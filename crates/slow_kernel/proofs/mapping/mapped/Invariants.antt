use Rattle.std.proofs.Common.{◌≡◌, reverse}
use Rattle.std.specs.List.{list_any, range_with_len}
use Rattle.kernel_model.specs.Mapping.{maps}
use Rattle.slow_kernel.proofs.mapping.mapped.Given as goal

abbrev pub invariant-loop-i : goal.invariant-loop-i
invariant-loop-i l = l.mapped ≡ list_any (maps l.boot (reverse l.entries) l.o) (range_with_len 0 l.i)
