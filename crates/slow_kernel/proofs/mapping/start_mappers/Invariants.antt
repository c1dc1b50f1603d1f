use Rattle.std.proofs.Common.{◌≡◌, map, []}
use Rattle.std.specs.List.{range_with_len}
use Rattle.slow_kernel.specs.Tables.{mapper}
use Rattle.slow_kernel.proofs.mapping.start_mappers.Given as goal

abbrev pub invariant-loop-k : goal.invariant-loop-k
invariant-loop-k l = l.mappers.items ≡ map (mapper l.boot [] l.fn.o) (range_with_len 0 l.k)
