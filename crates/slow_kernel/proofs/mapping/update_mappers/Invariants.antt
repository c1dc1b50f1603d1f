use Rattle.std.proofs.Common.{◌≡◌, ◌+◌, length}
use Rattle.slow_kernel.specs.Tables.{mapper, mixed, past_at}
use Rattle.slow_kernel.proofs.mapping.update_mappers.Given as goal

abbrev pub invariant-loop-k : goal.invariant-loop-k
invariant-loop-k l = l.mappers ≡ mixed (mapper l.boot (past_at l.entries l.i) l.o) (mapper l.boot (past_at l.entries (l.i + 1)) l.o) (length l.boot.tasks) l.k
