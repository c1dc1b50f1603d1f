use Rattle.std.proofs.Common.{◌≡◌, map, []}
use Rattle.std.specs.List.{range_with_len}
use Rattle.slow_kernel.specs.Tables.{page, facts}
use Rattle.slow_kernel.proofs.pages.start_pages.Given as goal

abbrev pub invariant-loop-k : goal.invariant-loop-k
invariant-loop-k l = l.pages.items ≡ map (λ k. facts l.boot [] (page l.fn.o k)) (range_with_len 0 l._k)
