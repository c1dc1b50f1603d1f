use Rattle.std.proofs.Common.{◌≡◌, ◌+◌}
use Rattle.kernel_model.specs.Pages.{pages_in}
use Rattle.slow_kernel.specs.Tables.{page, facts, mixed, past_at}
use Rattle.slow_kernel.proofs.pages.update_pages.Given as goal

abbrev pub invariant-loop-k : goal.invariant-loop-k
invariant-loop-k l = l.pages ≡ mixed (λ k. facts l.fn.boot (past_at l.entries l.i) (page l.o k)) (λ k. facts l.fn.boot (past_at l.entries (l.i + 1)) (page l.o k)) (pages_in l.fn.boot l.o) l.k
