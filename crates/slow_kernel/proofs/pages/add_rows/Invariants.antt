use Rattle.std.proofs.Common.{◌≡◌, ◌++◌, map, reverse}
use Rattle.kernel_model.specs.Pages.{pages_of_size}
use Rattle.slow_kernel.specs.Tables.{page_row}
use Rattle.slow_kernel.proofs.pages.add_rows.Given as goal

abbrev pub invariant-loop-k : goal.invariant-loop-k
invariant-loop-k l = l.rows.items ≡ l.fn.rows.items ++ map (page_row l.boot (reverse l.entries)) (pages_of_size l.o l.k)
