use Rattle.std.proofs.Common.{◌≡◌, ◌≤◌, take, reverse}
use Rattle.kernel_model.specs.Pages.{entered}
use Rattle.slow_kernel.proofs.pages.entered.Given as goal

abbrev pub invariant-loop-e : goal.invariant-loop-e
invariant-loop-e l = record { value : l.entered ≡ entered (reverse (take l.e-index l.entries)); bound : l.entered ≤ l.e-index }
