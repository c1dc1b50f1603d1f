use Rattle.std.proofs.Common.{◌≡◌, ℕ, ◌<◌, get_or, nat_eq, false}
use Rattle.slow_kernel.proofs.tasks.place_in.Given as goal

abbrev pub invariant-loop-i : goal.invariant-loop-i
invariant-loop-i l = (k : ℕ) → k < l.i → nat_eq l.t (get_or l.line k 0) ≡ false
