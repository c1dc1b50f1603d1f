use Rattle.std.proofs.Common.{◌≡◌, reverse}
use Rattle.slow_kernel.specs.ObjectTables.{queued_to}
use Rattle.slow_kernel.proofs.groups.first_queued.Given as goal

abbrev pub invariant-loop-g : goal.invariant-loop-g
invariant-loop-g l = l.found ≡ queued_to l.boot (reverse l.entries) l.queue l.g
