use Rattle.std.proofs.Common.{◌≡◌, reverse}
use Rattle.slow_kernel.specs.ObjectTables.{aged_to}
use Rattle.slow_kernel.proofs.groups.first_aged.Given as goal

abbrev pub invariant-loop-g : goal.invariant-loop-g
invariant-loop-g l = l.found ≡ aged_to l.boot (reverse l.entries) l.own l.other l.g
