use Rattle.std.proofs.Common.{◌≡◌, fold, take}
use Rattle.priority_bands.specs.Banded.{placed}
use Rattle.kernel_tables.proofs.ticks.place_all.Given as goal

-- the first i tasks of the line were placed
abbrev pub invariant-loop-i : goal.invariant-loop-i
invariant-loop-i l = l.bands ≡ fold (λ at t. placed at t l.band) l.initial.bands (take l.i l.line)
