use Rattle.std.proofs.Common.{◌≡◌}
use Rattle.priority_bands.specs.Banded.{tasks_from}
use Rattle.priority_bands.proofs.Bands.head_from.Given as goal

-- the bands that were passed are empty
abbrev pub invariant-loop-b : goal.invariant-loop-b
invariant-loop-b l = tasks_from l.self-inside.lists.lists l.from ≡ tasks_from l.self-inside.lists.lists l.b
