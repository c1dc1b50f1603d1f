use Rattle.std.proofs.Common.{◌≡◌}
use Rattle.std.specs.Prelude.{map}
use Rattle.std.specs.List.{range_with_len}
use Rattle.scenario_maker.specs.Head.{object_boot}
use Rattle.scenario_maker.proofs.head.add_objects.Given as goal

abbrev pub invariant-loop-o : goal.invariant-loop-o
invariant-loop-o l = l.scenario ≡ record l.initial.scenario { boot = record l.initial.scenario.boot { objects = map object_boot (range_with_len 0 l.o) } }
