use Rattle.std.proofs.Common.{◌≡◌}
use Rattle.scenario_maker.specs.Made.{turns}
use Rattle.scenario_maker.proofs.made.make_scenario.Given as goal

abbrev pub invariant-loop-i : goal.invariant-loop-i
invariant-loop-i l = record { plan : l.scenario ≡ (turns l.i l.seed).0; state : l.draws ≡ (turns l.i l.seed).1 }
