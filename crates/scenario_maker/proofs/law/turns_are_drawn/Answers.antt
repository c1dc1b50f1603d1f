use Rattle.scenario_maker.specs.Made.{made_plan}
use Rattle.scenario_maker.proofs.DrawnOrder.{turns-drawn}
use Rattle.scenario_maker.proofs.Turns.{turns-order, turns-calls}
use Rattle.scenario_maker.proofs.law.turns_are_drawn.Goals as goal

pub returns : goal.returns
unfolding made_plan
returns c = record {
  turns = turns-drawn;
  calls = λ seed n. turns-calls n seed;
  order = λ seed n. turns-order n seed;
}
