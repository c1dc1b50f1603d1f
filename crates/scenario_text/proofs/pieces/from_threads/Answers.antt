use Rattle.scenario_text.proofs.PieceLemmas.{no_sides_left}
use Rattle.scenario_text.proofs.pieces.from_threads.Goals as goal

pub returns-in-None-clause-left : goal.returns-in-None-clause-left
returns-in-None-clause-left c = rw c.push_fixed.ensures (no_sides_left c.args.n c.args.sides.now c.args.scripts.now c.args.order.now c.in-None.ensures.cases)
