use Rattle.std.proofs.Common.{[]}
use Rattle.replay_check.proofs.Grown.{begun}
use Rattle.replay_check.proofs.pieces.PieceCheck.new.Goals as goal

pub invariant_of-result : goal.invariant_of-result
invariant_of-result c = record {
  scenario = c.args.scenario;
  first = c.args.first_line;
  text = [];
  for_them = begun c.args.scenario c.args.first_line c.new-feed.result c.in_ok-replay.replay c.new-feed.ensures.first c.new-feed.ensures.stands c.in_ok-replay.ensures;
}

pub returns-clause-stands : goal.returns-clause-stands
returns-clause-stands c = begun c.args.scenario c.args.first_line c.new-feed.result c.in_ok-replay.replay c.new-feed.ensures.first c.new-feed.ensures.stands c.in_ok-replay.ensures
