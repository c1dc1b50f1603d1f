use Rattle.replay_check.proofs.FirstWrong.{first-wrong}
use Rattle.replay_check.proofs.law.place_is_first.Goals as goal

pub returns : goal.returns
returns c = first-wrong
