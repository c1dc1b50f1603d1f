use Rattle.replay_check.specs.Same.{same_call}
use Rattle.replay_check.proofs.same.same_call.Goals as goal

pub returns : goal.returns
unfolding same_call
returns c = c.eq.ensures
