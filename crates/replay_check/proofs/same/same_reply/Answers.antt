use Rattle.replay_check.specs.Same.{same_reply}
use Rattle.replay_check.proofs.same.same_reply.Goals as goal

pub returns : goal.returns
unfolding same_reply
returns c = c.eq.ensures
