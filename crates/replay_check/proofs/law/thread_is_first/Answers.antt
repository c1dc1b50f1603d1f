use Rattle.replay_check.proofs.FirstWrong.{first-unspent}
use Rattle.replay_check.proofs.law.thread_is_first.Goals as goal

pub returns : goal.returns
returns c = first-unspent
