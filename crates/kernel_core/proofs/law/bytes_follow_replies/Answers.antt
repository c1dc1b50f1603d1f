use Rattle.kernel_core.proofs.Effects.{content-first, content-left, content-other}
use Rattle.kernel_core.proofs.law.bytes_follow_replies.Goals as goal

pub returns-clause-first : goal.returns-clause-first
returns-clause-first c = content-first

pub returns-clause-needed : goal.returns-clause-needed
returns-clause-needed c = content-left

pub returns-clause-other : goal.returns-clause-other
returns-clause-other c = content-other
