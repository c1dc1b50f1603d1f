use Rattle.kernel_core.proofs.Seen.{sees-held, sees-none}
use Rattle.kernel_core.proofs.law.seen_is_of_the_history.Goals as goal

pub returns-clause-held : goal.returns-clause-held
returns-clause-held c = sees-held

pub returns-clause-none : goal.returns-clause-none
returns-clause-none c = sees-none
