use Rattle.turn_lock.proofs.Lists.{prefix_of}
use Rattle.turn_lock.proofs.laws.beginnings_of_one.Goals as goal

pub returns-clause-shorter : goal.returns-clause-shorter
returns-clause-shorter g c = prefix_of
