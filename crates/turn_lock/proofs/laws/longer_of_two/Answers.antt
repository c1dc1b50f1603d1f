use Rattle.turn_lock.proofs.Lists.{longer_starts}
use Rattle.turn_lock.proofs.laws.longer_of_two.Goals as goal

pub returns : goal.returns
returns g c = longer_starts
