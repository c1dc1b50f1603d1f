use Rattle.volatile_groups.proofs.KeptLemmas.{IsKept-without}
use Rattle.volatile_groups.proofs.Groups.remove.Goals as goal

pub invariant_of-self : goal.invariant_of-self
invariant_of-self c = IsKept-without _ _ _ c.self.invariant c.remove.ensures.cap c.remove.ensures.lists
