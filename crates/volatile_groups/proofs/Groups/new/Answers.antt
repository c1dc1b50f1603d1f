use Rattle.std.proofs.Common.{subst, sym}
use Rattle.volatile_groups.specs.Grouped.{IsKept}
use Rattle.volatile_groups.proofs.KeptLemmas.{IsKept-empty}
use Rattle.volatile_groups.proofs.Groups.new.Goals as goal

pub invariant_of-result : goal.invariant_of-result
invariant_of-result c = subst IsKept (sym c.in_ok-new.ensures) IsKept-empty
