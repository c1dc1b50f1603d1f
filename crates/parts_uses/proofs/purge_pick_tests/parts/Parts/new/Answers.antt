use Rattle.purge_pick.proofs.AsManyLemmas.{start-as-many}
use Rattle.parts_uses.proofs.purge_pick_tests.parts.Parts.new.Goals as goal

pub invariant_of-result-clause-as_many : goal.invariant_of-result-clause-as_many
invariant_of-result-clause-as_many c = rw (c.in_ok-new.ensures, c.in_ok-new-2.ensures) start-as-many
