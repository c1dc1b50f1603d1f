use Rattle.purge_pick.proofs.AsManyLemmas.{first-as-many}
use Rattle.parts_uses.proofs.purge_pick_tests.parts.Parts.leave_first.Goals as goal

pub invariant_of-self-clause-as_many : goal.invariant_of-self-clause-as_many
invariant_of-self-clause-as_many c = rw (c.drop_first.ensures, c.remove-queue.ensures.groups) (first-as-many c.args.self.now.tokens c.args.self.now.groups c.args.queue c.args.o c.are_groups.ensures c.requires c.args.self.now.as_many)
