use Rattle.purge_pick.proofs.PickLemmas.{ripe_queue-begins}
use Rattle.purge_pick.proofs.AsManyLemmas.{purged-as-many, head-queue, stands-somewhere}
use Rattle.parts_uses.proofs.purge_pick_tests.parts.Parts.purge.Goals as goal

pub remove-queue-requires : goal.remove-queue-requires
remove-queue-requires c = record {
  present = stands-somewhere c.in_ok-picked.picked.obj c.args.self.now.groups c.in_ok-picked.picked.object_queue (head-queue c.args.self.now.groups c.in_ok-picked.picked.object_queue c.in_ok-picked.picked.obj c.are_groups.ensures c.in_ok-picked.ensures.object_queue);
}

pub invariant_of-self-2-clause-as_many : goal.invariant_of-self-2-clause-as_many
invariant_of-self-2-clause-as_many c = rw (c.take_ripe.ensures, c.remove-queue.ensures.groups) (
    purged-as-many c.args.self.now.tokens c.args.self.now.groups c.in_ok-picked.picked.token_queue c.in_ok-picked.picked.object_queue c.in_ok-picked.picked.obj c.are_groups.ensures
    (head-queue c.args.self.now.groups c.in_ok-picked.picked.object_queue c.in_ok-picked.picked.obj c.are_groups.ensures c.in_ok-picked.ensures.object_queue)
    (ripe_queue-begins c.args.self.now.tokens c.in_ok-picked.picked.token_queue c.in_ok-picked.ensures.token_queue)
    c.args.self.now.as_many
    )
