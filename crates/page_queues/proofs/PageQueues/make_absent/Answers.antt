use Rattle.page_queues.proofs.KeptLemmas.{kept_absented}
use Rattle.page_queues.proofs.PageQueues.make_absent.Goals as goal

pub invariant_of-self : goal.invariant_of-self
invariant_of-self c = kept_absented _ _ c.self.invariant _ _ c.args.key c.take.ensures.objects c.take.ensures.lists
