use Rattle.page_queues.proofs.TallyLemmas.{tallied_new}
use Rattle.page_queues.proofs.tallied.Tallied.new.Goals as goal

pub invariant_of-result : goal.invariant_of-result
invariant_of-result c = rw (c.in_ok-new.ensures, c.in_ok-zeros.ensures, c.in_ok-zeros-2.ensures) (tallied_new c.args.objects c.requires.few)
