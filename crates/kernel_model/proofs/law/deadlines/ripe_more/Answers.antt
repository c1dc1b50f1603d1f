use Rattle.kernel_model.proofs.Laws.Whole.{ripe_queue-more}
use Rattle.kernel_model.proofs.law.deadlines.ripe_more.Goals as goal

pub returns : goal.returns
returns c = record {
  one_more = ripe_queue-more;
}
