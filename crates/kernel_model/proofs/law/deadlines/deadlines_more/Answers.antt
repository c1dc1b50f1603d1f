use Rattle.kernel_model.proofs.Laws.Deadlines.{deadlines-more}
use Rattle.kernel_model.proofs.Laws.Kept.{deadlines-kept}
use Rattle.kernel_model.proofs.law.deadlines.deadlines_more.Goals as goal

pub returns : goal.returns
returns c = record {
  one_more = deadlines-more;
  kept = deadlines-kept;
}
