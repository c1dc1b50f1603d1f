use Rattle.kernel_model.proofs.Laws.Bands.{limits-more}
use Rattle.kernel_model.proofs.Laws.Kept.{limits-kept}
use Rattle.kernel_model.proofs.Laws.Kinds.{limits-set}
use Rattle.kernel_model.proofs.law.tasks.limits_more.Goals as goal

pub returns : goal.returns
returns c = record {
  one_more = limits-more;
  kept = limits-kept;
  set = limits-set;
}
