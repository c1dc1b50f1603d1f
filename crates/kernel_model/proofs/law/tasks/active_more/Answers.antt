use Rattle.kernel_model.proofs.Laws.Bands.{active-more}
use Rattle.kernel_model.proofs.Laws.Kept.{active-kept}
use Rattle.kernel_model.proofs.Laws.Kinds.{active-set, sets_active-none}
use Rattle.kernel_model.proofs.law.tasks.active_more.Goals as goal

pub returns : goal.returns
returns c = record {
  one_more = active-more;
  kept = active-kept;
  set = active-set;
  others = sets_active-none;
}
