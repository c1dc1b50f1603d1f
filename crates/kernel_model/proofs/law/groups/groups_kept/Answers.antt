use Rattle.kernel_model.proofs.Laws.Kept.{volatile-kept, stands_in-kept, first-kept}
use Rattle.kernel_model.proofs.law.groups.groups_kept.Goals as goal

pub returns : goal.returns
returns c = record {
  volatile = volatile-kept;
  stands_in = stands_in-kept;
  first = first-kept;
}
