use Rattle.kernel_model.proofs.Laws.Groups.{standing-more}
use Rattle.kernel_model.proofs.Laws.Kept.{standing-kept}
use Rattle.kernel_model.proofs.Laws.Kinds.{standing-set}
use Rattle.kernel_model.proofs.law.groups.standing_more.Goals as goal

pub returns : goal.returns
returns c = record {
  one_more = standing-more;
  kept = standing-kept;
  set = standing-set;
}
