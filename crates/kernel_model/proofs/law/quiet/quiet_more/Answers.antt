use Rattle.kernel_model.proofs.Laws.Kept.{quiet-unchanged}
use Rattle.kernel_model.proofs.law.quiet.quiet_more.Goals as goal

pub returns : goal.returns
returns c = record {
  unchanged = quiet-unchanged;
}
