use Rattle.kernel_model.proofs.Laws.Untouched.{refused-unchanged}
use Rattle.kernel_model.proofs.law.quiet.refused_more.Goals as goal

pub returns : goal.returns
returns c = record {
  unchanged = refused-unchanged;
}
