use Rattle.kernel_model.proofs.Laws.Kept.{entered-kept}
use Rattle.kernel_model.proofs.Laws.Kinds.{entered-deactivated}
use Rattle.kernel_model.proofs.Laws.Pages.{entered-none, entered-more, entered-le}
use Rattle.kernel_model.proofs.law.frames.entered_more.Goals as goal

pub returns : goal.returns
returns c = record {
  none = entered-none;
  one_more = entered-more;
  kept = entered-kept;
  deactivated = entered-deactivated;
  at_most = entered-le;
}
