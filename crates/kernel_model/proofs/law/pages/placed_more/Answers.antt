use Rattle.kernel_model.proofs.Laws.Kept.{placed-kept}
use Rattle.kernel_model.proofs.Laws.Pages.{placed-none, placed-more}
use Rattle.kernel_model.proofs.law.pages.placed_more.Goals as goal

pub returns : goal.returns
returns c = record {
  none = placed-none;
  one_more = placed-more;
  kept = placed-kept;
}
