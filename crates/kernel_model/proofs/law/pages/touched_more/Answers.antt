use Rattle.kernel_model.proofs.Laws.Kept.{touched_since-kept}
use Rattle.kernel_model.proofs.Laws.Kinds.{touched_since-emptied, touched_since-unmapped, touched_since-touched, touched_since-moved}
use Rattle.kernel_model.proofs.Laws.Pages.{touched_since-more}
use Rattle.kernel_model.proofs.law.pages.touched_more.Goals as goal

pub returns : goal.returns
returns c = record {
  one_more = touched_since-more;
  kept = touched_since-kept;
  emptied = touched_since-emptied;
  unmapped = touched_since-unmapped;
  touched = touched_since-touched;
  moved = touched_since-moved;
}
