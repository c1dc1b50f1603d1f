use Rattle.kernel_model.proofs.Laws.Kept.{free-kept, left-kept}
use Rattle.kernel_model.proofs.Laws.Pages.{free-is, left-is}
use Rattle.kernel_model.proofs.law.frames.frames_are.Goals as goal

pub returns : goal.returns
returns c = record {
  free = free-is;
  left = left-is;
  free_kept = free-kept;
  left_kept = left-kept;
}
