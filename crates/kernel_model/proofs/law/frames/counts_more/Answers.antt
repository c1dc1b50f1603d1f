use Rattle.kernel_model.proofs.Laws.Frames.{count_of-by_objects, count_of-object, count_of-page, share_of-kept}
use Rattle.kernel_model.proofs.Laws.Kept.{counts-kept}
use Rattle.kernel_model.proofs.law.frames.counts_more.Goals as goal

pub returns : goal.returns
returns c = record {
  by_objects = count_of-by_objects;
  object = count_of-object;
  page = count_of-page;
  share_kept = share_of-kept;
  kept = counts-kept;
}
