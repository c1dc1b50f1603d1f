use Rattle.kernel_model.proofs.Laws.Bands.{wish-more}
use Rattle.kernel_model.proofs.Laws.Kept.{wish-kept}
use Rattle.kernel_model.proofs.Laws.Kinds.{wish-band}
use Rattle.kernel_model.proofs.law.tasks.wish_more.Goals as goal

pub returns : goal.returns
returns c = record {
  one_more = wish-more;
  kept = wish-kept;
  set = wish-band;
}
