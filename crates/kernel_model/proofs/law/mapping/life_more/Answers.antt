use Rattle.kernel_model.proofs.Laws.Kept.{live-kept}
use Rattle.kernel_model.proofs.Laws.Kinds.{live-exit, live-killed}
use Rattle.kernel_model.proofs.Laws.Mapping.{live-none, live-more}
use Rattle.kernel_model.proofs.law.mapping.life_more.Goals as goal

pub returns : goal.returns
returns c = record {
  none = live-none;
  one_more = live-more;
  exit = live-exit;
  killed = live-killed;
  kept = live-kept;
}
