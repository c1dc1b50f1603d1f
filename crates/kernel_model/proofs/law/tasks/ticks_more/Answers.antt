use Rattle.kernel_model.proofs.Laws.Bands.{ticks-more}
use Rattle.kernel_model.proofs.Laws.Kept.{ticks-kept, counts_for_ageing-kept}
use Rattle.kernel_model.proofs.Laws.Kinds.{ticks-tick, ticks-band, ticks-active}
use Rattle.kernel_model.proofs.law.tasks.ticks_more.Goals as goal

pub returns : goal.returns
returns c = record {
  one_more = ticks-more;
  kept = ticks-kept;
  tick = ticks-tick;
  band = ticks-band;
  active = ticks-active;
  counting_kept = counts_for_ageing-kept;
}
