use Rattle.kernel_model.proofs.Laws.Bands.{placing-more}
use Rattle.kernel_model.proofs.Laws.Kept.{placing-kept, band-kept}
use Rattle.kernel_model.proofs.Laws.Kinds.{placing-band, placing-active, placing-tick}
use Rattle.kernel_model.proofs.law.tasks.placing_more.Goals as goal

pub returns : goal.returns
returns c = record {
  one_more = placing-more;
  kept = placing-kept;
  band = placing-band;
  active = placing-active;
  tick = placing-tick;
  band_kept = band-kept;
}
