use Rattle.kernel_model.proofs.Laws.Queues.{band-enter, band-filter}
use Rattle.kernel_model.proofs.law.queues.bands.Goals as goal

pub returns : goal.returns
returns c = record {
  enter = band-enter;
  filter = band-filter;
}
