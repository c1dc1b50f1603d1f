use Rattle.kernel_model.proofs.Laws.Purges.{purged-volatile, purged-places, purged-bytes}
use Rattle.kernel_model.proofs.law.legal.purge.Goals as goal

pub returns : goal.returns
returns c = record {
  volatile = purged-volatile;
  places = purged-places;
  bytes = purged-bytes;
}
