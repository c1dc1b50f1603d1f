use Rattle.kernel_model.proofs.Laws.Kinds.{placed-emptied, placed-unmapped, placed-faulted, placed-stays, placed-moved}
use Rattle.kernel_model.proofs.law.pages.placed_by_kind.Goals as goal

pub returns : goal.returns
returns c = record {
  emptied = placed-emptied;
  unmapped = placed-unmapped;
  faulted = placed-faulted;
  stays = placed-stays;
  moved = placed-moved;
}
