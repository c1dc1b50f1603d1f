use Rattle.kernel_model.proofs.Laws.Kept.{unmaps-kept}
use Rattle.kernel_model.proofs.Laws.Mapping.{unmaps-is, unmaps-no}
use Rattle.kernel_model.proofs.law.mapping.unmaps_more.Goals as goal

pub returns : goal.returns
returns c = record {
  is = unmaps-is;
  none = unmaps-no;
  kept = unmaps-kept;
}
