use Rattle.kernel_model.proofs.Laws.Fronts.{legal-take, legal-place}
use Rattle.kernel_model.proofs.law.histories.fronts.Goals as goal

pub returns : goal.returns
returns c = record {
  legal = legal-take;
  place = legal-place;
}
