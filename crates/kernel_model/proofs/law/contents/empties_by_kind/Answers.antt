use Rattle.kernel_model.proofs.Laws.Kinds.{empties-map, empties-set, empties-purge}
use Rattle.kernel_model.proofs.law.contents.empties_by_kind.Goals as goal

pub returns : goal.returns
returns c = record {
  map = empties-map;
  set = empties-set;
  purge = empties-purge;
}
