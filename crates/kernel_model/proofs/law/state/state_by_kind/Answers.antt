use Rattle.kernel_model.proofs.Laws.Kinds.{state-map, state-set, state-purge}
use Rattle.kernel_model.proofs.law.state.state_by_kind.Goals as goal

pub returns : goal.returns
returns c = record {
  map = state-map;
  set = state-set;
  purge = state-purge;
}
