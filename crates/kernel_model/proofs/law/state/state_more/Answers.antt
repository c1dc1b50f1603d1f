use Rattle.kernel_model.proofs.Laws.State.{state-none, state-more, state-kept}
use Rattle.kernel_model.proofs.law.state.state_more.Goals as goal

pub returns : goal.returns
returns c = record {
  none = state-none;
  one_more = state-more;
  kept = state-kept;
}
