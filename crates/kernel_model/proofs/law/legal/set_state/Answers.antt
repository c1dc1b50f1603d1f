use Rattle.kernel_model.proofs.Laws.Decided.{set-decided, set-bytes}
use Rattle.kernel_model.proofs.Laws.Lost.{set-answer, set-answer_empty, emptied_since-none}
use Rattle.kernel_model.proofs.law.legal.set_state.Goals as goal

pub returns : goal.returns
returns c = record {
  old = set-answer;
  lost = set-answer_empty;
  none_since = emptied_since-none;
  decided = set-decided;
  bytes = set-bytes;
}
