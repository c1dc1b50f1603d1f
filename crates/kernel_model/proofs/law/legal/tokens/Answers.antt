use Rattle.kernel_model.proofs.Laws.Held.{tokens-hold}
use Rattle.kernel_model.proofs.Laws.Tokens.{purge-takes}
use Rattle.kernel_model.proofs.law.legal.tokens.Goals as goal

pub returns : goal.returns
returns c = record {
  hold = tokens-hold;
  taken = purge-takes;
}
