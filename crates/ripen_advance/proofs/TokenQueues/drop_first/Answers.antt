use Rattle.std.proofs.Common.{suc, get_or, ap, sym, ◌∙◌}
use Rattle.ripen_advance.proofs.TokenQueues.drop_first.Goals as goal

pub invariant_of-self : goal.invariant_of-self
invariant_of-self c = record {
  lifo = c.self.invariant.lifo ∙ sym c.drop_first-due.ensures.ahead;
  fifo = c.self.invariant.fifo ∙ sym c.drop_first-due.ensures.ahead;
  ripe = λ k. ap (λ ds. get_or ds (suc k) 0) (sym c.drop_first-due.ensures.dues) ∙ c.self.invariant.ripe (suc k);
}
