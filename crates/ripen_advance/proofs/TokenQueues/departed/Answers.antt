use Rattle.std.proofs.Common.{◌-◌, get_or, ap, sym, ◌∙◌}
use Rattle.ripen_advance.proofs.ZeroLemmas.{AreZero-lowered}
use Rattle.ripen_advance.proofs.TokenQueues.departed.Goals as goal

pub invariant_of-self : goal.invariant_of-self
invariant_of-self c = record {
  lifo = c.advance-2.ensures.ahead ∙ ap (λ x. x - c.args.n) c.self.invariant.lifo ∙ sym c.advance.ensures.ahead;
  fifo = c.advance-3.ensures.ahead ∙ ap (λ x. x - c.args.n) c.self.invariant.fifo ∙ sym c.advance.ensures.ahead;
  ripe = λ k. ap (λ ds. get_or ds k 0) c.advance.ensures.dues ∙ AreZero-lowered c.args.n c.self.inside.obsolete.dues c.self.invariant.ripe k;
}
