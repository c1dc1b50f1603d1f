use Rattle.std.proofs.Common.{get_or, ap, ap₂, sym, ◌∙◌}
use Rattle.ripen_advance.proofs.ZeroLemmas.{AreZero-push, put_due-zero}
use Rattle.ripen_advance.proofs.TokenQueues.add.Goals as goal

pub invariant_of-self : goal.invariant_of-self
invariant_of-self c = record {
  lifo = c.self.invariant.lifo ∙ sym c.insert.ensures.ahead;
  fifo = c.self.invariant.fifo ∙ sym c.insert.ensures.ahead;
  ripe = λ k.
      ap (λ ds. get_or ds k 0) (c.insert.ensures.dues ∙ put_due-zero c.self.inside.obsolete.dues c.self.invariant.ripe)
      ∙ AreZero-push c.self.inside.obsolete.dues c.self.invariant.ripe k;
}

pub returns-in-Obsolete : goal.returns-in-Obsolete
returns-in-Obsolete c =
    rw (c.in-Obsolete.is, ← c.self.view_is)
    (ap₂ (λ ds n. record { obsolete = ds; lifo = c.self.inside.lifo.dues; fifo = c.self.inside.fifo.dues; ahead = n })
    (c.insert.ensures.dues ∙ put_due-zero c.self.inside.obsolete.dues c.self.invariant.ripe) c.insert.ensures.ahead)
