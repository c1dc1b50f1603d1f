use Rattle.std.proofs.Common.{◌≡◌, ◌≤◌, ℕ, All, List, subst}
use Rattle.kern_ids.specs.declared.calls.Queue.{Queue}
use Rattle.kern_ids.specs.declared.calls.Queue.TheVariants.{Obsolete, Lifo, Fifo}
use Rattle.ripen_advance.specs.Queues.{QueueDues, dues_in, AreDues}
use Rattle.ripen_advance.proofs.TokenQueues.counts.Goals as goal

abbrev HaveDues : QueueDues → Type 0
HaveDues d = (q : Queue) → AreDues (dues_in d q) d.ahead

pub returns-clause-dues : goal.returns-clause-dues
returns-clause-dues c = subst HaveDues c.self.view_is dues
  where
    dues : HaveDues (record { obsolete = c.self.inside.obsolete.dues; lifo = c.self.inside.lifo.dues; fifo = c.self.inside.fifo.dues; ahead = c.self.inside.obsolete.ahead })
    dues Obsolete = record { rising = c.counts.ensures.rising; within = c.counts.ensures.within; size = c.counts.ensures.size }
    dues Lifo = record {
      rising = c.counts-2.ensures.rising;
      within = subst (λ (n : ℕ). All (λ d. d ≤ n) c.self.inside.lifo.dues) c.self.invariant.lifo c.counts-2.ensures.within;
      size = c.counts-2.ensures.size;
    }
    dues Fifo = record {
      rising = c.counts-3.ensures.rising;
      within = subst (λ (n : ℕ). All (λ d. d ≤ n) c.self.inside.fifo.dues) c.self.invariant.fifo c.counts-3.ensures.within;
      size = c.counts-3.ensures.size;
    }
