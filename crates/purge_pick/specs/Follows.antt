-- Tokens seen by their dues, beside those seen by their deadlines.
use Rattle.std.specs.Prelude.{◌≡◌, ℕ, ◌-◌, map}
use Rattle.kern_ids.specs.declared.calls.Queue.{Queue}
use Rattle.kernel_model.specs.Deadlines.{Deadlines, of_queue}
use Rattle.ripen_advance.specs.Queues.{QueueDues, dues_in}

-- each due is its deadline less the pages that left, or 0, and the pages ahead are those that entered less those that left
pub record Follows (d : Deadlines) (entered left : ℕ) (v : QueueDues) : Type 0 where
  pub dues : (q : Queue) → dues_in v q ≡ map (λ x. x - left) (of_queue d q)
  pub ahead : v.ahead ≡ entered - left
