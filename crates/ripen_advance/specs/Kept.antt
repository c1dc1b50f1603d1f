-- How the tokens of the three queues are kept.
use Rattle.std.specs.Prelude.{◌≡◌, ℕ}
use Rattle.std.proofs.Common.{get_or}
use Rattle.ripen_advance.specs.declared.TokenQueues.TheInside.{Inside}
use Rattle.ripen_advance.specs.Queues.{QueueDues}

abbrev pub queue_dues : Inside → QueueDues
queue_dues a = record { obsolete = a.obsolete.dues; lifo = a.lifo.dues; fifo = a.fifo.dues; ahead = a.obsolete.ahead }

-- the three lists are told of the same pages, and the dues of OBSOLETE are 0
pub record IsKept (a : Inside) : Type 0 where
  pub lifo : a.lifo.ahead ≡ a.obsolete.ahead
  pub fifo : a.fifo.ahead ≡ a.obsolete.ahead
  pub ripe : (k : ℕ) → get_or a.obsolete.dues k 0 ≡ 0
