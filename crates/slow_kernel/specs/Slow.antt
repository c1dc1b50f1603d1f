-- What the slow kernel is seen as.
use Rattle.std.specs.Prelude.{ℕ, List, Option, nat_lt}
use Rattle.kern_ids.specs.declared.entries.Entry.{Entry}
use Rattle.kern_ids.specs.declared.replies.Refusal.{Refusal}
use Rattle.kern_ids.specs.declared.replies.Refusal.TheVariants.{Shortage}
use Rattle.kernel_model.specs.System.{System}
use Rattle.kernel_model.specs.Lists.{some_if}

-- a boot and the entries in order
pub record Slow : Type 0 where
  pub boot : System
  pub list : List Entry

-- the refusal of a call that needs so many frames
abbrev pub short_by : ℕ → ℕ → Option Refusal
short_by needed free = some_if (nat_lt free needed) (Shortage needed free)
