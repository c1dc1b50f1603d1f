-- Calls that are made one after the other.
use Rattle.std.specs.Prelude.{◌≡◌, ◌<◌, ℕ, List, length, take, reverse, IsTrue}
use Rattle.kern_ids.specs.declared.calls.Call.{Call}
use Rattle.kernel_model.specs.System.{System}
use Rattle.kernel_model.specs.Histories.{fits}
use Rattle.kernel_model.specs.Turns.{run_from}
use Rattle.kernel_core.specs.OneThreads.{OneThreadView}

-- a call of its thread fits
abbrev pub FitsIn : System → ℕ × Call → Type 0
FitsIn boot turn = IsTrue (fits boot turn.0 turn.1)

-- the calls before one of the list were made
pub record HasRunSome (old new : OneThreadView) (calls : List (ℕ × Call)) : Type 0 where
  pub count : ℕ
  pub within : count < length calls
  pub history : reverse new.history ≡ run_from old.boot (reverse old.history) (take count calls)
