-- Why an input is not read to its end.
use Rattle.std.specs.Prelude.{◌≡◌, ◌+◌, ℕ, List, length, Option}
use Rattle.std.specs.Io.KnownBytes.{Consumes}
use Rattle.edge.specs.Ends.{Rose, TakesFront}
use Rattle.edge.specs.declared.reading.InputFault.{InputFault}
use Rattle.edge.specs.declared.reading.InputFault.TheVariants as fault

-- Of an input that might have so many bytes more one more than those was taken; or a read failed; or memory was wanted. In these
-- two cases at most so many bytes were taken.
abbrev pub Stops : InputFault → Option (List ℕ) → Option (List ℕ) → ℕ → ℕ → ℕ → Type 0
Stops fault.Over old new before now room = (bytes : List ℕ) × Consumes old new bytes × (length bytes ≡ room + 1)
Stops fault.Failed old new before now room = Rose before now × TakesFront old new room
Stops fault.NoMemory old new before now room = TakesFront old new room
