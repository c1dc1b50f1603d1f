-- What a call of `run` took from its source, and what it wrote to its sink.
use Rattle.std.specs.Prelude.{◌≡◌, ◌≤◌, ◌⊎◌, ℕ, List, length, Option, Some, Ok}
use Rattle.std.specs.Io.KnownBytes.{Appends}
use Rattle.edge.specs.Ends.{Rose, AppendsFront}
use Rattle.kernel_model.specs.Scenario.{Plan}
use Rattle.scenario_text.specs.Grammar.{scenario_of}
use Rattle.commands.specs.Messages.{read_fault}
use Rattle.commands.specs.Outcome.{Due}
use Rattle.commands.specs.Calls.{IsInput}
use Rattle.commands.specs.RunOutcome.{run_limit, IsOutcomeOfRun}

-- an outcome of the bytes that were taken
abbrev pub IsRunOutcome : Option (List ℕ) → Option (List ℕ) → Due → Type 0
IsRunOutcome old new due = (x : List ℕ) × IsInput run_limit old new x × IsOutcomeOfRun x due

-- what is due: an outcome, or the line on a failed read
abbrev pub IsRunDue : Option (List ℕ) → Option (List ℕ) → ℕ → ℕ → Due → Type 0
IsRunDue old new before now due = IsRunOutcome old new due ⊎ (Rose before now × (due ≡ (4, read_fault)))

-- the status is that of an outcome, and its text was written
abbrev pub WritesRun : Option (List ℕ) → Option (List ℕ) → Option (List ℕ) → Option (List ℕ) → ℕ → Type 0
WritesRun old new held holds status = (text : List ℕ) × IsRunOutcome old new (status, text) × Appends held holds text

-- a front of the text that is due was written
abbrev pub WritesFront : Option (List ℕ) → Option (List ℕ) → ℕ → ℕ → Option (List ℕ) → Option (List ℕ) → Type 0
WritesFront old new before now held holds = (due : Due) × IsRunDue old new before now due × AppendsFront held holds due.1

-- the input that is left is a scenario within the limit
abbrev pub IsAccepted : Option (List ℕ) → Type 0
IsAccepted left = (x : List ℕ) × (s : Plan) × (left ≡ Some x) × (length x ≤ run_limit) × (scenario_of x ≡ Ok s)
