-- What a call of the program took from its source, and what it wrote to its sink.
use Rattle.std.specs.Prelude.{◌≡◌, ◌≤◌, ◌<◌, ◌+◌, ◌⊎◌, ⊤, ℕ, List, [], length, take, drop, Option, Some, None, Ok, true}
use Rattle.std.specs.Io.KnownBytes.{Appends, Keeps}
use Rattle.edge.specs.Ends.{Rose, AppendsFront}
use Rattle.kernel_model.specs.Scenario.{Plan}
use Rattle.line_text.specs.Cut.{Word}
use Rattle.scenario_text.specs.Grammar.{scenario_of}
use Rattle.report_tables.specs.Reports.{report_of}
use Rattle.commands.specs.declared.command.Reading.{Reading}
use Rattle.commands.specs.declared.command.Reading.TheVariants.{Rewrite, Judge}
use Rattle.commands.specs.declared.command.Command.{Command}
use Rattle.commands.specs.declared.command.Command.TheVariants.{Read, Make}
use Rattle.commands.specs.Commands.{command_of, asks_reading, limit_of}
use Rattle.commands.specs.Messages.{read_fault}
use Rattle.commands.specs.Outcome.{Due, outcome, outcome_of}

-- the bytes that were taken, where they are known: all that were left, or the limit and one byte
abbrev pub IsInput : ℕ → Option (List ℕ) → Option (List ℕ) → List ℕ → Type 0
IsInput limit None new x = ⊤
IsInput limit (Some left) new x =
    ((length left ≤ limit) × (x ≡ left) × (new ≡ Some []))
    ⊎ ((limit < length left) × (x ≡ take (limit + 1) left) × (new ≡ Some (drop (limit + 1) left)))

-- the bytes that were taken for a command; none where it reads nothing or there is none
abbrev pub IsTakenBy : Option Command → Option (List ℕ) → Option (List ℕ) → List ℕ → Type 0
IsTakenBy None old new x = Keeps old new × (x ≡ [])
IsTakenBy (Some (Read r)) old new x = IsInput (limit_of r) old new x
IsTakenBy (Some (Make making seed n)) old new x = Keeps old new × (x ≡ [])

abbrev pub IsTaken : List Word → Option (List ℕ) → Option (List ℕ) → List ℕ → Type 0
IsTaken words old new x = IsTakenBy (command_of words) old new x

-- the outcome of the words and the bytes that were taken
abbrev pub IsOutcome : List Word → Option (List ℕ) → Option (List ℕ) → Due → Type 0
IsOutcome words old new due = (x : List ℕ) × IsTaken words old new x × (due ≡ outcome words x)

-- a read failed, where the words ask for reading
abbrev pub IsReadFault : List Word → ℕ → ℕ → Type 0
IsReadFault words before now = (asks_reading words ≡ true) × Rose before now

-- what is due: the outcome, or the line on a failed read
abbrev pub IsDue : List Word → Option (List ℕ) → Option (List ℕ) → ℕ → ℕ → Due → Type 0
IsDue words old new before now due = IsOutcome words old new due ⊎ (IsReadFault words before now × (due ≡ (4, read_fault)))

-- the status is that of the outcome, and its text was written
abbrev pub WritesOutcome : List Word → Option (List ℕ) → Option (List ℕ) → Option (List ℕ) → Option (List ℕ) → ℕ → Type 0
WritesOutcome words old new held holds status = (text : List ℕ) × IsOutcome words old new (status, text) × Appends held holds text

-- a front of the text that is due was written
abbrev pub WritesFront : List Word → Option (List ℕ) → Option (List ℕ) → ℕ → ℕ → Option (List ℕ) → Option (List ℕ) → Type 0
WritesFront words old new before now held holds = (due : Due) × IsDue words old new before now due × AppendsFront held holds due.1

-- what is due where something is read: the outcome of the bytes that were taken, or the line on a failed read
abbrev pub IsReadDue : Reading → Option (List ℕ) → Option (List ℕ) → ℕ → ℕ → Due → Type 0
IsReadDue r old new before now due = ((x : List ℕ) × IsInput (limit_of r) old new x × (due ≡ outcome_of r x)) ⊎ (Rose before now × (due ≡ (4, read_fault)))

-- where a command reads, the input that is left is good and within its limit: a scenario; or a scenario with a history that is legal and
-- whole, and has the entry that is asked for
abbrev pub IsGoodInput : Command → Option (List ℕ) → Type 0
IsGoodInput (Read (Rewrite r)) left = (x : List ℕ) × (s : Plan) × (left ≡ Some x) × (length x ≤ limit_of (Rewrite r)) × (scenario_of x ≡ Ok s)
IsGoodInput (Read (Judge j)) left = (x : List ℕ) × (text : List ℕ) × (left ≡ Some x) × (length x ≤ limit_of (Judge j)) × (report_of j x ≡ Ok (0, text))
IsGoodInput (Make making seed n) left = ⊤

-- the words are those of a command, and its input is good
abbrev pub IsAccepted : List Word → Option (List ℕ) → Type 0
IsAccepted words left = (c : Command) × (command_of words ≡ Some c) × IsGoodInput c left
