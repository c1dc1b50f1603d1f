-- What a call of the program comes to.
use Rattle.std.specs.Prelude.{◌≡◌, ◌≢◌, ◌≤◌, ◌⊎◌, ◌∷◌, [], ℕ, List, ◌++◌, Bool, true, false, Option, Some, None, Contains, codes}
use Rattle.std.specs.Str.{bytes_eq}
use Rattle.std.specs.Io.KnownBytes.{Appends, Keeps}
use Rattle.edge.specs.Ends.{Rose}
use Rattle.kern_ids.specs.declared.entries.Entry.{Entry}
use Rattle.kernel_model.specs.Scenario.{Plan}
use Rattle.kernel_model.specs.Turns.{serial}
use Rattle.line_text.specs.Cut.{Word}
use Rattle.scenario_text.specs.Text.{scenario_text, HasText}
use Rattle.history_text.specs.History.{history_text}
use Rattle.commands.specs.Commands.{asks_reading}
use Rattle.commands.specs.Messages.{read_fault}
use Rattle.commands.specs.Calls.{WritesOutcome, WritesFront as WritesSerialFront, IsReadFault, IsAccepted as IsSerialAccepted}
use Rattle.kernel_model.specs.Whole.{IsRunOf}
use Rattle.commands.specs.RunCalls.{WritesRun, WritesFront, IsAccepted}

-- the one word `run`
abbrev pub asks_run : List Word → Bool
asks_run [] = false
asks_run (word ∷ []) = bytes_eq word (codes "run")
asks_run (word ∷ other ∷ words) = false

-- the one word `serial`
abbrev pub asks_serial : List Word → Bool
asks_serial [] = false
asks_serial (word ∷ []) = bytes_eq word (codes "serial")
asks_serial (word ∷ other ∷ words) = false

-- where the bytes of the source are known: they are the text of a valid scenario, and what was written is this text and that of its serial history,
-- in which each reply is the answer over the entries before it, and the calls of each thread are its script
abbrev pub WritesSerial : Option (List ℕ) → Option (List ℕ) → Option (List ℕ) → Type 0
WritesSerial None held holds = Unit {0}
WritesSerial (Some left) held holds =
    (s : Plan) × HasText s × (left ≡ scenario_text s) × IsRunOf s (serial s) × Appends held holds (scenario_text s ++ history_text (serial s))

-- where the bytes of the source are known: they are the text of a valid scenario, and what was written is this text and that of one of its histories
abbrev pub WritesHistory : Option (List ℕ) → Option (List ℕ) → Option (List ℕ) → Type 0
WritesHistory None held holds = Unit {0}
WritesHistory (Some left) held holds =
    (s : Plan) × (h : List Entry) × HasText s × (left ≡ scenario_text s) × IsRunOf s h × Appends held holds (scenario_text s ++ history_text h)

-- the statuses of `run`, each by its cause, and what was written
pub record IsRunResult (old new : Option (List ℕ)) (faults later : ℕ) (held holds : Option (List ℕ)) (sunk deeper status : ℕ) : Type 0 where
  pub outcome : status ≢ 4 → status ≢ 5 → status ≢ 9 → WritesRun old new held holds status
  pub read : status ≡ 4 → Rose faults later × Appends held holds read_fault
  pub write : status ≡ 5 → Rose sunk deeper × WritesFront old new faults later held holds
  pub memory : status ≡ 9 → Keeps held holds
  pub statuses : Contains (0 ∷ 3 ∷ 4 ∷ 5 ∷ 7 ∷ 9 ∷ []) status
  pub complete : IsAccepted old → ¬ Rose faults later → ¬ Rose sunk deeper → (status ≡ 0) ⊎ (status ≡ 9)
  pub grows : (faults ≤ later) × (sunk ≤ deeper)

-- and those of every other command
pub record IsSerialResult (words : List Word) (old new : Option (List ℕ)) (faults later : ℕ) (held holds : Option (List ℕ)) (sunk deeper status : ℕ) : Type 0 where
  pub outcome : status ≢ 4 → status ≢ 5 → status ≢ 9 → WritesOutcome words old new held holds status
  pub read : status ≡ 4 → IsReadFault words faults later × Appends held holds read_fault
  pub write : status ≡ 5 → Rose sunk deeper × WritesSerialFront words old new faults later held holds
  pub memory : status ≡ 9 → Keeps held holds
  pub statuses : Contains (0 ∷ 2 ∷ 3 ∷ 4 ∷ 5 ∷ 6 ∷ 7 ∷ 8 ∷ 9 ∷ []) status
  pub serial : asks_serial words ≡ true → status ≡ 0 → WritesSerial old held holds
  pub unread : asks_reading words ≡ false → Keeps old new × (later ≡ faults)
  pub complete : IsSerialAccepted words old → ¬ Rose faults later → ¬ Rose sunk deeper → (status ≡ 0) ⊎ (status ≡ 9)
  pub grows : (faults ≤ later) × (sunk ≤ deeper)
