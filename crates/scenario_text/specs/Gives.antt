-- What a reader answers, against what the grammar says. Want of memory may come instead.
use Rattle.std.specs.Prelude.{◌≡◌, ℕ, ◌+◌, List, [], ◌∷◌, ◌++◌, Result, Ok, Err, Option, Some, None}
use Rattle.kern_ids.specs.declared.faults.Why.{Why}
use Rattle.kern_ids.specs.declared.faults.ReadFault.{ReadFault}
use Rattle.kern_ids.specs.declared.faults.ReadFault.TheVariants as whole
use Rattle.kernel_model.specs.Scenario.{Plan}
use Rattle.kernel_model.specs.declared.scenario.Form.{Form}
use Rattle.kernel_model.specs.declared.scenario.Form.TheVariants.{One, Two}
use Rattle.line_text.specs.Cut.{Word}
use Rattle.line_text.specs.Words.{◌>>=◌}
use Rattle.scenario_text.specs.declared.place.Place.{Place}
use Rattle.scenario_text.specs.declared.place.Place.TheVariants as place
use Rattle.scenario_text.specs.declared.fault.LineFault.{LineFault}
use Rattle.scenario_text.specs.declared.fault.LineFault.TheVariants as line
use Rattle.scenario_text.specs.Grammar.{Front, reading, sharers}

-- the line's fault
abbrev pub LineFails : {A : Type 0} → LineFault → Result A Why → Type 0
LineFails line.NoMemory said = Unit {0}
LineFails (line.Bad why) said = said ≡ Err why

-- a line was taken, and leads to this place
abbrev pub StepGives : Result Place LineFault → Plan → Result Front Why → Type 0
StepGives (Ok place) s said = said ≡ Ok (reading place s)
StepGives (Err e) s said = LineFails e said

-- the words of the order were taken
abbrev pub OrderGives : Result (Unit {0}) LineFault → Plan → Result Plan Why → Type 0
OrderGives (Ok x) s said = said ≡ Ok s
OrderGives (Err e) s said = LineFails e said

-- the text's fault
abbrev pub ReadFails : {A : Type 0} → ReadFault → Result A (ℕ × Why) → Type 0
ReadFails whole.NoMemory said = Unit {0}
ReadFails (whole.Bad n why) said = said ≡ Err (n, why)

-- a scenario was read from the whole text
abbrev pub ReadGives : Result Plan ReadFault → Result Plan (ℕ × Why) → Type 0
ReadGives (Ok s) said = said ≡ Ok s
ReadGives (Err e) said = ReadFails e said

-- the fault of a line, at its number
abbrev pub fault_at : LineFault → ℕ → ReadFault
fault_at line.NoMemory n = whole.NoMemory
fault_at (line.Bad why) n = whole.Bad n why

-- in a script a thread is declared
abbrev pub InScript : Place → Plan → Type 0
InScript place.Script s = Rattle.std.specs.Prelude.◌<◌ 0 (Rattle.std.specs.Prelude.length s.boot.sides)
InScript _ s = Unit {0}

-- the next task of an object, or none before the pages
abbrev pub SharerSays : ℕ → ℕ → List Word → Option ℕ → List Word → Type 0
SharerSays tasks bound old None new = sharers tasks bound old ≡ Ok ([], new)
SharerSays tasks bound old (Some n) new = sharers tasks bound old ≡ (sharers tasks (n + 1) new >>= λ r. Ok (n ∷ r.0, r.1))

-- the delay and the ageing band that the form gives every task
abbrev pub HasAges : Form → ℕ → ℕ → Type 0
HasAges (One most) delay ageing = (delay ≡ most) × (ageing ≡ 1)
HasAges Two delay ageing = Unit {0}

-- tasks before those that are read
abbrev pub front_sharers : List ℕ → Result (List ℕ × List Word) Why → Result (List ℕ × List Word) Why
front_sharers front said = said >>= λ r. Ok (front ++ r.0, r.1)
