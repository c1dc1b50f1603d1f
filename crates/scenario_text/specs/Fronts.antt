-- The scenario that a text begins with, and how much of the text it takes.
use Rattle.std.specs.Prelude.{◌≡◌, ℕ, ◌-◌, List, length, Result, Ok, Err}
use Rattle.std.specs.List.{join_with_byte}
use Rattle.kern_ids.specs.declared.faults.Why.{Why}
use Rattle.kern_ids.specs.declared.faults.ReadFault.{ReadFault}
use Rattle.kernel_model.specs.Scenario.{Plan}
use Rattle.scenario_text.specs.Grammar.{Read, front_of}
use Rattle.scenario_text.specs.Gives.{ReadFails}

-- a scenario, the bytes of its text, and its lines
abbrev pub Taken : Type 0
Taken = Plan × ℕ × ℕ

abbrev pub taken_of : List ℕ → Result Read (ℕ × Why) → Result Taken (ℕ × Why)
taken_of text (Ok r) = Ok (r.plan, length text - length (join_with_byte 10 r.behind), r.number - 1)
taken_of text (Err e) = Err e

-- what a text begins with, or its first fault
abbrev pub front_taken : List ℕ → Result Taken (ℕ × Why)
front_taken text = taken_of text (front_of text)

-- what a reader answers; or it is out of memory
abbrev pub FrontGives : Result Taken ReadFault → Result Taken (ℕ × Why) → Type 0
FrontGives (Ok r) said = said ≡ Ok r
FrontGives (Err e) said = ReadFails e said
