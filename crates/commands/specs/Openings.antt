-- What the bytes of an input begin with.
use Rattle.std.specs.Prelude.{◌≡◌, ◌≢◌, ◌≤◌, ℕ, ◌-◌, List, [], ◌∷◌, ◌++◌, codes, length, take, drop, Result, Ok, Err, Option}
use Rattle.std.specs.Io.KnownBytes.{Consumes, IsAtEnd}
use Rattle.kern_ids.specs.declared.faults.Why.{Why}
use Rattle.kern_ids.specs.declared.faults.Why.TheVariants as why
use Rattle.kernel_model.specs.Scenario.{Plan}
use Rattle.scenario_text.specs.Fronts.{front_taken}
use Rattle.scenario_text.specs.Text.{scenario_text, scenario_lines}
use Rattle.commands.specs.declared.opening.Opening.{Opening}
use Rattle.commands.specs.declared.opening.Opening.TheVariants as opening

-- the bytes begin with the text of a scenario
pub record IsFront (bytes : List ℕ) (plan : Plan) (taken lines : ℕ) : Type 0 where
  pub read : front_taken bytes ≡ Ok (plan, taken, lines)
  pub within : taken ≤ length bytes
  pub text : take taken bytes ≡ scenario_text plan
  pub count : lines ≡ length (scenario_lines plan)

-- what is said of these bytes
abbrev pub Says : Opening → List ℕ → Type 0
Says (opening.Scenario plan taken lines) bytes = IsFront bytes plan taken lines
Says (opening.Bad line why) bytes = front_taken bytes ≡ Err (line, why)

-- it is said of the bytes with more after them too: the fault is that of a line that is ended
abbrev pub Stays : Opening → Type 0
Stays (opening.Scenario plan taken lines) = Unit {0}
Stays (opening.Bad line y) = y ≢ why.NoEnd

-- all that was left was taken, at most so many bytes
pub record IsSkipped (old new : Option (List ℕ)) (most : ℕ) : Type 0 where
  pub rest : List ℕ
  pub took : Consumes old new rest
  pub few : length rest ≤ most
  pub whole : IsAtEnd new

-- after a fault all that was left was taken
abbrev pub ReadsPast : Opening → Option (List ℕ) → Option (List ℕ) → ℕ → Type 0
ReadsPast (opening.Scenario plan taken lines) old new room = old ≡ new
ReadsPast (opening.Bad line why) old new room = IsSkipped old new room

-- the bytes that were read begin with a scenario
pub record IsGathered (bytes : List ℕ) (plan : Plan) (taken lines : ℕ) (old new : Option (List ℕ)) (limit : ℕ) : Type 0 where
  pub front : IsFront bytes plan taken lines
  pub took : Consumes old new bytes
  pub few : length bytes ≤ limit

-- the input was read whole, and this is its first fault
pub record IsBad (line : ℕ) (why : Why) (old new : Option (List ℕ)) (limit : ℕ) : Type 0 where
  pub bytes : List ℕ
  pub took : Consumes old new bytes
  pub few : length bytes ≤ limit
  pub whole : IsAtEnd new
  pub fault : front_taken bytes ≡ Err (line, why)

abbrev pub IsOpened : Opening → List ℕ → Option (List ℕ) → Option (List ℕ) → ℕ → Type 0
IsOpened (opening.Scenario plan taken lines) bytes old new limit = IsGathered bytes plan taken lines old new limit
IsOpened (opening.Bad line why) bytes old new limit = IsBad line why old new limit

-- the last line of a scenario, with the ends of the line before it and of itself
abbrev pub end_line : List ℕ
end_line = 10 ∷ codes "end" ++ 10 ∷ []

-- the last bytes, so many, and the four before them: where a line that ends with one of the last can be the last line of a scenario
abbrev pub last_bytes : ℕ → List ℕ → List ℕ
last_bytes count bytes = drop (length bytes - count - 4) bytes
