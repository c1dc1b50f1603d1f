-- What a check of an input comes to.
use Rattle.std.specs.Prelude.{◌≡◌, ◌≤◌, ◌+◌, ◌++◌, ℕ, List, length, drop, Option, Result, Ok, Err}
use Rattle.std.specs.Io.KnownBytes.{Consumes, IsAtEnd}
use Rattle.edge.specs.Ends.{ReadWhole}
use Rattle.kern_ids.specs.declared.faults.Why.{Why}
use Rattle.kernel_model.specs.Scenario.{Plan}
use Rattle.history_text.specs.HistoryReading.{history_of}
use Rattle.scenario_text.specs.Fronts.{Taken, front_taken}
use Rattle.history_feed.specs.Left.{Fault}
use Rattle.replay_check.specs.declared.end.PieceEnd.{PieceEnd}
use Rattle.replay_check.specs.declared.end.PieceEnd.TheVariants.{Bad}
use Rattle.replay_check.specs.Pieces.{CheckView, HasRoom, StandsFor, end_of}
use Rattle.commands.specs.Openings.{IsBad}
use Rattle.commands.specs.declared.begun.Begun.{Begun}
use Rattle.commands.specs.declared.begun.Begun.TheVariants as begun

-- the bytes that were read begin with a scenario, and the check represents those after it
pub record IsBegun (check : CheckView) (room : ℕ) (old new : Option (List ℕ)) (limit : ℕ) : Type 0 where
  pub bytes : List ℕ
  pub took : Consumes old new bytes
  pub count : length bytes + room ≡ limit
  pub plan : Plan
  pub taken : ℕ
  pub lines : ℕ
  pub front : front_taken bytes ≡ Ok (plan, taken, lines)
  pub within : taken ≤ length bytes
  pub stands : StandsFor plan (lines + 1) (drop taken bytes) check
  pub fits : HasRoom check room

abbrev pub Begins : Begun → Option (List ℕ) → Option (List ℕ) → ℕ → Type 0
Begins (begun.Checks check room) old new limit = IsBegun check room old new limit
Begins (begun.Bad line why) old new limit = IsBad line why old new limit

-- the rest of an input was read whole, and the check of what the check stood for and the rest ends so
pub record IsEnded (check : CheckView) (found : PieceEnd) (old new : Option (List ℕ)) (most : ℕ) : Type 0 where
  pub rest : List ℕ
  pub took : Consumes old new rest
  pub few : length rest ≤ most
  pub whole : IsAtEnd new
  pub ends : (s : Plan) (n : ℕ) (text : List ℕ) → StandsFor s n text check → found ≡ end_of s (history_of n (text ++ rest))

-- how the check of an input ends, by what it begins with: what comes after a scenario is read as its history, from the next line on
abbrev pub ended_by : List ℕ → Result Taken Fault → PieceEnd
ended_by x (Ok t) = end_of t.0 (history_of (t.2 + 1) (drop t.1 x))
ended_by x (Err e) = Bad e.0 e.1

-- the verdict on an input, or its first fault
abbrev pub check_of : List ℕ → PieceEnd
check_of x = ended_by x (front_taken x)

-- an input within its limit was read whole, and its check ended so
pub record IsChecked (old new : Option (List ℕ)) (limit : ℕ) (found : PieceEnd) : Type 0 where
  pub bytes : List ℕ
  pub few : length bytes ≤ limit
  pub whole : ReadWhole old new bytes
  pub ends : found ≡ check_of bytes
