-- What `run` may answer.
use Rattle.std.specs.Prelude.{◌≡◌, ℕ, ◌<◌, ◌≤◌, ◌⊎◌, List, ◌++◌, length, Result, Ok, Err}
use Rattle.kern_ids.specs.declared.entries.Entry.{Entry}
use Rattle.kern_ids.specs.declared.faults.Why.{Why}
use Rattle.kernel_model.specs.Scenario.{Plan}
use Rattle.scenario_text.specs.Grammar.{scenario_of}
use Rattle.scenario_text.specs.Text.{scenario_text}
use Rattle.history_text.specs.History.{history_text}
use Rattle.commands.specs.Messages.{too_long, bad_line}
use Rattle.commands.specs.Outcome.{Due}
use Rattle.kernel_model.specs.Whole.{IsRunOf}

-- the most bytes of input that `run` reads
unfoldable pub run_limit : ℕ
run_limit = 67108864

-- the scenario and one of its histories, or the first fault of the input
abbrev pub IsRunAnswer : Result Plan (ℕ × Why) → Due → Type 0
IsRunAnswer (Ok s) due = (h : List Entry) × IsRunOf s h × (due ≡ (0, scenario_text s ++ history_text h))
IsRunAnswer (Err fault) due = due ≡ (3, bad_line fault.0 fault.1)

-- of the bytes that were taken
abbrev pub IsOutcomeOfRun : List ℕ → Due → Type 0
IsOutcomeOfRun x due = ((length x ≤ run_limit) × IsRunAnswer (scenario_of x) due) ⊎ ((run_limit < length x) × (due ≡ (7, too_long run_limit)))
