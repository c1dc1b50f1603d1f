-- What the program is to answer and to write.
use Rattle.std.specs.Prelude.{ℕ, List, ◌++◌, length, Option, Some, None, Result, Ok, Err, nat_lt, if◌then◌else◌}
use Rattle.kern_ids.specs.declared.faults.Why.{Why}
use Rattle.kernel_model.specs.Scenario.{Plan, two}
use Rattle.kernel_model.specs.Turns.{serial}
use Rattle.line_text.specs.Cut.{Word}
use Rattle.scenario_text.specs.Grammar.{scenario_of}
use Rattle.scenario_text.specs.Text.{scenario_text}
use Rattle.history_text.specs.History.{history_text}
use Rattle.scenario_maker.specs.Made.{made_plan}
use Rattle.report_tables.specs.Summary.{summary_text}
use Rattle.replay_check.specs.declared.end.PieceEnd.{PieceEnd}
use Rattle.replay_check.specs.declared.end.PieceEnd.TheVariants as end
use Rattle.report_tables.specs.Reports.{Told, report_of, verdict_told}
use Rattle.commands.specs.declared.command.Rewriting.{Rewriting}
use Rattle.commands.specs.declared.command.Rewriting.TheVariants.{Serial, Migrate}
use Rattle.commands.specs.declared.command.Reading.{Reading}
use Rattle.commands.specs.declared.command.Reading.TheVariants.{Rewrite, Judge}
use Rattle.commands.specs.declared.command.Making.{Making}
use Rattle.commands.specs.declared.command.Making.TheVariants.{Text, Trial}
use Rattle.commands.specs.declared.command.Command.{Command}
use Rattle.commands.specs.declared.command.Command.TheVariants.{Read, Make}
use Rattle.commands.specs.Commands.{command_of, limit_of}
use Rattle.commands.specs.Messages.{bad_words, too_long, bad_line}

-- a status and a text
abbrev pub Due : Type 0
Due = ℕ × List ℕ

-- what is written of a scenario that was read: it and its one serial history, or it in the second form
abbrev pub output : Rewriting → Plan → List ℕ
output Serial s = scenario_text s ++ history_text (serial s)
output Migrate s = scenario_text (two s)

-- of a scenario that was read, or its first fault
abbrev pub answered : Rewriting → Result Plan (ℕ × Why) → Due
answered r (Ok s) = (0, output r s)
answered r (Err fault) = (3, bad_line fault.0 fault.1)

-- of a scenario with a history, or its first fault
abbrev pub reported : Result Told (ℕ × Why) → Due
reported (Ok told) = told
reported (Err fault) = (3, bad_line fault.0 fault.1)

-- the report on the end of a check
abbrev pub told_of_end : PieceEnd → Result Told (ℕ × Why)
told_of_end (end.Done verdict) = Ok (verdict_told verdict)
told_of_end (end.Bad line why) = Err (line, why)

-- of the bytes that were read to their end
abbrev pub read_outcome : Reading → List ℕ → Due
read_outcome (Rewrite r) x = answered r (scenario_of x)
read_outcome (Judge j) x = reported (report_of j x)

-- of the bytes that were taken
abbrev pub outcome_of : Reading → List ℕ → Due
outcome_of r x = if nat_lt (limit_of r) (length x) then (7, too_long (limit_of r)) else read_outcome r x

-- what is written of a scenario that was made: it, or the counts of its one serial history
abbrev pub made_output : Making → Plan → List ℕ
made_output Text s = scenario_text s
made_output Trial s = summary_text (serial s)

-- of a seed and a number of turns
abbrev pub made_outcome : Making → ℕ → ℕ → Due
made_outcome making seed n = (0, made_output making (made_plan seed n))

-- of a command, if there is one, and the bytes that were taken
abbrev pub outcome_by : Option Command → List ℕ → Due
outcome_by None x = (2, bad_words)
outcome_by (Some (Read r)) x = outcome_of r x
outcome_by (Some (Make making seed n)) x = made_outcome making seed n

-- of the words and the bytes that were taken
abbrev pub outcome : List Word → List ℕ → Due
outcome words x = outcome_by (command_of words) x
