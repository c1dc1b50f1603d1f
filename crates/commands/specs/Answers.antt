-- The status and the text of an answer.
use Rattle.std.specs.Prelude.{◌++◌}
use Rattle.scenario_text.specs.Text.{scenario_text}
use Rattle.history_text.specs.History.{history_text}
use Rattle.report_tables.specs.Summary.{summary_text}
use Rattle.report_tables.specs.Reports.{told_of}
use Rattle.commands.specs.declared.answer.Answer.{Answer}
use Rattle.commands.specs.declared.answer.Answer.TheVariants as answer
use Rattle.commands.specs.Messages.{bad_words, read_fault, too_long, bad_line}
use Rattle.commands.specs.Outcome.{Due}

abbrev pub due_of : Answer → Due
due_of (answer.Run s h) = (0, scenario_text s ++ history_text h.list)
due_of (answer.Rewritten s) = (0, scenario_text s)
due_of (answer.Counted h) = (0, summary_text h.list)
due_of (answer.Reported r) = told_of r
due_of answer.BadWords = (2, bad_words)
due_of (answer.BadLine number why) = (3, bad_line number why)
due_of answer.ReadFault = (4, read_fault)
due_of (answer.TooLong limit) = (7, too_long limit)
