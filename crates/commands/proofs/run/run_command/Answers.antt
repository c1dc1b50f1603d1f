use Rattle.std.proofs.Common.{refl, arith}
use Rattle.commands.specs.Answers.{due_of}
use Rattle.commands.proofs.Due.{keeps_same}
use Rattle.commands.proofs.RunDue.{written-listed, written_run}
use Rattle.commands.proofs.run.run_command.Goals as goal

pub returns-in-Err-clause-statuses : goal.returns-in-Err-clause-statuses
returns-in-Err-clause-statuses g c = (5, omega arith, refl)

pub returns-in-Err-clause-memory : goal.returns-in-Err-clause-memory
returns-in-Err-clause-memory g c = λ nine. keeps_same _

pub returns-clause-statuses : goal.returns-clause-statuses
returns-clause-statuses g c = written-listed _ _ _ _ (due_of c.in-Ok.answer) c.write_answer.result c.in-Ok.ensures.due c.write_answer.ensures.status

pub returns-clause-outcome : goal.returns-clause-outcome
returns-clause-outcome g c = λ read wrote memory.
    let w = c.write_answer.ensures.written wrote memory in
    written_run _ _ _ _ (due_of c.in-Ok.answer) _ _ c.write_answer.result c.in-Ok.ensures.due w.0 w.1 read
