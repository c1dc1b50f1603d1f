use Rattle.std.proofs.Common.{◌≡◌, refl, arith}
use Rattle.commands.specs.Answers.{due_of}
use Rattle.commands.proofs.Due.{written-listed, keeps_same, read_told, written_outcome}
use Rattle.commands.proofs.Serial.{serial-at}
use Rattle.commands.proofs.top.serial_top.Goals as goal

pub returns-in-Err-clause-statuses : goal.returns-in-Err-clause-statuses
returns-in-Err-clause-statuses g c = (8, omega arith, refl)

pub returns-in-Err-clause-memory : goal.returns-in-Err-clause-memory
returns-in-Err-clause-memory g c = λ nine. keeps_same _

pub returns-clause-statuses : goal.returns-clause-statuses
returns-clause-statuses g c = written-listed c.in-Ok.answer c.write_answer.result c.write_answer.ensures.status

pub returns-clause-outcome : goal.returns-clause-outcome
returns-clause-outcome g c = λ read wrote memory.
    let w = c.write_answer.ensures.written wrote memory in
    written_outcome c.args.words.now _ _ _ _ (due_of c.in-Ok.answer) _ _ c.write_answer.result c.in-Ok.ensures.due w.0 w.1 read

pub returns-clause-serial : goal.returns-clause-serial
returns-clause-serial g c = serial-at c.args.words.now (g.S.Source.left c.args.source.now) (g.S.Source.left c.decide.new.source) (g.K.Sink.held c.args.sink.now) (g.K.Sink.held c.write_answer.new.sink) c.write_answer.result
    (λ read wrote memory.
    let w = c.write_answer.ensures.written wrote memory in
    written_outcome c.args.words.now _ _ _ _ (due_of c.in-Ok.answer) _ _ c.write_answer.result c.in-Ok.ensures.due w.0 w.1 read)

pub returns-clause-read : goal.returns-clause-read
returns-clause-read g c = λ four.
    let w = c.write_answer.ensures.written (λ (e : c.write_answer.result ≡ 5). omega (arith, e, four)) (λ (e : c.write_answer.result ≡ 9). omega (arith, e, four)) in
    read_told c.args.words.now _ _ _ _ (due_of c.in-Ok.answer) _ _ c.write_answer.result c.in-Ok.ensures.due w.0 w.1 four
