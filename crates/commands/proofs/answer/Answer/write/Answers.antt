use Rattle.std.proofs.Common.{ap, ap₂, sym, ◌∙◌, ◌++◌, List, ℕ}
use Rattle.commands.specs.declared.answer.Answer.{Answer}
use Rattle.commands.specs.Answers.{due_of}
use Rattle.commands.proofs.Due.{front_of}
use Rattle.commands.proofs.answer.Answer.write.Goals as goal

pub returns-in-BadLine-clause-front : goal.returns-in-BadLine-clause-front
returns-in-BadLine-clause-front g c =
    front_of c.write_whole-in-BadLine.result _ _ c.as_slice-in-BadLine.result.now (due_of c.args.self.now).1
    (c.as_slice-in-BadLine.ensures.value ∙ c.bad_line.ensures ∙ sym (ap (λ (a : Answer). (due_of a).1) c.in-BadLine.is)) c.write_whole-in-BadLine.ensures.front

pub returns-in-TooLong-clause-front : goal.returns-in-TooLong-clause-front
returns-in-TooLong-clause-front g c =
    front_of c.write_whole-in-TooLong.result _ _ c.as_slice-in-TooLong.result.now (due_of c.args.self.now).1
    (c.as_slice-in-TooLong.ensures.value ∙ c.too_long.ensures ∙ sym (ap (λ (a : Answer). (due_of a).1) c.in-TooLong.is)) c.write_whole-in-TooLong.ensures.front

pub returns-in-Rewritten-clause-front : goal.returns-in-Rewritten-clause-front
returns-in-Rewritten-clause-front g c =
    front_of c.write_pieces-in-Rewritten.result _ _ c.new-in-Rewritten.result (due_of c.args.self.now).1
    (c.new-in-Rewritten.ensures ∙ sym (ap (λ (a : Answer). (due_of a).1) c.in-Rewritten.is)) c.write_pieces-in-Rewritten.ensures.front

pub returns-in-Run-clause-front : goal.returns-in-Run-clause-front
returns-in-Run-clause-front g c =
    front_of c.write_pieces.result _ _ (c.new.result ++ c.new-in-Run.result) (due_of c.args.self.now).1
    (ap₂ (λ (a b : List ℕ). a ++ b) c.new.ensures c.new-in-Run.ensures ∙ sym (ap (λ (a : Answer). (due_of a).1) c.in-Run.is)) c.write_pieces.ensures.front

pub returns-in-Counted-clause-front : goal.returns-in-Counted-clause-front
returns-in-Counted-clause-front g c =
    front_of c.write_whole.result _ _ c.as_slice.result.now (due_of c.args.self.now).1
    (c.as_slice.ensures.value ∙ c.summary.ensures ∙ sym (ap (λ (a : Answer). (due_of a).1) c.in-Counted.is)) c.write_whole.ensures.front
