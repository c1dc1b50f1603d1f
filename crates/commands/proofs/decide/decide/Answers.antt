use Rattle.std.proofs.Common.{rules, ◌≡◌, Some}
use Rattle.std.proofs.lemmas.Result.{IfOk-weaker}
use Rattle.commands.specs.declared.command.Command.TheVariants.{Make}
use Rattle.commands.specs.Commands.{command_of}
use Rattle.commands.specs.Outcome.{made_outcome}
use Rattle.commands.specs.Answers.{due_of}
use Rattle.commands.specs.Calls.{IsDue}
use Rattle.commands.proofs.Due.{keeps_same, made_is_due}
use Rattle.commands.proofs.decide.decide.Goals as goal

pub returns-in-Some-Make-clause-due : goal.returns-in-Some-Make-clause-due
returns-in-Some-Make-clause-due g c =
    let making = c.in-Some-Make.making in
    let seed = c.in-Some-Make.seed in
    let n = c.in-Some-Make.n in
    let left = g.S.Source.left c.args.source.now in
    let faults = g.S.Source.fault_count c.args.source.now in
    let asked : command_of c.args.words.now ≡ Some (Make making seed n) = search rules in
    IfOk-weaker c.answer_made.result (λ a. due_of a ≡ made_outcome making seed n) (λ a. IsDue c.args.words.now left left faults faults (due_of a))
    (λ a e. made_is_due c.args.words.now making seed n left left faults faults (due_of a) asked (keeps_same left) e) c.answer_made.ensures
