use Rattle.std.proofs.Common.{ap, ◌≡◌, ◌≤◌, ◌∙◌, List, ℕ, Err, length, arith}
use Rattle.std.proofs.lemmas.Result.{IfOk-weaker}
use Rattle.commands.specs.Commands.{limit_of}
use Rattle.commands.specs.Outcome.{read_outcome}
use Rattle.commands.specs.Answers.{due_of}
use Rattle.commands.specs.Calls.{IsReadDue}
use Rattle.commands.proofs.Due.{whole_due, over_due-named}
use Rattle.commands.proofs.decide.answer_whole.Goals as goal

pub returns-in-Ok-clause-due : goal.returns-in-Ok-clause-due
returns-in-Ok-clause-due g c =
    let few : length c.in-Ok.input.items ≤ limit_of c.args.reading = omega (arith, c.in-Ok.input.ok.0, c.in-Ok.ensures.within, c.limit-limit.ensures.value) in
    IfOk-weaker c.answer_input.result (λ a. due_of a ≡ read_outcome c.args.reading c.deref.result.now)
    (λ a. IsReadDue c.args.reading (g.S.Source.left c.args.source.now) (g.S.Source.left c.read_to_limit.new.source) (g.S.Source.fault_count c.args.source.now) (g.S.Source.fault_count c.read_to_limit.new.source) (due_of a))
    (λ a e. whole_due c.args.reading _ _ _ _ c.in-Ok.input.items (due_of a) few c.in-Ok.ensures.whole (e ∙ ap (λ (b : List ℕ). read_outcome c.args.reading b) c.deref.ensures.value))
    c.answer_input.ensures

pub returns-in-Err-Over-clause-due : goal.returns-in-Err-Over-clause-due
returns-in-Err-Over-clause-due g c =
    over_due-named c.args.reading c.limit-limit.result _ _ _ _ c.limit-limit.ensures.value (c.in-Err-Over.ensures.over (ap (λ e. Err e) c.in-Err-Over.field-0-is))
