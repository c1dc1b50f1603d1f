use Rattle.std.proofs.Common.{◌≡◌, ap, Err}
use Rattle.std.proofs.lemmas.Result.{IfOk-weaker}
use Rattle.commands.specs.declared.command.Reading.TheVariants.{Judge}
use Rattle.report_tables.specs.declared.report.Judging.TheVariants.{Check}
use Rattle.commands.specs.Answers.{due_of}
use Rattle.commands.specs.Calls.{IsReadDue}
use Rattle.commands.specs.Outcome.{reported, told_of_end}
use Rattle.commands.proofs.Due.{checked_due, over_due-named}
use Rattle.commands.proofs.decide.answer_checked.Goals as goal

pub returns-in-Ok-clause-due : goal.returns-in-Ok-clause-due
returns-in-Ok-clause-due g c =
    IfOk-weaker c.answer_end.result (λ a. due_of a ≡ reported (told_of_end c.in-Ok.end))
    (λ a. IsReadDue (Judge Check) (g.S.Source.left c.args.source.now) (g.S.Source.left c.check_source.new.source) (g.S.Source.fault_count c.args.source.now) (g.S.Source.fault_count c.check_source.new.source) (due_of a))
    (λ a e. checked_due c.limit-limit.result _ _ _ _ c.in-Ok.end (due_of a) c.limit-limit.ensures.value c.in-Ok.ensures.checked e) c.answer_end.ensures

pub returns-in-Err-Over-clause-due : goal.returns-in-Err-Over-clause-due
returns-in-Err-Over-clause-due g c =
    over_due-named (Judge Check) c.limit-limit.result _ _ _ _ c.limit-limit.ensures.value (c.in-Err-Over.ensures.over (ap (λ e. Err e) c.in-Err-Over.field-0-is))
