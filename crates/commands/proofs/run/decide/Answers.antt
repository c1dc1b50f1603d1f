use Rattle.std.proofs.Common.{ap, Err}
use Rattle.commands.proofs.RunDue.{over-due_named}
use Rattle.commands.proofs.run.decide.Goals as goal

pub returns-in-Err-Over-clause-due : goal.returns-in-Err-Over-clause-due
returns-in-Err-Over-clause-due g c =
    over-due_named c.limit-limit.result _ _ _ _ c.limit-limit.ensures.value (c.in-Err-Over.ensures.over (ap (λ e. Err e) c.in-Err-Over.field-0-is))
