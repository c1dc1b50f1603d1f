use Rattle.std.proofs.Common.{◌∙◌, sym, reverse}
use Rattle.std.proofs.lemmas.Result.{on_ok_weaker}
use Rattle.slow_kernel.proofs.TaskTables.{with_due_yes, with_due_no}
use Rattle.slow_kernel.proofs.tasks.add_due.Goals as goal

pub returns-then-is_task_due : goal.returns-then-is_task_due
returns-then-is_task_due c =
    on_ok_weaker c.put.result
    (λ e. e ∙ sym (with_due_yes c.args.boot.now (reverse c.args.entries.now) c.args.t c.args.due.now.items (sym c.is_task_due.ensures ∙ c.if-is_task_due.true)))
    c.put.ensures

pub returns-else-is_task_due : goal.returns-else-is_task_due
returns-else-is_task_due c = sym (with_due_no c.args.boot.now (reverse c.args.entries.now) c.args.t c.args.due.now.items (sym c.is_task_due.ensures ∙ c.if-is_task_due.false))
