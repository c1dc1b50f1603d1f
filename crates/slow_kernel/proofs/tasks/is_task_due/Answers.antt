use Rattle.std.proofs.Common.{◌∙◌, ap, reverse}
use Rattle.slow_kernel.specs.TaskTables.{row_due}
use Rattle.slow_kernel.proofs.TaskTables.{due_from}
use Rattle.slow_kernel.proofs.tasks.is_task_due.Goals as goal

pub returns : goal.returns
returns c = c.is_due.ensures ∙ ap (row_due c.args.boot.now) c.task_row.ensures ∙ due_from c.args.boot.now (reverse c.args.entries.now) c.args.t
