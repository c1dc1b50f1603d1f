use Rattle.std.proofs.Common.{◌≡◌, ◌++◌, take, map}
use Rattle.line_text.specs.Cut.{text_of}
use Rattle.report_tables.specs.Table.{task_words}
use Rattle.report_tables.proofs.table.add_tasks.Given as goal

abbrev pub invariant-loop-task : goal.invariant-loop-task
invariant-loop-task l = l.out.items ≡ l.fn.out.items ++ text_of (map task_words (take l.task-index l.tasks))
