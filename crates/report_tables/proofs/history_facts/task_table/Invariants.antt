use Rattle.std.proofs.Common.{◌≡◌, reverse, map}
use Rattle.std.specs.List.{range_with_len}
use Rattle.report_tables.specs.Facts.{task_facts}
use Rattle.report_tables.proofs.history_facts.task_table.Given as goal

abbrev pub invariant-loop-k : goal.invariant-loop-k
invariant-loop-k l = l.table.items ≡ map (task_facts l.boot (reverse l.entries)) (range_with_len 0 l.k)

abbrev pub ghost-task_facts : goal.ghost-task_facts
ghost-task_facts a = reverse a._entries.now
