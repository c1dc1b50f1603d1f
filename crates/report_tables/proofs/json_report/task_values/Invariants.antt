use Rattle.std.proofs.Common.{◌≡◌, take, map}
use Rattle.serde_json.specs.View.{view}
use Rattle.report_tables.specs.Json.{task_data}
use Rattle.report_tables.proofs.json_report.task_values.Given as goal

abbrev pub invariant-loop-task : goal.invariant-loop-task
invariant-loop-task l = map view l.list.items ≡ map task_data (take l.task-index l.tasks)
