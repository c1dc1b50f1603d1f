use Rattle.std.proofs.Common.{◌≡◌, take, map}
use Rattle.serde_json.specs.View.{view}
use Rattle.report_tables.specs.Json.{object_data}
use Rattle.report_tables.proofs.json_report.object_values.Given as goal

abbrev pub invariant-loop-object : goal.invariant-loop-object
invariant-loop-object l = map view l.list.items ≡ map object_data (take l.object-index l.objects)
