use Rattle.std.proofs.Common.{length, take, All, List}
use Rattle.kern_ids.specs.declared.calls.Call.{Call}
use Rattle.line_text.specs.Calls.{HasLine}
use Rattle.scenario_text.proofs.law.scripts_have_lines.Given as goal

abbrev pub invariant-loop-script : goal.invariant-loop-script
invariant-loop-script l = All (λ (calls : List Call). All (HasLine (length l.scenario.boot.tasks) (length l.scenario.boot.objects)) calls) (take l.script-index l.script-items)
