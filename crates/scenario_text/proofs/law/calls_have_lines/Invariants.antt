use Rattle.std.proofs.Common.{length, take, All}
use Rattle.line_text.specs.Calls.{HasLine}
use Rattle.scenario_text.proofs.law.calls_have_lines.Given as goal

abbrev pub invariant-loop-call : goal.invariant-loop-call
invariant-loop-call l = All (HasLine (length l.boot.tasks) (length l.boot.objects)) (take l.call-index l.calls)
