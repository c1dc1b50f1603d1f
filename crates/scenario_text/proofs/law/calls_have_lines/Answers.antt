use Rattle.std.proofs.Common.{length, subst, ◌∙◌}
use Rattle.std.proofs.lemmas.List.Elements.{All-more}
use Rattle.std.proofs.lemmas.List.{take_all}
use Rattle.kern_ids.specs.declared.calls.Call.{Call}
use Rattle.line_text.specs.Calls.{HasLine}
use Rattle.scenario_text.proofs.law.calls_have_lines.Goals as goal

pub loop-call-preserved : goal.loop-call-preserved
loop-call-preserved c =
    let b = c.args.boot.now in
    let P : Call → Type 0 = HasLine (length b.tasks) (length b.objects) in
    All-more P c.args.calls.now c.loop-call.call-index c.call-item.result c.loop-call-test.true c.loop-call.invariant (subst P (c.get.ensures ∙ c.call-item.is) c.call_has_line.ensures)

pub returns : goal.returns
returns c = rw (take_all c.loop-call.call-index c.args.calls.now c.loop-call-test.false) at c.loop-call.invariant
