use Rattle.std.proofs.Common.{List, [], length, get_or, All, ap, ◌∙◌, subst}
use Rattle.std.proofs.lemmas.List.{get_or_default, take_all}
use Rattle.std.proofs.lemmas.List.Elements.{All-more}
use Rattle.kern_ids.specs.declared.calls.Call.{Call}
use Rattle.line_text.specs.Calls.{HasLine}
use Rattle.scenario_text.proofs.TypeLaws.{names-at}
use Rattle.scenario_text.proofs.law.scripts_have_lines.Goals as goal

pub calls_have_lines-requires : goal.calls_have_lines-requires
calls_have_lines-requires c =
    let i = c.loop-script.script-index in
    let within = c.loop-script-test.true in
    let items = c.scripts-script-items in
    rw c.boot-boot.ensures
    (names-at c.args.scenario.now i c.calls.result.now c.valid.ensures (rw items.ensures at within)
    (c.calls.ensures ∙ c.script-item.is ∙ get_or_default items.result.now i c.script-item.result [] within ∙ ap (λ (xs : List (List Call)). get_or xs i []) items.ensures))

pub loop-script-preserved : goal.loop-script-preserved
loop-script-preserved c =
    let b = c.args.scenario.now.boot in
    let P : List Call → Type 0 = λ calls. All (HasLine (length b.tasks) (length b.objects)) calls in
    let lines : P c.script-item.result = rw (c.boot-boot.ensures, c.calls.ensures) at c.calls_have_lines.ensures in
    All-more P c.scripts-script-items.result.now c.loop-script.script-index c.script-item.result c.loop-script-test.true c.loop-script.invariant (subst P c.script-item.is lines)

pub returns : goal.returns
returns c = rw (take_all c.loop-script.script-index c.scripts-script-items.result.now c.loop-script-test.false, c.scripts-script-items.ensures) at c.loop-script.invariant
