use Rattle.std.proofs.Common.{◌∷◌, [], ◌∙◌, arith, Some, None, Err, Ok}
use Rattle.std.proofs.lemmas.List.{length-append}
use Rattle.history_text.proofs.LineLemmas.{line-none, line-next}
use Rattle.history_text.proofs.history.read_whole.Goals as goal

pub returns-in-Err-next_line : goal.returns-in-Err-next_line
returns-in-Err-next_line c =
    let v = c.in-Err-next_line.ensures.value in
    rw (v.1, c.lines.invariant.said) (line-none c.lines.history.list c.lines.line c.lines.rest.now v.0)

pub returns-in-Ok-None : goal.returns-in-Ok-None
returns-in-Ok-None c =
    let parts = c.in-Ok-next_line.parts in
    let said = rw (c.len.ensures, c.in-Ok-None.field-0-is) at c.in-Ok-None.ensures.value in
    let next = line-next c.lines.history.list c.lines.line c.lines.rest.now parts.0.now parts.1.now (Ok None) c.in-Ok-next_line.ensures.value said in
    rw (c.lines.invariant.said, next) c.close.ensures

pub returns-in-Err-take_line : goal.returns-in-Err-take_line
returns-in-Err-take_line c =
    let parts = c.in-Ok-next_line.parts in
    let said = rw c.len.ensures at c.in-Err-take_line.ensures.value in
    c.lines.invariant.said ∙ line-next c.lines.history.list c.lines.line c.lines.rest.now parts.0.now parts.1.now (Err c.in-Err-take_line.why) c.in-Ok-next_line.ensures.value said

pub lines-preserved : goal.lines-preserved
lines-preserved c =
    let i = c.lines.invariant in
    let counted = i.counted in
    let parts = c.in-Ok-next_line.parts in
    let said = rw (c.len.ensures, c.in-Ok-Some.field-0-is) at c.in-Ok-Some.ensures.value in
    let room = rw (c.len.ensures, c.in-Ok-Some.field-0-is) at c.in-Ok-Some.ensures.room in
    let next = line-next c.lines.history.list c.lines.line c.lines.rest.now parts.0.now parts.1.now (Ok (Some c.in-Ok-Some.entry)) c.in-Ok-next_line.ensures.value said in
    let more = length-append c.lines.history.list (c.in-Ok-Some.entry ∷ []) in
    rw c.in_ok-add-in-Ok-Some.ensures (record {
      said = i.said ∙ next;
      counted = omega (arith, more);
      few = omega (arith, more, room);
    })
