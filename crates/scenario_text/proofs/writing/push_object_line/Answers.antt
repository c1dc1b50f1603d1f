use Rattle.std.proofs.Common.{List, ◌∷◌, ◌++◌, [], map, sym, ◌∙◌}
use Rattle.std.specs.Prelude.{codes}
use Rattle.std.specs.Fmt.{decimal}
use Rattle.line_text.specs.Cut.{Word}
use Rattle.scenario_text.proofs.PieceLemmas.{line_of-spaced, five_parts, object_parts}
use Rattle.scenario_text.proofs.writing.push_object_line.Goals as goal

pub returns : goal.returns
returns c =
    let o = c.args.object.now in
    let words : List Word = decimal c.args.n ∷ codes "task" ∷ (map decimal o.tasks ++ codes "pages" ∷ decimal o.pages ∷ []) in
    line_of-spaced (codes "object") words c.push-2.new.self (
    five_parts c.args.line.now c.push_field.new.line c.push.new.self c.push_sharers.new.line c.push_field-2.new.line c.push-2.new.self _ _ _ _ _ c.requires.empty
    c.push_field.ensures.bytes
    c.push.ensures.bytes
    c.push_sharers.ensures.bytes
    c.push_field-2.ensures.bytes
    c.push-2.ensures.bytes
    ∙ sym (object_parts (codes "object") (decimal c.args.n) (codes "task") (codes "pages") (decimal o.pages) (map decimal o.tasks)))
