use Rattle.std.proofs.Common.{List, ◌∷◌, append_assoc, sym, ◌∙◌}
use Rattle.std.specs.Prelude.{codes}
use Rattle.std.specs.Fmt.{decimal}
use Rattle.line_text.specs.Cut.{Word}
use Rattle.scenario_text.specs.Text.{delay_words}
use Rattle.scenario_text.proofs.PieceLemmas.{line_of-spaced, seven_parts}
use Rattle.scenario_text.proofs.writing.push_system_line.Goals as goal

pub returns : goal.returns
returns c =
    let p = c.args.params in
    let words : List Word =
    codes "frames" ∷ decimal p.frames ∷ codes "target" ∷ decimal p.target ∷ codes "inactive" ∷ decimal p.inactive
    ∷ codes "store" ∷ decimal p.store ∷ codes "critical" ∷ decimal p.critical ∷ delay_words c.args.form in
    line_of-spaced (codes "system") words c.push.new.self (
    seven_parts c.args.line.now c.push_field.new.line c.push_field-2.new.line c.push_field-3.new.line c.push_field-4.new.line c.push_field-5.new.line c.push_delay.new.line c.push.new.self _ _ _ _ _ _ _ c.requires
    c.push_field.ensures.bytes
    c.push_field-2.ensures.bytes
    c.push_field-3.ensures.bytes
    c.push_field-4.ensures.bytes
    c.push_field-5.ensures.bytes
    c.push_delay.ensures.bytes
    c.push.ensures.bytes
    ∙ sym (simp append_assoc))
