use Rattle.std.proofs.Common.{List, ◌∷◌, ◌++◌, sym, ◌∙◌}
use Rattle.std.specs.Prelude.{codes}
use Rattle.std.specs.Fmt.{decimal}
use Rattle.line_text.specs.Cut.{Word}
use Rattle.line_text.specs.Calls.{limit_words, fatal_word}
use Rattle.scenario_text.specs.Text.{ages_words, internal_words}
use Rattle.scenario_text.proofs.PieceLemmas.{line_of-spaced, seven_parts, task_parts}
use Rattle.scenario_text.proofs.writing.push_task_line.Goals as goal

pub returns : goal.returns
returns c =
    let t = c.args.task.now in
    let words : List Word =
    decimal c.args.n ∷ codes "band" ∷ decimal t.band ∷ codes "active" ∷ (limit_words t.active ++ codes "inactive" ∷ (limit_words t.inactive ++ (ages_words c.args.form t ++ internal_words t))) in
    line_of-spaced (codes "task") words c.push.new.self (
    seven_parts c.args.line.now c.push_field.new.line c.push_field-2.new.line c.push_limit_field.new.line c.push_limit_field-2.new.line c.push_ages.new.line c.push_internal.new.line c.push.new.self _ _ _ _ _ _ _ c.requires.empty
    c.push_field.ensures.bytes
    (rw c.get.ensures.value at c.push_field-2.ensures.bytes)
    c.push_limit_field.ensures.bytes
    c.push_limit_field-2.ensures.bytes
    c.push_ages.ensures.bytes
    c.push_internal.ensures.bytes
    c.push.ensures.bytes
    ∙ sym (task_parts (codes "task") (decimal c.args.n) (codes "band") (decimal t.band) (codes "active") (decimal t.active.pages) (fatal_word t.active.fatal) (codes "inactive") (decimal t.inactive.pages) (fatal_word t.inactive.fatal) (ages_words c.args.form t) (internal_words t)))
