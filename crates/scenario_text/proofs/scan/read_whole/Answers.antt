use Rattle.std.proofs.Common.{sym, ◌∙◌}
use Rattle.line_text.specs.Cut.{lines_of}
use Rattle.scenario_text.proofs.LineLemmas.{behind, alone-empty, alone-rest, scenario_of-read, scenario_of-fails}
use Rattle.scenario_text.proofs.scan.read_whole.Goals as goal

pub returns-then-is_empty : goal.returns-then-is_empty
returns-then-is_empty c =
    let r = c.in-Ok in
    scenario_of-read c.args.text.now (behind r.scenario (lines_of r.rest.now) r.line) r.ensures
    ∙ alone-empty r.scenario r.line r.rest.now (sym c.is_empty.ensures ∙ c.if-is_empty.true)

pub returns-else-is_empty : goal.returns-else-is_empty
returns-else-is_empty c =
    let r = c.in-Ok in
    scenario_of-read c.args.text.now (behind r.scenario (lines_of r.rest.now) r.line) r.ensures
    ∙ alone-rest r.scenario r.line r.rest.now (sym c.is_empty.ensures ∙ c.if-is_empty.false)

pub returns-in-Err : goal.returns-in-Err
returns-in-Err c = scenario_of-fails c.in-Err.fault c.args.text.now c.in-Err.ensures
