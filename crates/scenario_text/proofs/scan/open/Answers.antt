use Rattle.std.proofs.Common.{◌≡◌, ◌∙◌, refl}
use Rattle.line_text.specs.Cut.{lines_of}
use Rattle.scenario_text.specs.declared.place.Place.TheVariants as place
use Rattle.scenario_text.specs.Grammar.{start, headed, reading, front_of, front_from}
use Rattle.scenario_text.proofs.LineLemmas.{line-none, line-bad, line-taken}
use Rattle.scenario_text.proofs.scan.open.Goals as goal

pub returns-in-Err-clause-value : goal.returns-in-Err-clause-value
returns-in-Err-clause-value c = let v = c.in-Err.ensures.value in rw v.1 (line-none start 1 c.args.text.now refl v.0)

pub returns-in-Err-take_head-clause-value : goal.returns-in-Err-take_head-clause-value
returns-in-Err-take_head-clause-value c =
    line-bad start 1 c.args.text.now c.in-Ok.parts.0.now c.in-Ok.parts.1.now c.in-Err-take_head.why refl c.in-Ok.ensures.value c.in-Err-take_head.ensures

pub returns-in-Err-next_line-clause-value : goal.returns-in-Err-next_line-clause-value
returns-in-Err-next_line-clause-value c =
    let v = c.in-Err-next_line.ensures.value in
    let first = headed c.in-Ok-take_head.first in
    let one : front_of c.args.text.now ≡ front_from first 2 (lines_of c.in-Ok.parts.1.now) =
    line-taken start first 1 c.args.text.now c.in-Ok.parts.0.now c.in-Ok.parts.1.now refl c.in-Ok.ensures.value c.in-Ok-take_head.ensures in
    rw (v.1, one) (line-none first 2 c.in-Ok.parts.1.now refl v.0)

pub returns-in-Ok-take_system-clause-value : goal.returns-in-Ok-take_system-clause-value
returns-in-Ok-take_system-clause-value c =
    let first = headed c.in-Ok-take_head.first in
    line-taken start first 1 c.args.text.now c.in-Ok.parts.0.now c.in-Ok.parts.1.now refl c.in-Ok.ensures.value c.in-Ok-take_head.ensures
    ∙ line-taken first (reading place.Tasks c.in-Ok-take_system.scenario) 2 c.in-Ok.parts.1.now c.in-Ok-next_line.parts.0.now c.in-Ok-next_line.parts.1.now refl c.in-Ok-next_line.ensures.value c.in-Ok-take_system.ensures

pub returns-in-Err-take_system-clause-value : goal.returns-in-Err-take_system-clause-value
returns-in-Err-take_system-clause-value c =
    let first = headed c.in-Ok-take_head.first in
    line-taken start first 1 c.args.text.now c.in-Ok.parts.0.now c.in-Ok.parts.1.now refl c.in-Ok.ensures.value c.in-Ok-take_head.ensures
    ∙ line-bad first 2 c.in-Ok.parts.1.now c.in-Ok-next_line.parts.0.now c.in-Ok-next_line.parts.1.now c.in-Err-take_system.why refl c.in-Ok-next_line.ensures.value c.in-Err-take_system.ensures
