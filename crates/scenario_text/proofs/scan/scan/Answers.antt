use Rattle.std.proofs.Common.{◌≡◌, true, sym, ◌∙◌, arith}
use Rattle.scenario_text.specs.Grammar.{Front, reading}
use Rattle.scenario_text.proofs.LineLemmas.{is_open, reading-open, line-none, line-taken, line-fails, line-ended}
use Rattle.scenario_text.proofs.scan.scan.Goals as goal

pub returns-then-is_ended : goal.returns-then-is_ended
returns-then-is_ended c =
    c.lines.invariant.said ∙ line-ended c.lines.place c.lines.scenario c.lines.line c.lines.rest.now (sym c.is_ended.ensures ∙ c.if-is_ended.true)

pub returns-in-Err-next_line : goal.returns-in-Err-next_line
returns-in-Err-next_line c =
    let f : Front = reading c.lines.place c.lines.scenario in
    let open_here : is_open f ≡ true = reading-open c.lines.place c.lines.scenario (sym c.is_ended.ensures ∙ c.if-is_ended.false) in
    let v = c.in-Err-next_line.ensures.value in
    rw (v.1, c.lines.invariant.said) (line-none f c.lines.line c.lines.rest.now open_here v.0)

pub returns-in-Err-take_line : goal.returns-in-Err-take_line
returns-in-Err-take_line c =
    let f : Front = reading c.lines.place c.lines.scenario in
    let open_here : is_open f ≡ true = reading-open c.lines.place c.lines.scenario (sym c.is_ended.ensures ∙ c.if-is_ended.false) in
    rw (c.at.ensures, c.lines.invariant.said)
    (line-fails c.in-Err-take_line.fault f c.lines.line c.lines.rest.now c.in-Ok-next_line.parts.0.now c.in-Ok-next_line.parts.1.now open_here c.in-Ok-next_line.ensures.value c.in-Err-take_line.ensures.value)

pub lines-preserved : goal.lines-preserved
lines-preserved c =
    let f : Front = reading c.lines.place c.lines.scenario in
    let open_here : is_open f ≡ true = reading-open c.lines.place c.lines.scenario (sym c.is_ended.ensures ∙ c.if-is_ended.false) in
    record {
      said = c.lines.invariant.said
          ∙ line-taken f (reading c.in-Ok-take_line.next c.take_line.new.scenario) c.lines.line c.lines.rest.now c.in-Ok-next_line.parts.0.now c.in-Ok-next_line.parts.1.now open_here c.in-Ok-next_line.ensures.value c.in-Ok-take_line.ensures.value;
      counted = let before = c.lines.invariant.counted in omega (arith, c.in-Ok-next_line.ensures.shorter);
      script = c.in-Ok-take_line.ensures.place;
    }
