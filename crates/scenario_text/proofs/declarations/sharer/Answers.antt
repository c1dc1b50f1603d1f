use Rattle.std.proofs.Common.{◌≡◌, arith, false, codes}
use Rattle.std.specs.Str.{bytes_eq}
use Rattle.line_text.specs.Numbers.{is_plain}
use Rattle.scenario_text.proofs.SharerLemmas.{sharers-nothing, sharers-first}
use Rattle.scenario_text.proofs.declarations.sharer.Goals as goal

pub returns-in-None-clause-value : goal.returns-in-None-clause-value
returns-in-None-clause-value c = sharers-nothing c.args.tasks c.args.bound c.args.words.now c.in-None.ensures

pub returns-in-Some-2-clause-value : goal.returns-in-Some-2-clause-value
returns-in-Some-2-clause-value c =
    let w = c.in-Some-2.word.now in
    let other : bytes_eq w (codes "pages") ≡ false = grind arith in
    let odd : is_plain w ≡ false = grind arith in
    sharers-first c.args.tasks c.args.bound c.args.words.now w c.in-Some-2.ensures other odd
