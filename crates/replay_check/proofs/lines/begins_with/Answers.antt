use Rattle.std.proofs.Common.{◌≡◌, true, false, sym, ◌∙◌, refl, eqb}
use Rattle.std.specs.List.{starts_with}
use Rattle.std.proofs.lemmas.Bool.Decides.{Decides-eqb}
use Rattle.std.proofs.lemmas.Slice.Eq.{starts_is}
use Rattle.replay_check.proofs.lines.begins_with.Goals as goal

pub returns-clause-yes : goal.returns-clause-yes
returns-clause-yes c = λ yes.
    let t = starts_is Decides-eqb c.args.line.now c.args.front.now (starts_with eqb c.args.line.now c.args.front.now) refl in
    t.0 (sym c.starts_with.ensures.value ∙ yes)

pub returns-clause-no : goal.returns-clause-no
returns-clause-no c = λ no rest is.
    let t = starts_is Decides-eqb c.args.line.now c.args.front.now (starts_with eqb c.args.line.now c.args.front.now) refl in
    let both : false ≡ true = sym no ∙ c.starts_with.ensures.value ∙ t.1 rest is in
    absurd cc
