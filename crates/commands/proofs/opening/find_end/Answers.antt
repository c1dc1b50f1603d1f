use Rattle.std.proofs.Common.{rules, ◌≡◌, ◌∙◌, ◌-◌, ℕ, List, length, drop, ap, subst}
use Rattle.std.proofs.lemmas.List.{take_rest}
use Rattle.memchr.specs.Find.{FindsNeedle}
use Rattle.commands.specs.Openings.{end_line}
use Rattle.commands.proofs.opening.find_end.Goals as goal

pub returns : goal.returns
returns c =
    let at : c.saturating_sub-before.result ≡ length c.args.bytes.now - c.args.count - 4 = search rules in
    subst (λ (xs : List ℕ). FindsNeedle xs end_line 0 c.find.result) (take_rest c.args.bytes.now c.saturating_sub-before.result ∙ ap (λ n. drop n c.args.bytes.now) at) c.find.ensures
