use Rattle.std.proofs.Common.{◌∙◌, sym, ap, arith, ◌+◌, ℕ, List, eqb}
use Rattle.std.specs.Prelude.{codes}
use Rattle.std.specs.List.{starts_with}
use Rattle.std.proofs.lemmas.List.{take_rest}
use Rattle.history_text.proofs.ReadLemmas.{sign_here, sign_none}
use Rattle.history_text.proofs.sign.cut_at_sign.Goals as goal

pub returns-then-starts_with : goal.returns-then-starts_with
returns-then-starts_with c =
    let value = c.starts_with.ensures.value in
    rw (take_rest c.args.line.now (c.loop-i.i + 3)) (sign_here c.args.line.now c.loop-i.i c.loop-i-test.true c.loop-i.invariant (sym (ap (λ (x : List ℕ). starts_with eqb x (codes " = ")) (take_rest c.args.line.now c.loop-i.i)) ∙ sym value ∙ c.if-starts_with.true))

pub returns : goal.returns
returns c = sign_none c.args.line.now (λ k h. c.loop-i.invariant k (omega arith))
