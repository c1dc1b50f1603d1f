use Rattle.std.proofs.Common.{◌≡◌, ◌-◌, ◌<◌, length, ◌⊎◌, inl, inr, refl, ap, sym, ◌∙◌, subst, arith, rules}
use Rattle.token_list.specs.declared.TokenList.TheInside.{Inside}
use Rattle.token_list.specs.Slots.{StandsAt}
use Rattle.token_list.specs.Dues.{lowered_by}
use Rattle.token_list.proofs.CallLemmas.{Is, view-ahead}
use Rattle.token_list.proofs.PassLemmas.{passing-first, passing-step, passing-end, mark-below, advanced}
use Rattle.token_list.proofs.TokenList.advance.Goals as goal
use Rattle.token_list.proofs.TokenList.advance.Goals.{then-loop-gap-test+else-self-ne-END, else-loop-gap-test}

pub loop-gap-init : goal.loop-gap-init
loop-gap-init c = record {
  ahead = refl;
  passing = passing-first c.self.inside c.args.self.now c.args.n c.number-gap.result c.self.invariant c.self.view_is c.requires c.number-gap.ensures;
}

pub set_number-requires : goal.set_number-requires
set_number-requires c = (c.loop-gap.self-inside.ripe, c.loop-gap.invariant.passing.stands)

pub after-self-inside-requires-clause-slot : goal.after-self-inside-requires-clause-slot
after-self-inside-requires-clause-slot c =
    let g = c.loop-gap.invariant.passing in
    let inner = mark-below c.loop-gap.self-inside.ring c.loop-gap.self-inside.mark c.loop-gap.self-inside.ripe g.row g.stands c.if-self-ne-END.true in
    omega (arith, g.row.below c.loop-gap.self-inside.ripe inner, g.stands.is)

pub after-self-inside-requires-clause-stands : goal.after-self-inside-requires-clause-stands
after-self-inside-requires-clause-stands c =
    (c.loop-gap.self-inside.ripe, subst (λ ss. StandsAt ss c.loop-gap.self-inside.ripe c.loop-gap.self-inside.mark) (sym c.set_number.ensures.slots) c.loop-gap.invariant.passing.stands)

pub overflow_add-self : goal.overflow_add-self
overflow_add-self c =
    let g = c.loop-gap.invariant.passing in
    let few = g.row.few in
    let below = g.stands.below in
    search (rules, few, below)

pub loop-gap-smaller : goal.loop-gap-smaller
loop-gap-smaller c =
    let g = c.loop-gap.invariant.passing in
    let inner = mark-below c.loop-gap.self-inside.ring c.loop-gap.self-inside.mark c.loop-gap.self-inside.ripe g.row g.stands c.if-self-ne-END.true in
    omega (arith, ap length c.set_number.ensures.slots)

pub loop-gap-preserved : goal.loop-gap-preserved
loop-gap-preserved c = record {
  ahead = c.loop-gap.invariant.ahead;
  passing =
      passing-step c.loop-gap.invariant.passing c.loop-gap-test.true c.if-self-ne-END.true c.set_number.new.self c.set_number.ensures.slots c.set_number.ensures.numbers
      c.after-self-inside.result c.after-self-inside.ensures.place c.number-gap-in-loop-gap.result c.number-gap-in-loop-gap.ensures;
}

pub overflow_sub-gap : goal.overflow_sub-gap
overflow_sub-gap c =
    passing-end c.loop-gap.invariant.passing
    (elim c.loop-gap-test.branch [ then-loop-gap-test+else-self-ne-END w ↦ inr w.if-self-ne-END.false | else-loop-gap-test w ↦ inl w.loop-gap-test.false ])

pub set_number-requires-2 : goal.set_number-requires-2
set_number-requires-2 c = (c.loop-gap.self-inside.ripe, c.loop-gap.invariant.passing.stands)

pub overflow_sub-self : goal.overflow_sub-self
overflow_sub-self c = omega (arith, c.loop-gap.invariant.ahead, view-ahead c.self.inside c.args.self.now c.self.view_is, c.requires)

pub returns-clause-ahead : goal.returns-clause-ahead
returns-clause-ahead c = ap (λ x. x - c.args.n) (c.loop-gap.invariant.ahead ∙ view-ahead c.self.inside c.args.self.now c.self.view_is)

pub invariant_of-self : goal.invariant_of-self
invariant_of-self c =
    let stop : (c.loop-gap.left < c.loop-gap.gap) ⊎ (c.loop-gap.self-inside.mark ≡ 256) =
    elim c.loop-gap-test.branch [ then-loop-gap-test+else-self-ne-END w ↦ inr w.if-self-ne-END.false | else-loop-gap-test w ↦ inl w.loop-gap-test.false ] in
    let b : Inside = record { ring = c.set_number-2.new.self; mark = c.loop-gap.self-inside.mark; ripe = c.loop-gap.self-inside.ripe; ahead = c.loop-gap.self-inside.ahead - c.args.n } in
    let is : Is b (lowered_by c.args.n c.args.self.now.dues) =
    advanced c.self.inside b c.args.self.now c.args.n c.loop-gap.self-inside.ring c.loop-gap.self-inside.mark c.loop-gap.self-inside.ripe c.loop-gap.left c.loop-gap.gap
    c.self.invariant c.self.view_is c.loop-gap.invariant.passing stop c.set_number-2.ensures.slots c.set_number-2.ensures.numbers refl refl (ap (λ x. x - c.args.n) c.loop-gap.invariant.ahead) in
    is.tokens

pub returns-clause-dues : goal.returns-clause-dues
returns-clause-dues c =
    let stop : (c.loop-gap.left < c.loop-gap.gap) ⊎ (c.loop-gap.self-inside.mark ≡ 256) =
    elim c.loop-gap-test.branch [ then-loop-gap-test+else-self-ne-END w ↦ inr w.if-self-ne-END.false | else-loop-gap-test w ↦ inl w.loop-gap-test.false ] in
    let b : Inside = record { ring = c.set_number-2.new.self; mark = c.loop-gap.self-inside.mark; ripe = c.loop-gap.self-inside.ripe; ahead = c.loop-gap.self-inside.ahead - c.args.n } in
    let is : Is b (lowered_by c.args.n c.args.self.now.dues) =
    advanced c.self.inside b c.args.self.now c.args.n c.loop-gap.self-inside.ring c.loop-gap.self-inside.mark c.loop-gap.self-inside.ripe c.loop-gap.left c.loop-gap.gap
    c.self.invariant c.self.view_is c.loop-gap.invariant.passing stop c.set_number-2.ensures.slots c.set_number-2.ensures.numbers refl refl (ap (λ x. x - c.args.n) c.loop-gap.invariant.ahead) in
    is.dues
