use Rattle.std.proofs.Common.{◌+◌, ◌∷◌, refl, ap₂, sym, ◌∙◌, arith}
use Rattle.std.specs.List.{remove}
use Rattle.token_list.specs.declared.TokenList.TheInside.{Inside}
use Rattle.token_list.proofs.CallLemmas.{Is, dropped, gap-below, list-first, first-due, due-within}
use Rattle.token_list.proofs.TokenList.drop_first.Goals as goal

pub take_out-after-requires-clause-fits : goal.take_out-after-requires-clause-fits
take_out-after-requires-clause-fits c = λ p _. omega (arith, gap-below c.self.inside c.self.invariant p, gap-below c.self.inside c.self.invariant (p + 1))

pub invariant_of-self : goal.invariant_of-self
invariant_of-self c =
    let b : Inside = record { ring = c.take_out-after.new.ring; mark = c.unmark.new.mark; ripe = c.unmark.new.ripe; ahead = c.self.inside.ahead } in
    let is : Is b (remove c.args.self.now.dues 0) =
    dropped c.self.inside b c.args.self.now 0 c.first-slot.result c.self.invariant c.self.view_is (omega (arith, c.requires)) c.first-slot.ensures.place
    c.take_out-after.ensures.slots c.take_out-after.ensures.numbers c.take_out-after.result c.take_out-after.ensures.after
    c.unmark.ensures.ripe_one c.unmark.ensures.first_unripe c.unmark.ensures.later refl in
    is.tokens

pub returns-clause-dues : goal.returns-clause-dues
returns-clause-dues c =
    let b : Inside = record { ring = c.take_out-after.new.ring; mark = c.unmark.new.mark; ripe = c.unmark.new.ripe; ahead = c.self.inside.ahead } in
    let is : Is b (remove c.args.self.now.dues 0) =
    dropped c.self.inside b c.args.self.now 0 c.first-slot.result c.self.invariant c.self.view_is (omega (arith, c.requires)) c.first-slot.ensures.place
    c.take_out-after.ensures.slots c.take_out-after.ensures.numbers c.take_out-after.result c.take_out-after.ensures.after
    c.unmark.ensures.ripe_one c.unmark.ensures.first_unripe c.unmark.ensures.later refl in
    list-first c.args.self.now.dues c.requires
    ∙ ap₂ (λ x ds. x ∷ ds)
    (sym (first-due c.self.inside c.args.self.now c.first-slot.result c.number-due.result c.self.invariant c.self.view_is c.requires c.first-slot.ensures.place c.number-due.ensures))
    (sym is.dues)

pub returns-clause-within : goal.returns-clause-within
returns-clause-within c =
    omega (
      arith,
      first-due c.self.inside c.args.self.now c.first-slot.result c.number-due.result c.self.invariant c.self.view_is c.requires c.first-slot.ensures.place c.number-due.ensures,
      due-within c.self.inside c.args.self.now 0 c.self.invariant c.self.view_is c.requires,
    )
