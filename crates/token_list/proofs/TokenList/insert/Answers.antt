use Rattle.std.proofs.Common.{◌+◌, ◌-◌, ◌<◌, eqb, length, set, refl, ap, ap₂, sym, ◌∙◌, subst, arith}
use Rattle.std.specs.List.{insert}
use Rattle.std.proofs.lemmas.Bool.Decides.{nat_tests}
use Rattle.token_list.specs.declared.TokenList.TheInside.{Inside}
use Rattle.token_list.specs.Slots.{StandsAt}
use Rattle.token_list.specs.Dues.{put_due}
use Rattle.token_list.proofs.CallLemmas.{Is, IsBack, back, sum_before-some, rest-within, Finds, gap-fits, inserted}
use Rattle.token_list.proofs.TokenList.insert.Goals as goal

pub overflow_sub-before : goal.overflow_sub-before
overflow_sub-before c = rest-within c.self.inside c.self.invariant c.number.result c.number.ensures

pub overflow_sub-before-in-loop-before : goal.overflow_sub-before-in-loop-before
overflow_sub-before-in-loop-before c =
    let gs = c.self.inside.ring.numbers in
    let q = c.loop-before.place in
    let inv = c.loop-before.invariant in
    let some : 0 < q = sum_before-some gs q (omega (arith, inv.before, c.loop-before-test.true)) in
    let within : q < length gs = omega (arith, inv.stands.below, c.self.invariant.row.size) in
    let is : IsBack gs q = back gs q some within in
    let at : StandsAt c.self.inside.ring.slots (q - 1 + 1) c.loop-before.at = subst (λ p. StandsAt c.self.inside.ring.slots p c.loop-before.at) (omega arith) inv.stands in
    let there = c.before-at.ensures.place (q - 1) at in
    let read = c.number-before.ensures (q - 1) there in
    omega (arith, read, is.gap, inv.before)

pub loop-before-preserved : goal.loop-before-preserved
loop-before-preserved c =
    let gs = c.self.inside.ring.numbers in
    let q = c.loop-before.place in
    let inv = c.loop-before.invariant in
    let some : 0 < q = sum_before-some gs q (omega (arith, inv.before, c.loop-before-test.true)) in
    let within : q < length gs = omega (arith, inv.stands.below, c.self.invariant.row.size) in
    let is : IsBack gs q = back gs q some within in
    let at : StandsAt c.self.inside.ring.slots (q - 1 + 1) c.loop-before.at = subst (λ p. StandsAt c.self.inside.ring.slots p c.loop-before.at) (omega arith) inv.stands in
    let there = c.before-at.ensures.place (q - 1) at in
    let read = c.number-before.ensures (q - 1) there in
    record {
      bound = c.before-at.ensures.bound;
      stands = there;
      before = ap₂ (λ x y. x - y) inv.before read ∙ is.before;
      greater = λ _. omega (arith, is.sum, inv.before, c.loop-before-test.true);
    }

pub overflow_sub-rest : goal.overflow_sub-rest
overflow_sub-rest c =
    let found : Finds c.self.inside c.args.self.now c.loop-before.place c.loop-before.at c.args.due c.loop-before.before = record {
      tokens = c.self.invariant;
      view = c.self.view_is;
      room = c.requires.room;
      within = c.requires.within;
      stands = c.loop-before.invariant.stands;
      start = c.loop-before.invariant.before;
      after_less = c.loop-before-test.false;
      greater = c.loop-before.invariant.greater;
    } in
    omega (arith, c.number-2.ensures c.loop-before.place c.loop-before.invariant.stands, gap-fits c.self.inside c.args.self.now c.loop-before.place c.loop-before.at c.args.due c.loop-before.before found)

pub invariant_of-self : goal.invariant_of-self
invariant_of-self c =
    let found : Finds c.self.inside c.args.self.now c.loop-before.place c.loop-before.at c.args.due c.loop-before.before = record {
      tokens = c.self.invariant;
      view = c.self.view_is;
      room = c.requires.room;
      within = c.requires.within;
      stands = c.loop-before.invariant.stands;
      start = c.loop-before.invariant.before;
      after_less = c.loop-before-test.false;
      greater = c.loop-before.invariant.greater;
    } in
    let b : Inside = record { ring = c.insert_before-slot.new.self; mark = c.mark_new.new.mark; ripe = c.mark_new.new.ripe; ahead = c.self.inside.ahead } in
    let at = c.loop-before.invariant.stands in
    let at' = subst (λ ss. StandsAt ss c.loop-before.place c.loop-before.at) (sym c.set_number.ensures.slots) at in
    let gs = c.self.inside.ring.numbers in
    let slots = c.insert_before-slot.ensures.slots c.loop-before.place at' ∙ ap (λ ss. insert ss c.loop-before.place c.insert_before-slot.result) c.set_number.ensures.slots in
    let numbers =
    c.insert_before-slot.ensures.numbers c.loop-before.place at'
    ∙ ap (λ ns. insert ns c.loop-before.place (c.args.due - c.loop-before.before)) (c.set_number.ensures.numbers c.loop-before.place at)
    ∙ ap (λ x. insert (set gs c.loop-before.place (x - (c.args.due - c.loop-before.before))) c.loop-before.place (c.args.due - c.loop-before.before)) (c.number-2.ensures c.loop-before.place at) in
    let is : Is b (put_due c.args.due c.args.self.now.dues) =
    inserted c.self.inside b c.args.self.now c.loop-before.place c.loop-before.at c.args.due c.loop-before.before c.insert_before-slot.result (eqb c.args.due 0) found
    c.insert_before-slot.ensures.slot slots numbers (λ e. grind (arith, nat_tests)) (λ e. grind (arith, nat_tests))
    c.mark_new.ensures.ripe_one c.mark_new.ensures.first_unripe c.mark_new.ensures.later refl in
    is.tokens

pub returns-clause-dues : goal.returns-clause-dues
returns-clause-dues c =
    let found : Finds c.self.inside c.args.self.now c.loop-before.place c.loop-before.at c.args.due c.loop-before.before = record {
      tokens = c.self.invariant;
      view = c.self.view_is;
      room = c.requires.room;
      within = c.requires.within;
      stands = c.loop-before.invariant.stands;
      start = c.loop-before.invariant.before;
      after_less = c.loop-before-test.false;
      greater = c.loop-before.invariant.greater;
    } in
    let b : Inside = record { ring = c.insert_before-slot.new.self; mark = c.mark_new.new.mark; ripe = c.mark_new.new.ripe; ahead = c.self.inside.ahead } in
    let at = c.loop-before.invariant.stands in
    let at' = subst (λ ss. StandsAt ss c.loop-before.place c.loop-before.at) (sym c.set_number.ensures.slots) at in
    let gs = c.self.inside.ring.numbers in
    let slots = c.insert_before-slot.ensures.slots c.loop-before.place at' ∙ ap (λ ss. insert ss c.loop-before.place c.insert_before-slot.result) c.set_number.ensures.slots in
    let numbers =
    c.insert_before-slot.ensures.numbers c.loop-before.place at'
    ∙ ap (λ ns. insert ns c.loop-before.place (c.args.due - c.loop-before.before)) (c.set_number.ensures.numbers c.loop-before.place at)
    ∙ ap (λ x. insert (set gs c.loop-before.place (x - (c.args.due - c.loop-before.before))) c.loop-before.place (c.args.due - c.loop-before.before)) (c.number-2.ensures c.loop-before.place at) in
    let is : Is b (put_due c.args.due c.args.self.now.dues) =
    inserted c.self.inside b c.args.self.now c.loop-before.place c.loop-before.at c.args.due c.loop-before.before c.insert_before-slot.result (eqb c.args.due 0) found
    c.insert_before-slot.ensures.slot slots numbers (λ e. grind (arith, nat_tests)) (λ e. grind (arith, nat_tests))
    c.mark_new.ensures.ripe_one c.mark_new.ensures.first_unripe c.mark_new.ensures.later refl in
    is.dues
