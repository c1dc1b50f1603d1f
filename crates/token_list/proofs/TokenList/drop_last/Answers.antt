use Rattle.std.proofs.Common.{◌≡◌, ◌+◌, ◌-◌, ◌∷◌, ◌++◌, [], length, refl, ap₂, sym, ◌∙◌, arith}
use Rattle.std.specs.List.{remove}
use Rattle.token_list.specs.declared.TokenList.TheInside.{Inside}
use Rattle.std.proofs.lemmas.List.Edits.{length-remove}
use Rattle.std.proofs.Common.{ap}
use Rattle.token_list.specs.Slots.{StandsAt}
use Rattle.token_list.proofs.CallLemmas.{Is, dropped, gap-below, rest-within, length-tokens, list-last, last-due}
use Rattle.token_list.proofs.TokenList.drop_last.Goals as goal

pub overflow_sub-due : goal.overflow_sub-due
overflow_sub-due c = rest-within c.self.inside c.self.invariant c.number.result c.number.ensures

pub take_out-after-requires-clause-bound : goal.take_out-after-requires-clause-bound
take_out-after-requires-clause-bound c =
    let size = length-tokens c.self.inside c.args.self.now c.self.invariant c.self.view_is in
    let len : c.len-place.result ≡ length c.args.self.now.dues = omega (arith, c.len-place.ensures.value) in
    let some = c.requires in
    let at : StandsAt c.self.inside.ring.slots (c.len-place.result - 1) c.last-slot.result = c.last-slot.ensures.place (c.len-place.result - 1) (omega arith) in
    omega (arith, at.is, c.self.invariant.row.below (c.len-place.result - 1) (omega arith))

pub take_out-after-requires-clause-stands : goal.take_out-after-requires-clause-stands
take_out-after-requires-clause-stands c =
    let size = length-tokens c.self.inside c.args.self.now c.self.invariant c.self.view_is in
    let len : c.len-place.result ≡ length c.args.self.now.dues = omega (arith, c.len-place.ensures.value) in
    let some = c.requires in
    let at : StandsAt c.self.inside.ring.slots (c.len-place.result - 1) c.last-slot.result = c.last-slot.ensures.place (c.len-place.result - 1) (omega arith) in
    (c.len-place.result - 1, at)

pub take_out-after-requires-clause-fits : goal.take_out-after-requires-clause-fits
take_out-after-requires-clause-fits c = λ p _. omega (arith, gap-below c.self.inside c.self.invariant p, gap-below c.self.inside c.self.invariant (p + 1))

pub invariant_of-self : goal.invariant_of-self
invariant_of-self c =
    let size = length-tokens c.self.inside c.args.self.now c.self.invariant c.self.view_is in
    let len : c.len-place.result ≡ length c.args.self.now.dues = omega (arith, c.len-place.ensures.value) in
    let some = c.requires in
    let at : StandsAt c.self.inside.ring.slots (c.len-place.result - 1) c.last-slot.result = c.last-slot.ensures.place (c.len-place.result - 1) (omega arith) in
    let b : Inside = record { ring = c.take_out-after.new.ring; mark = c.unmark.new.mark; ripe = c.unmark.new.ripe; ahead = c.self.inside.ahead } in
    let is : Is b (remove c.args.self.now.dues (c.len-place.result - 1)) =
    dropped c.self.inside b c.args.self.now (c.len-place.result - 1) c.last-slot.result c.self.invariant c.self.view_is (omega arith) at
    c.take_out-after.ensures.slots c.take_out-after.ensures.numbers c.take_out-after.result c.take_out-after.ensures.after
    c.unmark.ensures.ripe_one c.unmark.ensures.first_unripe c.unmark.ensures.later refl in
    is.tokens

pub returns-clause-dues : goal.returns-clause-dues
returns-clause-dues c =
    let size = length-tokens c.self.inside c.args.self.now c.self.invariant c.self.view_is in
    let len : c.len-place.result ≡ length c.args.self.now.dues = omega (arith, c.len-place.ensures.value) in
    let some = c.requires in
    let at : StandsAt c.self.inside.ring.slots (c.len-place.result - 1) c.last-slot.result = c.last-slot.ensures.place (c.len-place.result - 1) (omega arith) in
    let b : Inside = record { ring = c.take_out-after.new.ring; mark = c.unmark.new.mark; ripe = c.unmark.new.ripe; ahead = c.self.inside.ahead } in
    let is : Is b (remove c.args.self.now.dues (c.len-place.result - 1)) =
    dropped c.self.inside b c.args.self.now (c.len-place.result - 1) c.last-slot.result c.self.invariant c.self.view_is (omega arith) at
    c.take_out-after.ensures.slots c.take_out-after.ensures.numbers c.take_out-after.result c.take_out-after.ensures.after
    c.unmark.ensures.ripe_one c.unmark.ensures.first_unripe c.unmark.ensures.later refl in
    list-last c.args.self.now.dues (c.len-place.result - 1) (omega arith)
    ∙ ap₂ (λ ds x. ds ++ x ∷ [])
    (sym is.dues)
    (sym (last-due c.self.inside c.args.self.now c.number.result (c.len-place.result - 1) c.self.invariant c.self.view_is (omega arith) c.number.ensures))

pub returns-clause-room : goal.returns-clause-room
returns-clause-room c =
    let size = length-tokens c.self.inside c.args.self.now c.self.invariant c.self.view_is in
    let len : c.len-place.result ≡ length c.args.self.now.dues = omega (arith, c.len-place.ensures.value) in
    let some = c.requires in
    let at : StandsAt c.self.inside.ring.slots (c.len-place.result - 1) c.last-slot.result = c.last-slot.ensures.place (c.len-place.result - 1) (omega arith) in
    let b : Inside = record { ring = c.take_out-after.new.ring; mark = c.unmark.new.mark; ripe = c.unmark.new.ripe; ahead = c.self.inside.ahead } in
    let is : Is b (remove c.args.self.now.dues (c.len-place.result - 1)) =
    dropped c.self.inside b c.args.self.now (c.len-place.result - 1) c.last-slot.result c.self.invariant c.self.view_is (omega arith) at
    c.take_out-after.ensures.slots c.take_out-after.ensures.numbers c.take_out-after.result c.take_out-after.ensures.after
    c.unmark.ensures.ripe_one c.unmark.ensures.first_unripe c.unmark.ensures.later refl in
    omega (arith, ap length is.dues, length-remove c.args.self.now.dues (c.len-place.result - 1) (omega arith), c.self.invariant.row.few)
