use Rattle.std.proofs.Common.{◌∷◌, [], take, ap, ◌∙◌, arith}
use Rattle.std.proofs.lemmas.Bool.Decides.{nat_tests}
use Rattle.std.proofs.lemmas.List.{take_more_set, take_all, length-set}
use Rattle.token_list.specs.Slots.{times}
use Rattle.token_list.proofs.TimesLemmas.{times-append}
use Rattle.token_list.proofs.slot_ring.all_slots.Goals as goal

pub loop-slot-preserved : goal.loop-slot-preserved
loop-slot-preserved c = record {
  size = (simp length-set) ∙ c.loop-slot.invariant.size;
  once = λ v.
      let more = ap (times v) (take_more_set c.loop-slot.slots c.loop-slot.slot c.loop-slot.slot (omega (arith, c.loop-slot.invariant.size, c.loop-slot-test.true))) in
      grind (arith, nat_tests, more, times-append v (take c.loop-slot.slot c.loop-slot.slots) (c.loop-slot.slot ∷ []), c.loop-slot.invariant.once v);
}

pub returns-clause-once : goal.returns-clause-once
returns-clause-once c = λ v.
    let whole = ap (times v) (take_all c.loop-slot.slot c.loop-slot.slots (omega arith)) in
    grind (arith, nat_tests, whole, c.loop-slot.invariant.once v)

pub returns-clause-size : goal.returns-clause-size
returns-clause-size c = c.loop-slot.invariant.size
