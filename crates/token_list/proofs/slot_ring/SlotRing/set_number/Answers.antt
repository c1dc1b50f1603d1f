use Rattle.std.proofs.Common.{◌<◌, ◌∷◌, ◌++◌, [], arith, rules}
use Rattle.token_list.specs.Ring.{order}
use Rattle.token_list.proofs.ReadLemmas.{reads-set}
use Rattle.token_list.proofs.LinkLemmas.{times-row}
use Rattle.token_list.proofs.RingLemmas.{standing-below}
use Rattle.token_list.proofs.slot_ring.SlotRing.set_number.Goals as goal

pub offset_bounds-deref_mut-slot : goal.offset_bounds-deref_mut-slot
offset_bounds-deref_mut-slot c =
    let below : c.args.slot < 257 = standing-below c.self.inside c.args.self.now c.self.invariant c.self.view_is c.args.slot c.requires in
    search (rules, below)

pub bounds-deref_mut-slot : goal.bounds-deref_mut-slot
bounds-deref_mut-slot c = standing-below c.self.inside c.args.self.now c.self.invariant c.self.view_is c.args.slot c.requires

pub returns-clause-numbers : goal.returns-clause-numbers
returns-clause-numbers c =
    let below : c.args.slot < 257 = standing-below c.self.inside c.args.self.now c.self.invariant c.self.view_is c.args.slot c.requires in
    rw (← c.self.view_is, c.deref_mut.ensures.value)
    (λ p at. reads-set c.self.inside.numbers.value c.args.slot c.args.number (order c.self.inside ++ 256 ∷ []) p 256 (omega (arith, c.self.invariant.numbers_size)) at.below at.is (times-row c.self.invariant.linked c.args.slot))
