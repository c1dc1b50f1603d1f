use Rattle.std.proofs.Common.{arith, add-one}
use Rattle.token_list.proofs.RingLemmas.{after_slot-stands, after_slot-below}
use Rattle.token_list.proofs.slot_ring.SlotRing.after.Goals as goal

pub returns-clause-bound : goal.returns-clause-bound
returns-clause-bound c = rw c.deref.ensures (omega (arith, after_slot-below c.self.inside c.args.self.now c.self.invariant c.self.view_is c.args.slot c.requires.stands c.requires.slot))

pub returns-clause-place : goal.returns-clause-place
returns-clause-place c =
    rw c.deref.ensures (λ p at. rw add-one (after_slot-stands c.self.inside c.args.self.now c.self.invariant c.self.view_is p c.args.slot at c.requires.slot))
