use Rattle.std.proofs.Common.{arith, add-one}
use Rattle.token_list.proofs.RingLemmas.{before_slot-stands, before_slot-below}
use Rattle.token_list.proofs.slot_ring.SlotRing.before.Goals as goal

pub returns-clause-bound : goal.returns-clause-bound
returns-clause-bound c = rw c.deref.ensures (omega (arith, before_slot-below c.self.inside c.args.self.now c.self.invariant c.self.view_is c.args.slot c.requires.stands))

pub returns-clause-place : goal.returns-clause-place
returns-clause-place c =
    rw c.deref.ensures (λ p at. before_slot-stands c.self.inside c.args.self.now c.self.invariant c.self.view_is p c.args.slot (rw add-one at at))
