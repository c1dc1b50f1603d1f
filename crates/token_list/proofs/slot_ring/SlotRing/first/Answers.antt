use Rattle.std.proofs.Common.{arith}
use Rattle.token_list.proofs.RingLemmas.{first_slot-stands, standing-below}
use Rattle.token_list.proofs.slot_ring.SlotRing.first.Goals as goal

pub returns-clause-bound : goal.returns-clause-bound
returns-clause-bound c =
    rw c.deref.ensures
    (omega (arith, standing-below c.self.inside c.args.self.now c.self.invariant c.self.view_is _ (0, first_slot-stands c.self.inside c.args.self.now c.self.invariant c.self.view_is)))

pub returns-clause-place : goal.returns-clause-place
returns-clause-place c = rw c.deref.ensures (first_slot-stands c.self.inside c.args.self.now c.self.invariant c.self.view_is)
