use Rattle.std.proofs.Common.{suc, length, arith}
use Rattle.token_list.specs.Slots.{StandsAt}
use Rattle.token_list.proofs.RingLemmas.{end-stands, before_slot-stands, before_slot-below}
use Rattle.std.proofs.Common.{◌-◌}
use Rattle.token_list.proofs.slot_ring.SlotRing.last.Goals as goal

pub returns-clause-bound : goal.returns-clause-bound
returns-clause-bound c =
    let end : StandsAt c.args.self.now.slots (length c.args.self.now.slots - 1) 256 = end-stands c.self.inside c.args.self.now c.self.view_is _ (omega (arith, c.requires)) in
    rw c.deref.ensures (omega (arith, before_slot-below c.self.inside c.args.self.now c.self.invariant c.self.view_is 256 (length c.args.self.now.slots - 1, end)))

pub returns-clause-place : goal.returns-clause-place
returns-clause-place c =
    rw c.deref.ensures
    (λ p last. before_slot-stands c.self.inside c.args.self.now c.self.invariant c.self.view_is p 256 (end-stands c.self.inside c.args.self.now c.self.view_is (suc p) (omega arith)))
