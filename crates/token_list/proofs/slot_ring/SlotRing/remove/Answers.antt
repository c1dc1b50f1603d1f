use Rattle.std.proofs.Common.{◌-◌, set, get_or, refl}
use Rattle.std.specs.Box.{with_value}
use Rattle.token_list.specs.declared.slot_ring.SlotRing.TheInside.{Inside}
use Rattle.token_list.proofs.RingLemmas.{before_slot-below, after_slot-below, Removes, removed}
use Rattle.token_list.proofs.slot_ring.SlotRing.remove.Goals as goal

pub link-requires-clause-before : goal.link-requires-clause-before
link-requires-clause-before c = rw c.deref.ensures (before_slot-below c.self.inside c.args.self.now c.self.invariant c.self.view_is c.args.slot c.requires.stands)

pub link-requires-clause-slot : goal.link-requires-clause-slot
link-requires-clause-slot c = rw c.deref-2.ensures (after_slot-below c.self.inside c.args.self.now c.self.invariant c.self.view_is c.args.slot c.requires.stands c.requires.bound)

pub invariant_of-self : goal.invariant_of-self
invariant_of-self c =
    let b : Inside = record {
      next = with_value c.self.inside.next c.link.new.next;
      previous = with_value c.self.inside.previous c.link.new.previous;
      numbers = c.self.inside.numbers;
      free = with_value c.self.inside.free (set c.deref_mut-3.result.now (c.self.inside.used - 1) c.args.slot);
      used = c.self.inside.used - 1;
    } in
    let writes : Removes c.self.inside b c.args.self.now c.args.slot (get_or c.deref.result.now c.args.slot 0) (get_or c.deref-2.result.now c.args.slot 0) = record {
      ring = c.self.invariant;
      view = c.self.view_is;
      below = c.requires.bound;
      before_slot = cc;
      after_slot = cc;
      next = cc;
      previous = cc;
      numbers = refl;
      free = cc;
      used = refl;
    } in
    (removed writes c.requires.stands.0 c.requires.stands.1).ring

pub returns-clause-slots : goal.returns-clause-slots
returns-clause-slots c =
    let b : Inside = record {
      next = with_value c.self.inside.next c.link.new.next;
      previous = with_value c.self.inside.previous c.link.new.previous;
      numbers = c.self.inside.numbers;
      free = with_value c.self.inside.free (set c.deref_mut-3.result.now (c.self.inside.used - 1) c.args.slot);
      used = c.self.inside.used - 1;
    } in
    let writes : Removes c.self.inside b c.args.self.now c.args.slot (get_or c.deref.result.now c.args.slot 0) (get_or c.deref-2.result.now c.args.slot 0) = record {
      ring = c.self.invariant;
      view = c.self.view_is;
      below = c.requires.bound;
      before_slot = cc;
      after_slot = cc;
      next = cc;
      previous = cc;
      numbers = refl;
      free = cc;
      used = refl;
    } in
    λ p at. (removed writes p at).slots

pub returns-clause-numbers : goal.returns-clause-numbers
returns-clause-numbers c =
    let b : Inside = record {
      next = with_value c.self.inside.next c.link.new.next;
      previous = with_value c.self.inside.previous c.link.new.previous;
      numbers = c.self.inside.numbers;
      free = with_value c.self.inside.free (set c.deref_mut-3.result.now (c.self.inside.used - 1) c.args.slot);
      used = c.self.inside.used - 1;
    } in
    let writes : Removes c.self.inside b c.args.self.now c.args.slot (get_or c.deref.result.now c.args.slot 0) (get_or c.deref-2.result.now c.args.slot 0) = record {
      ring = c.self.invariant;
      view = c.self.view_is;
      below = c.requires.bound;
      before_slot = cc;
      after_slot = cc;
      next = cc;
      previous = cc;
      numbers = refl;
      free = cc;
      used = refl;
    } in
    λ p at. (removed writes p at).numbers
