use Rattle.std.proofs.Common.{◌+◌, ◌<◌, set, get_or, refl, arith, rules}
use Rattle.std.specs.Box.{with_value}
use Rattle.token_list.specs.declared.slot_ring.SlotRing.TheInside.{Inside}
use Rattle.token_list.proofs.RingLemmas.{standing-below, before_slot-below, free_slot-below, room-below, Inserts, inserted}
use Rattle.token_list.proofs.slot_ring.SlotRing.insert_before.Goals as goal

pub bounds-deref-self-inside : goal.bounds-deref-self-inside
bounds-deref-self-inside c = room-below c.self.inside c.args.self.now c.self.view_is c.requires.room

pub offset_bounds-deref-at : goal.offset_bounds-deref-at
offset_bounds-deref-at c =
    let below : c.args.at < 257 = standing-below c.self.inside c.args.self.now c.self.invariant c.self.view_is c.args.at c.requires.stands in
    search (rules, below)

pub bounds-deref-at : goal.bounds-deref-at
bounds-deref-at c = standing-below c.self.inside c.args.self.now c.self.invariant c.self.view_is c.args.at c.requires.stands

pub link-requires-clause-before : goal.link-requires-clause-before
link-requires-clause-before c = rw c.deref-2.ensures (before_slot-below c.self.inside c.args.self.now c.self.invariant c.self.view_is c.args.at c.requires.stands)

pub link-requires-clause-slot : goal.link-requires-clause-slot
link-requires-clause-slot c =
    let room : c.self.inside.used < 256 = room-below c.self.inside c.args.self.now c.self.view_is c.requires.room in
    rw c.deref.ensures (omega (arith, free_slot-below c.self.inside c.self.invariant room))

pub link-requires-2-clause-before : goal.link-requires-2-clause-before
link-requires-2-clause-before c =
    let room : c.self.inside.used < 256 = room-below c.self.inside c.args.self.now c.self.view_is c.requires.room in
    rw c.deref.ensures (omega (arith, free_slot-below c.self.inside c.self.invariant room))

pub link-requires-2-clause-slot : goal.link-requires-2-clause-slot
link-requires-2-clause-slot c = standing-below c.self.inside c.args.self.now c.self.invariant c.self.view_is c.args.at c.requires.stands

pub offset_bounds-deref_mut-slot : goal.offset_bounds-deref_mut-slot
offset_bounds-deref_mut-slot c =
    let room : c.self.inside.used < 256 = room-below c.self.inside c.args.self.now c.self.view_is c.requires.room in
    let below : get_or c.deref.result.now c.self.inside.used 0 < 256 = rw c.deref.ensures (free_slot-below c.self.inside c.self.invariant room) in
    search (rules, below)

pub bounds-deref_mut-slot : goal.bounds-deref_mut-slot
bounds-deref_mut-slot c =
    let room : c.self.inside.used < 256 = room-below c.self.inside c.args.self.now c.self.view_is c.requires.room in
    rw c.deref.ensures (omega (arith, free_slot-below c.self.inside c.self.invariant room))

pub invariant_of-self : goal.invariant_of-self
invariant_of-self c =
    let b : Inside = record {
      next = with_value c.self.inside.next c.link-2.new.next;
      previous = with_value c.self.inside.previous c.link-2.new.previous;
      numbers = with_value c.self.inside.numbers (set c.deref_mut-5.result.now (get_or c.deref.result.now c.self.inside.used 0) c.args.number);
      free = c.self.inside.free;
      used = c.self.inside.used + 1;
    } in
    let writes : Inserts c.self.inside b c.args.self.now c.args.at (get_or c.deref.result.now c.self.inside.used 0) (get_or c.deref-2.result.now c.args.at 0) c.args.number = record {
      ring = c.self.invariant;
      view = c.self.view_is;
      room = c.requires.room;
      slot = cc;
      before_slot = cc;
      next = cc;
      previous = cc;
      numbers = cc;
      free = refl;
      used = refl;
    } in
    (inserted writes c.requires.stands.0 c.requires.stands.1).ring

pub returns-clause-slot : goal.returns-clause-slot
returns-clause-slot c =
    let room : c.self.inside.used < 256 = room-below c.self.inside c.args.self.now c.self.view_is c.requires.room in
    rw c.deref.ensures (free_slot-below c.self.inside c.self.invariant room)

pub returns-clause-slots : goal.returns-clause-slots
returns-clause-slots c =
    let b : Inside = record {
      next = with_value c.self.inside.next c.link-2.new.next;
      previous = with_value c.self.inside.previous c.link-2.new.previous;
      numbers = with_value c.self.inside.numbers (set c.deref_mut-5.result.now (get_or c.deref.result.now c.self.inside.used 0) c.args.number);
      free = c.self.inside.free;
      used = c.self.inside.used + 1;
    } in
    let writes : Inserts c.self.inside b c.args.self.now c.args.at (get_or c.deref.result.now c.self.inside.used 0) (get_or c.deref-2.result.now c.args.at 0) c.args.number = record {
      ring = c.self.invariant;
      view = c.self.view_is;
      room = c.requires.room;
      slot = cc;
      before_slot = cc;
      next = cc;
      previous = cc;
      numbers = cc;
      free = refl;
      used = refl;
    } in
    λ p at. (inserted writes p at).slots

pub returns-clause-numbers : goal.returns-clause-numbers
returns-clause-numbers c =
    let b : Inside = record {
      next = with_value c.self.inside.next c.link-2.new.next;
      previous = with_value c.self.inside.previous c.link-2.new.previous;
      numbers = with_value c.self.inside.numbers (set c.deref_mut-5.result.now (get_or c.deref.result.now c.self.inside.used 0) c.args.number);
      free = c.self.inside.free;
      used = c.self.inside.used + 1;
    } in
    let writes : Inserts c.self.inside b c.args.self.now c.args.at (get_or c.deref.result.now c.self.inside.used 0) (get_or c.deref-2.result.now c.args.at 0) c.args.number = record {
      ring = c.self.invariant;
      view = c.self.view_is;
      room = c.requires.room;
      slot = cc;
      before_slot = cc;
      next = cc;
      previous = cc;
      numbers = cc;
      free = refl;
      used = refl;
    } in
    λ p at. (inserted writes p at).numbers
