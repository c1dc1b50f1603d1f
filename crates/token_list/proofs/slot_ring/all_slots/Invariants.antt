use Rattle.std.specs.Prelude.{◌≡◌, ℕ, if◌then◌else◌, nat_lt, take, length}
use Rattle.token_list.specs.Slots.{times}
use Rattle.token_list.proofs.slot_ring.all_slots.Given as goal

abbrev pub invariant-loop-slot : goal.invariant-loop-slot
invariant-loop-slot l = record {
  size : length l.slots ≡ 256;
  once : (v : ℕ) → times v (take l.slot l.slots) ≡ (if nat_lt v l.slot then 1 else 0);
}
