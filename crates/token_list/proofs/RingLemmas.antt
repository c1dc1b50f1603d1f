-- A ring of slots after one of its calls: the fields before are a's, those after are b's.
use Rattle.std.proofs.Common.{◌≡◌, ℕ, ◌+◌, ◌-◌, ◌<◌, ◌≤◌, suc, [], ◌∷◌, ◌++◌, length, get_or, drop, set, ap, ap₂, sym, ◌∙◌, subst, arith}
use Rattle.std.specs.List.{insert, remove}
use Rattle.std.proofs.lemmas.Bool.Decides.{nat_tests}
use Rattle.std.proofs.lemmas.List.{get_or-set_same, get_or_append_left, get_or_at, length-append, length-set, drop_more, drop-set}
use Rattle.std.proofs.lemmas.List.Edits.{insert-append_left, remove-append_left, length-insert, length-remove}
use Rattle.token_list.specs.declared.slot_ring.SlotRing.TheInside.{Inside}
use Rattle.token_list.specs.Slots.{Row, times, reads, IsLinked, StandsAt, Stands}
use Rattle.token_list.specs.Ring.{order, row, IsRing}
use Rattle.token_list.proofs.TimesLemmas.{times-append}
use Rattle.token_list.proofs.ReadLemmas.{reads-insert, reads-remove, reads-set-absent}
use Rattle.token_list.proofs.LinkLemmas.{walk-is, length-walk, slot-below, slot-before_end, before-below, before-at, next-at, linked-insert, linked-remove}

pub length-order : (a : Inside) → length (order a) ≡ a.used
length-order a = length-walk a.used a.next.value (get_or a.next.value 256 0)

-- the bounds that the calls' indexes need
pub standing-below : (a : Inside) (v : Row) → IsRing a → row a ≡ v → (s : ℕ) → Stands v.slots s → s < 257
standing-below a v r is s at = let h = subst (λ (w : Row). Stands w.slots s) (sym is) at in slot-below r.linked h.0 s h.1

pub before_slot-below : (a : Inside) (v : Row) → IsRing a → row a ≡ v → (s : ℕ) → Stands v.slots s → get_or a.previous.value s 0 < 257
before_slot-below a v r is s at = let h = subst (λ (w : Row). Stands w.slots s) (sym is) at in before-below r.linked h.0 s h.1

pub before_slot-stands : (a : Inside) (v : Row) → IsRing a → row a ≡ v → (p s : ℕ) → StandsAt v.slots (suc p) s → StandsAt v.slots p (get_or a.previous.value s 0)
before_slot-stands a v r is p s at =
    let h = subst (λ (w : Row). StandsAt w.slots (suc p) s) (sym is) at in
    let within : p < length (order a) = omega (arith, h.below, length-append (order a) (256 ∷ [])) in
    let there : StandsAt (order a ++ 256 ∷ []) p (get_or a.previous.value s 0) = record {
      below = omega (arith, h.below);
      is = get_or_append_left (order a) (256 ∷ []) 256 p within ∙ sym (before-at r.linked (suc p) s h);
    } in
    subst (λ (w : Row). StandsAt w.slots p (get_or a.previous.value s 0)) is there

pub after_slot-stands : (a : Inside) (v : Row) → IsRing a → row a ≡ v → (p s : ℕ) → StandsAt v.slots p s → s < 256 → StandsAt v.slots (suc p) (get_or a.next.value s 0)
after_slot-stands a v r is p s at below =
    let h = subst (λ (w : Row). StandsAt w.slots p s) (sym is) at in
    let place = slot-before_end (order a) p s h below in
    let there : StandsAt (order a ++ 256 ∷ []) (suc p) (get_or a.next.value s 0) = record {
      below = omega (arith, length-append (order a) (256 ∷ []));
      is = sym (next-at r.linked p s h place);
    } in
    subst (λ (w : Row). StandsAt w.slots (suc p) (get_or a.next.value s 0)) is there

pub after_slot-below : (a : Inside) (v : Row) → IsRing a → row a ≡ v → (s : ℕ) → Stands v.slots s → s < 256 → get_or a.next.value s 0 < 257
after_slot-below a v r is s at below =
    standing-below a v r is (get_or a.next.value s 0) (suc at.0, after_slot-stands a v r is at.0 s at.1 below)

-- the first slot, or the end
pub first_slot-stands : (a : Inside) (v : Row) → IsRing a → row a ≡ v → StandsAt v.slots 0 (get_or a.next.value 256 0)
first_slot-stands a v r is =
    let read : get_or a.next.value 256 0 ≡ get_or (order a ++ 256 ∷ []) 0 256 = ap (λ l. get_or l 0 256) r.linked.forward in
    let there : StandsAt (order a ++ 256 ∷ []) 0 (get_or a.next.value 256 0) = record { below = omega (arith, length-append (order a) (256 ∷ [])); is = sym read } in
    subst (λ (w : Row). StandsAt w.slots 0 (get_or a.next.value 256 0)) is there

pub end-stands : (a : Inside) (v : Row) → row a ≡ v → (p : ℕ) → p + 1 ≡ length v.slots → StandsAt v.slots p 256
end-stands a v is p h =
    let size = ap (λ (w : Row). length w.slots) is in
    let there : StandsAt (order a ++ 256 ∷ []) p 256 = record {
      below = omega arith;
      is = get_or_at (order a) 256 [] 256 p (omega (arith, length-append (order a) (256 ∷ [])));
    } in
    subst (λ (w : Row). StandsAt w.slots p 256) is there

pub room-below : (a : Inside) (v : Row) → row a ≡ v → length v.slots ≤ 256 → a.used < 256
room-below a v is h =
    let size = ap (λ (w : Row). length w.slots) is in
    omega (arith, length-append (order a) (256 ∷ []), length-order a)

pub free_slot-below : (a : Inside) → IsRing a → a.used < 256 → get_or a.free.value a.used 0 < 256
free_slot-below a r h =
    let k = get_or a.free.value a.used 0 in
    let free = ap (times k) (drop_more a.free.value a.used 0 (omega (arith, r.free_size))) in
    grind (arith, nat_tests, r.linked.once k)

pub record Inserted (a b : Inside) (v : Row) (p k number : ℕ) : Type 0 where
  pub ring : IsRing b
  pub slots : (row b).slots ≡ insert v.slots p k
  pub numbers : (row b).numbers ≡ insert v.numbers p number

-- what `insert_before` writes
pub record Inserts (a b : Inside) (v : Row) (at k before number : ℕ) : Type 0 where
  pub ring : IsRing a
  pub view : row a ≡ v
  pub room : length v.slots ≤ 256
  pub slot : k ≡ get_or a.free.value a.used 0
  pub before_slot : before ≡ get_or a.previous.value at 0
  pub next : b.next.value ≡ set (set a.next.value before k) k at
  pub previous : b.previous.value ≡ set (set a.previous.value k before) at k
  pub numbers : b.numbers.value ≡ set a.numbers.value k number
  pub free : b.free.value ≡ a.free.value
  pub used : b.used ≡ a.used + 1

pub inserted : {a b : Inside} {v : Row} {at k before number : ℕ} → Inserts a b v at k before number → (p : ℕ) → StandsAt v.slots p at → Inserted a b v p k number
inserted {a} {b} {v} {at} {k} {before} {number} i p there =
    let r = i.ring in
    let next_is = i.next in
    let previous_is = i.previous in
    let numbers_is = i.numbers in
    let free_is = i.free in
    let used_is = i.used in
    let k_is = i.slot in
    let before_is = i.before_slot in
    let room : a.used < 256 = room-below a v i.view i.room in
    let here = subst (λ (w : Row). StandsAt w.slots p at) (sym i.view) there in
    let size = length-append (order a) (256 ∷ []) in
    let used_size = length-order a in
    let place : p ≤ length (order a) = omega (arith, here.below) in
    let free : drop a.used a.free.value ≡ k ∷ drop (a.used + 1) a.free.value =
    drop_more a.free.value a.used 0 (omega (arith, r.free_size)) ∙ ap (λ x. x ∷ drop (a.used + 1) a.free.value) (sym k_is) in
    let old : IsLinked a.next.value a.previous.value (order a) (k ∷ drop (a.used + 1) a.free.value) =
    subst (λ f. IsLinked a.next.value a.previous.value (order a) f) free r.linked in
    let new = linked-insert a.next.value a.previous.value (order a) (drop (a.used + 1) a.free.value) k old r.next_size r.previous_size p at here before before_is in
    let forward : reads b.next.value (256 ∷ insert (order a) p k) ≡ insert (order a) p k ++ 256 ∷ [] = ap (λ n. reads n (256 ∷ insert (order a) p k)) next_is ∙ new.forward in
    let order_is : order b ≡ insert (order a) p k =
    walk-is b.next.value 256 (insert (order a) p k) 256 b.used forward (omega (arith, length-insert (order a) p k place)) in
    let row_is : order b ++ 256 ∷ [] ≡ insert (order a ++ 256 ∷ []) p k =
    ap (λ o. o ++ 256 ∷ []) order_is ∙ sym (insert-append_left (order a) (256 ∷ []) p k place) in
    let fresh : times k (order a ++ 256 ∷ []) ≡ 0 = grind (arith, nat_tests, times-append k (order a) (256 ∷ []), old.once k) in
    let below : k < 256 = grind (arith, nat_tests, old.once k) in
    let linked : IsLinked b.next.value b.previous.value (order b) (drop b.used b.free.value) =
    rw (order_is, next_is, previous_is, free_is, used_is) new in
    record {
      ring = record {
        bound = omega arith;
        next_size = ap length next_is ∙ (simp length-set) ∙ r.next_size;
        previous_size = ap length previous_is ∙ (simp length-set) ∙ r.previous_size;
        numbers_size = ap length numbers_is ∙ (simp length-set) ∙ r.numbers_size;
        free_size = ap length free_is ∙ r.free_size;
        linked = linked;
      };
      slots = row_is ∙ ap (λ (w : Row). insert w.slots p k) i.view;
      numbers =
          ap₂ reads numbers_is row_is
          ∙ reads-insert (set a.numbers.value k number) (order a ++ 256 ∷ []) p k
          ∙ ap₂ (λ r x. insert r p x) (reads-set-absent a.numbers.value k number (order a ++ 256 ∷ []) fresh)
          (get_or-set_same a.numbers.value k number 0 (omega (arith, r.numbers_size)))
          ∙ ap (λ (w : Row). insert w.numbers p number) i.view;
    }

pub record Removed (a b : Inside) (v : Row) (p : ℕ) : Type 0 where
  pub ring : IsRing b
  pub slots : (row b).slots ≡ remove v.slots p
  pub numbers : (row b).numbers ≡ remove v.numbers p

-- what `remove` writes
pub record Removes (a b : Inside) (v : Row) (k before after : ℕ) : Type 0 where
  pub ring : IsRing a
  pub view : row a ≡ v
  pub below : k < 256
  pub before_slot : before ≡ get_or a.previous.value k 0
  pub after_slot : after ≡ get_or a.next.value k 0
  pub next : b.next.value ≡ set a.next.value before after
  pub previous : b.previous.value ≡ set a.previous.value after before
  pub numbers : b.numbers.value ≡ a.numbers.value
  pub free : b.free.value ≡ set a.free.value (a.used - 1) k
  pub used : b.used ≡ a.used - 1

pub removed : {a b : Inside} {v : Row} {k before after : ℕ} → Removes a b v k before after → (p : ℕ) → StandsAt v.slots p k → Removed a b v p
removed {a} {b} {v} {k} {before} {after} i p there =
    let r = i.ring in
    let next_is = i.next in
    let previous_is = i.previous in
    let numbers_is = i.numbers in
    let free_is = i.free in
    let used_is = i.used in
    let before_is = i.before_slot in
    let after_is = i.after_slot in
    let below = i.below in
    let here = subst (λ (w : Row). StandsAt w.slots p k) (sym i.view) there in
    let used_size = length-order a in
    let place : p < length (order a) = slot-before_end (order a) p k here below in
    let new = linked-remove a.next.value a.previous.value (order a) (drop a.used a.free.value) r.linked r.next_size r.previous_size p k here below before after before_is after_is in
    let forward : reads b.next.value (256 ∷ remove (order a) p) ≡ remove (order a) p ++ 256 ∷ [] = ap (λ n. reads n (256 ∷ remove (order a) p)) next_is ∙ new.forward in
    let order_is : order b ≡ remove (order a) p =
    walk-is b.next.value 256 (remove (order a) p) 256 b.used forward (omega (arith, length-remove (order a) p place)) in
    let row_is : order b ++ 256 ∷ [] ≡ remove (order a ++ 256 ∷ []) p =
    ap (λ o. o ++ 256 ∷ []) order_is ∙ sym (remove-append_left (order a) (256 ∷ []) p place) in
    let one_more : a.used - 1 + 1 ≡ a.used = omega arith in
    let free : drop (a.used - 1) (set a.free.value (a.used - 1) k) ≡ k ∷ drop a.used a.free.value =
    drop-set a.free.value (a.used - 1) k (omega (arith, r.bound, r.free_size)) ∙ ap (λ n. k ∷ drop n a.free.value) one_more in
    let linked : IsLinked b.next.value b.previous.value (order b) (drop b.used b.free.value) =
    rw (order_is, next_is, previous_is, free_is, used_is, free) new in
    record {
      ring = record {
        bound = omega (arith, r.bound);
        next_size = ap length next_is ∙ (simp length-set) ∙ r.next_size;
        previous_size = ap length previous_is ∙ (simp length-set) ∙ r.previous_size;
        numbers_size = ap length numbers_is ∙ r.numbers_size;
        free_size = ap length free_is ∙ (simp length-set) ∙ r.free_size;
        linked = linked;
      };
      slots = row_is ∙ ap (λ (w : Row). remove w.slots p) i.view;
      numbers = ap₂ reads numbers_is row_is ∙ reads-remove a.numbers.value (order a ++ 256 ∷ []) p ∙ ap (λ (w : Row). remove w.numbers p) i.view;
    }
