-- In every legal history each list of deadlines is rising, and as long as its queue has volatile objects.
use Rattle.std.proofs.Common.{◌≡◌, ℕ, suc, ◌+◌, ◌-◌, ◌<◌, ◌≤◌, List, [], ◌∷◌, length, Option, Some, None, refl, sym, ap, ap₂, ◌∙◌, subst, Bool, true, false, not, ◌&&◌, ◌||◌, filter, count_by, nat_eq, if◌then◌else◌, inl, inr, ◌⊎◌, arith, zero-le}
use Rattle.std.specs.Prelude.{drop, fold}
use Rattle.std.specs.Option.{unwrap_or}
use Rattle.std.specs.List.{list_any}
use Rattle.std.proofs.lemmas.Bool.{false≢true, true≢false}
use Rattle.std.proofs.lemmas.Bool.Decides.{eqb_tells, nat_tests}
use Rattle.kern_ids.specs.declared.entries.Entry.{Entry}
use Rattle.kern_ids.specs.declared.calls.Call.{Call}
use Rattle.kern_ids.specs.declared.calls.Call.TheVariants.{PurgeOne, Forced, Scan}
use Rattle.kern_ids.specs.declared.calls.Queue.{Queue}
use Rattle.kern_ids.specs.declared.calls.Queue.TheVariants.{Obsolete, Lifo, Fifo}
use Rattle.kern_ids.specs.declared.calls.State.{State}
use Rattle.kern_ids.specs.declared.calls.State.TheVariants.{Nonvolatile, Volatile, Empty}
use Rattle.kern_ids.specs.declared.calls.Wish.{Wish}
use Rattle.kern_ids.specs.declared.calls.Wish.TheVariants.{Nonvolatile as ask_nonvolatile, Volatile as ask_volatile, Empty as ask_empty}
use Rattle.kern_ids.specs.declared.replies.Reply.{Reply}
use Rattle.kern_ids.specs.declared.replies.Reply.TheVariants.{Purged, Refused}
use Rattle.kernel_model.specs.System.{System}
use Rattle.kernel_model.specs.Events.{accepted, is_map, is_attach, is_unmap, is_end, is_by, asked, purged_by}
use Rattle.kernel_model.specs.Mapping.{live, maps, mapped, unmaps, tasks_of, next_live, next_said}
use Rattle.kernel_model.proofs.Laws.Mapping.{live-more, maps-more, unmaps-no, unmaps-is}
use Rattle.kernel_model.proofs.Laws.Pages.{entered-more}
use Rattle.kern_ids.specs.declared.replies.Refusal.{Refusal}
use Rattle.kern_ids.specs.StateWord.{decoded}
use Rattle.kernel_model.specs.State.{state, state_asked}
use Rattle.kernel_model.specs.Groups.{volatile, standing, standing_asked, is_volatile_state, same_queue, objects_of}
use Rattle.kernel_model.specs.Pages.{entered, next_entered, is_deactivation, left}
use Rattle.kernel_model.specs.Deadlines.{Deadlines, deadlines, of_queue, with_new, new_deadline, without_first, without_last, after_set, after_ripe, after_unmappings, set_by, begins_ripe, ripe_queue}
use Rattle.kernel_model.specs.Laws.Order.{Has}
use Rattle.kernel_model.specs.Laws.Frames.{bit}
use Rattle.kernel_model.specs.Laws.Kinds.{set_entry, map_entry, attach_entry}
use Rattle.kernel_model.specs.Laws.Legal.{queue_objects, IsWithout, all_deadlines, TakesRipe, is_ripe_call}
use Rattle.kernel_model.proofs.Laws.Agree.{count_by-cons, count_by-agree}
use Rattle.kernel_model.proofs.Laws.Counting.{count_by-once, count_by-both, count_by-range}
use Rattle.kernel_model.proofs.Laws.Kept.{standing-kept, maps-kept, mapped-kept, entered-kept, deadlines-kept}
use Rattle.kernel_model.proofs.Laws.State.{state-kept}
use Rattle.kernel_model.proofs.Laws.Kinds.{deadlines-unmapped, deadlines-set, deadlines-forced, deadlines-purge, deadlines-scan_purge, state-map, state-set, state-purge, standing-set}
use Rattle.kernel_model.specs.Choice.{places_for, forced}
use Rattle.kernel_model.specs.Histories.{IsLegal}
use Rattle.kernel_model.proofs.Laws.Order.{find-has}
use Rattle.kernel_model.proofs.Laws.Queues.{has-range}
use Rattle.kernel_model.proofs.Laws.Bounds.{nat_eq-swap}
use Rattle.kernel_model.proofs.Laws.Purges.{IsRipeChoice, PurgedBy, one, scan_one, force, purged-by, pick-chosen, forced-chosen, chosen-volatile, chosen-queue}
use Rattle.kernel_model.proofs.Laws.Lists.{IsSound, sound-count, sound-less_first, sound-less_last, sound-push, sound-move, ripe_first, without_first-times, move-times, same_queue-is}

cases_bool : (b : Bool) → (b ≡ true) ⊎ (b ≡ false)
cases_bool true = inl refl
cases_bool false = inr refl

nat_is : (a b : ℕ) → nat_eq a b ≡ true → a ≡ b
nat_is a b h = elim (eqb_tells a b) [ inl same ↦ same.1 | inr other ↦ absurd (false≢true (sym other.0 ∙ h)) ]

-- the lists stand well
abbrev pub Stands : System → List Entry → Type 0
Stands boot past = IsSound (deadlines boot past) (queue_objects boot past) (entered past)

-- object o stands in queue q
abbrev in_queue : System → List Entry → Queue → ℕ → Bool
in_queue boot past q o = volatile boot past o && same_queue (standing past o).queue q

-- how many stand in a queue, where one object changes at most
pub objects-once : (boot : System) (e : Entry) (before : List Entry) (x : ℕ) (q : Queue) → x < length boot.objects → ((o : ℕ) → nat_eq x o ≡ false → in_queue boot (e ∷ before) q o ≡ in_queue boot before q o) → queue_objects boot (e ∷ before) q + bit (in_queue boot before q x) ≡ queue_objects boot before q + bit (in_queue boot (e ∷ before) q x)
objects-once boot e before x q l apart = count_by-once (nat_eq x) x (in_queue boot (e ∷ before) q) (in_queue boot before q) (λ o t. sym (nat_is x o t)) apart (objects_of boot) (count_by-range x (length boot.objects) l)

-- a SetState of x, by its state and standing before
set_same : (d : Deadlines) (c k : Queue → ℕ) (n : ℕ) → ((p : Queue) → k p + 0 ≡ c p + 0) → IsSound d c n → IsSound d k n
set_same d c k n h s = sound-count d c k n n (λ p. let e = h p in omega arith) (omega arith) s

new_zero : (before : List Entry) (q : Queue) → q ≡ Obsolete → new_deadline before q ≡ 0
new_zero before q e = ap (new_deadline before) e

new_bound : (before : List Entry) (q : Queue) → new_deadline before q ≤ entered before
new_bound before Obsolete = zero-le
new_bound before Lifo = omega arith
new_bound before Fifo = omega arith

new_above : (before : List Entry) (d : Deadlines) (c : Queue → ℕ) (q : Queue) → IsSound d c (entered before) → (x : ℕ) → Has (of_queue d q) x → x ≤ new_deadline before q
new_above before d c Obsolete s x h = let z = s.zero x h in omega arith
new_above before d c Lifo s x h = s.bound Lifo x h
new_above before d c Fifo s x h = s.bound Fifo x h

set_new : (before : List Entry) (d : Deadlines) (c : Queue → ℕ) (q : Queue) → IsSound d c (entered before) → IsSound (with_new before q d) (λ p. c p + bit (same_queue q p)) (entered before)
set_new before d c q s = sound-push d c (entered before) (new_deadline before q) q (new_bound before q) (new_above before d c q s) (new_zero before q) s

other_queue : (b : Bool) (d m : Deadlines) (c k : Queue → ℕ) (n : ℕ) → (b ≡ true → IsSound d k n) → (b ≡ false → IsSound m k n) → IsSound (if b then d else m) k n
other_queue true d m c k n h g = h refl
other_queue false d m c k n h g = g refl

one_bit : (b : Bool) → bit b + 0 ≤ 1
one_bit true = omega arith
one_bit false = omega arith

bit_apart : (q r p : Queue) → same_queue q r ≡ false → bit (same_queue q p) + bit (same_queue r p) ≤ 1
bit_apart q r p h = elim (cases_bool (same_queue r p)) [
  | inl t ↦ (let f : same_queue q p ≡ false = ap (same_queue q) (sym (same_queue-is r p t)) ∙ h in rw (f, t) (omega arith))
  | inr f ↦ rw f (one_bit (same_queue q p))
]

set_sound : (boot : System) (before : List Entry) (x : ℕ) (s : State) (w : Wish) (d : Deadlines) (c k : Queue → ℕ) → ((p : Queue) → k p + bit (is_volatile_state s && same_queue (standing before x).queue p) ≡ c p + bit (is_volatile_state (state_asked s w) && same_queue (unwrap_or (standing_asked (length before) w) (standing before x)).queue p)) → IsSound d c (entered before) → IsSound (after_set boot before x s w d) k (entered before)
set_sound boot before x Nonvolatile ask_nonvolatile d c k h s = set_same d c k (entered before) h s
set_sound boot before x Nonvolatile ask_empty d c k h s = set_same d c k (entered before) h s
set_sound boot before x Nonvolatile (ask_volatile q g) d c k h s = sound-count (with_new before q d) (λ p. c p + bit (same_queue q p)) k (entered before) (entered before) (λ p. let e = h p in omega arith) (omega arith) (set_new before d c q s)
set_sound boot before x Empty ask_nonvolatile d c k h s = set_same d c k (entered before) h s
set_sound boot before x Empty ask_empty d c k h s = set_same d c k (entered before) h s
set_sound boot before x Empty (ask_volatile q g) d c k h s = set_same d c k (entered before) h s
set_sound boot before x Volatile ask_nonvolatile d c k h s =
    let old = (standing before x).queue in
    sound-count (without_last old d) (λ p. c p - bit (same_queue old p)) k (entered before) (entered before) (λ p. let e = h p in omega arith) (omega arith) (sound-less_last d c (entered before) old s)
set_sound boot before x Volatile ask_empty d c k h s =
    let old = (standing before x).queue in
    sound-count (without_first old d) (λ p. c p - bit (same_queue old p)) k (entered before) (entered before) (λ p. let e = h p in omega arith) (omega arith) (sound-less_first d c (entered before) old s)
set_sound boot before x Volatile (ask_volatile q g) d c k h s =
    let old = (standing before x).queue in
    other_queue (same_queue old q) d (with_new before q (without_last old d)) c k (entered before)
    (λ t. sound-count d c k (entered before) (entered before) (λ p. let e = h p in let o : bit (same_queue old p) ≡ bit (same_queue q p) = ap (λ y. bit (same_queue y p)) (same_queue-is old q t) in omega arith) (omega arith) s)
    (λ f. sound-count (with_new before q (without_last old d)) (λ p. (c p - bit (same_queue old p)) + bit (same_queue q p)) k (entered before) (entered before) (λ p. let e = h p in let b = bit_apart old q p f in omega arith) (omega arith)
    (set_new before (without_last old d) (λ p. c p - bit (same_queue old p)) q (sound-less_last d c (entered before) old s)))

-- the volatile objects that an entry unmaps
fold_sound : (before : List Entry) (os : List ℕ) (d : Deadlines) (c : Queue → ℕ) (n : ℕ) → IsSound d c n → IsSound (fold (λ d' o. without_first (standing before o).queue d') d os) (λ p. c p - count_by (λ o. same_queue (standing before o).queue p) os) n
fold_sound before [] d c n s = sound-count d c (λ p. c p - count_by (λ o. same_queue (standing before o).queue p) []) n n (λ p. omega arith) (omega arith) s
fold_sound before (x ∷ os) d c n s =
    let q = (standing before x).queue in
    sound-count (fold (λ d' o. without_first (standing before o).queue d') (without_first q d) os) (λ p. (c p - bit (same_queue q p)) - count_by (λ o. same_queue (standing before o).queue p) os) (λ p. c p - count_by (λ o. same_queue (standing before o).queue p) (x ∷ os)) n n
    (λ p. let e = count_by-cons (λ o. same_queue (standing before o).queue p) x os in omega (arith, e)) (omega arith)
    (fold_sound before os (without_first q d) (λ p. c p - bit (same_queue q p)) n (sound-less_first d c n q s))

count_by-filter : (u p : ℕ → Bool) (xs : List ℕ) → count_by p (filter u xs) ≡ count_by (λ x. u x && p x) xs
count_by-filter u p [] = refl
count_by-filter u p (x ∷ xs) =
    let c = count_by-cons (λ x. u x && p x) x xs in
    let r = count_by-filter u p xs in
    elim (cases_bool (u x)) [
      | inl t ↦ rw (c, t) (count_by-cons p x (filter u xs) ∙ ap (λ n. bit (p x) + n) r)
      | inr f ↦ rw (c, f) (r ∙ omega arith)
    ]

parts_bit : (v un s : Bool) → bit (v && s) ≡ bit ((v && not un) && s) + bit ((v && un) && s)
parts_bit true true true = omega arith
parts_bit true true false = omega arith
parts_bit true false true = omega arith
parts_bit true false false = omega arith
parts_bit false un s = omega arith

-- an entry that sets no state, purges nothing, maps nothing
unmapping_sound : (boot : System) (e : Entry) (before : List Entry) → (if accepted e then set_by e.call else None) ≡ None → purged_by e.reply ≡ None → ((o : ℕ) → volatile boot (e ∷ before) o ≡ (volatile boot before o && not (unmaps boot before e o))) → ((o : ℕ) → standing (e ∷ before) o ≡ standing before o) → entered before ≤ entered (e ∷ before) → Stands boot before → Stands boot (e ∷ before)
unmapping_sound boot e before s p v t n k =
    let us = λ (o : ℕ). volatile boot before o && unmaps boot before e o in
    let d = deadlines boot before in
    subst (λ y. IsSound y (queue_objects boot (e ∷ before)) (entered (e ∷ before))) (sym (deadlines-unmapped boot e before s p))
    (sound-count (after_unmappings boot before e d) (λ q. queue_objects boot before q - count_by (λ o. same_queue (standing before o).queue q) (filter us (objects_of boot))) (queue_objects boot (e ∷ before)) (entered before) (entered (e ∷ before))
    (λ q.
    let f = count_by-filter us (λ o. same_queue (standing before o).queue q) (objects_of boot) in
    let b = count_by-both (in_queue boot before q) (λ o. (volatile boot before o && not (unmaps boot before e o)) && same_queue (standing before o).queue q) (λ o. us o && same_queue (standing before o).queue q) (λ o. parts_bit (volatile boot before o) (unmaps boot before e o) (same_queue (standing before o).queue q)) (objects_of boot) in
    let a = count_by-agree (in_queue boot (e ∷ before) q) (λ o. (volatile boot before o && not (unmaps boot before e o)) && same_queue (standing before o).queue q) (λ o. ap₂ (λ x y. x && same_queue y.queue q) (v o) (t o)) (objects_of boot) in
    omega (arith, f, b, a))
    n (fold_sound before (filter us (objects_of boot)) d (queue_objects boot before) (entered before) k))

or_true : (b : Bool) → (b || true) ≡ true
or_true true = refl
or_true false = refl

-- an entry that maps nothing leaves unmapped what is unmapped
keeps_unmapped : (m by u n l w : Bool) → m ≡ false → ((not n && l) && unwrap_or (if m && by then Some true else if u then Some false else None) w) ≡ true → w ≡ true
keeps_unmapped true by u n l w m h = absurd (true≢false m)
keeps_unmapped false by true true l w m h = absurd (false≢true h)
keeps_unmapped false by true false true w m h = absurd (false≢true h)
keeps_unmapped false by true false false w m h = absurd (false≢true h)
keeps_unmapped false by false true l w m h = absurd (false≢true h)
keeps_unmapped false by false false true w m h = h
keeps_unmapped false by false false false w m h = absurd (false≢true h)

maps_before : (boot : System) (e : Entry) (before : List Entry) (o t : ℕ) → is_map o e ≡ false → is_attach o e ≡ false → maps boot (e ∷ before) o t ≡ true → maps boot before o t ≡ true
unfolding next_live next_said
maps_before boot e before o t m a h =
    keeps_unmapped (is_map o e || is_attach o e) (is_by boot t e) (is_unmap o e && is_by boot t e) (is_end boot t e) (live boot before t) (maps boot before o t) (rw (m, a) refl)
    (sym (maps-more boot e before o t ∙ ap (λ l. l && next_said boot o t (maps boot before o t) e) (live-more boot e before t)) ∙ h)

any_more : (p q : ℕ → Bool) (ts : List ℕ) → ((t : ℕ) → p t ≡ true → q t ≡ true) → list_any p ts ≡ true → list_any q ts ≡ true
any_more p q [] k h = h
any_more p q (t ∷ ts) k h = elim (cases_bool (p t)) [
  | inl holds ↦ rw (k t holds) refl
  | inr fails ↦ (let r : list_any p ts ≡ true = rw fails at h in rw (any_more p q ts k r) (or_true (q t)))
]

pub mapped_before : (boot : System) (e : Entry) (before : List Entry) (o : ℕ) → is_map o e ≡ false → is_attach o e ≡ false → mapped boot (e ∷ before) o ≡ true → mapped boot before o ≡ true
unfolding mapped
mapped_before boot e before o m a h = any_more (maps boot (e ∷ before) o) (maps boot before o) (tasks_of boot) (λ t. maps_before boot e before o t m a) h

volatile_rest : (m n v : Bool) → (n ≡ true → m ≡ true) → (n && v) ≡ ((m && v) && not (m && not n))
volatile_rest true true true h = refl
volatile_rest true true false h = refl
volatile_rest true false true h = refl
volatile_rest true false false h = refl
volatile_rest false true v h = absurd (false≢true (h refl))
volatile_rest false false v h = refl

entered_le : (b : Bool) (n : ℕ) → n ≤ (if b then n + 1 else n)
entered_le true n = omega arith
entered_le false n = omega arith

pub entered-rises : (e : Entry) (before : List Entry) → entered before ≤ entered (e ∷ before)
unfolding next_entered
entered-rises e before = rw (entered-more e before) (entered_le (is_deactivation e.reply) (entered before))

-- an entry that says nothing of states, mappings begun and purges
pub record IsPlain (e : Entry) : Type 0 where
  pub map : (o : ℕ) → is_map o e ≡ false
  pub attach : (o : ℕ) → is_attach o e ≡ false
  pub asks : (o : ℕ) → asked o e ≡ None
  pub set : (if accepted e then set_by e.call else None) ≡ None
  pub purge : purged_by e.reply ≡ None

pub plain_sound : (boot : System) (e : Entry) (before : List Entry) → IsPlain e → Stands boot before → Stands boot (e ∷ before)
unfolding volatile unmaps
plain_sound boot e before p k =
    unmapping_sound boot e before p.set p.purge
    (λ o. rw (state-kept e before o (p.map o) (rw p.purge refl) (p.asks o)) (volatile_rest (mapped boot before o) (mapped boot (e ∷ before) o) (is_volatile_state (state before o)) (mapped_before boot e before o (p.map o) (p.attach o))))
    (λ o. standing-kept e before o (rw (p.asks o) refl))
    (entered-rises e before) k

-- any refused call, and any call but Map, Attach, SetState and those that purge
abbrev pub at_call : ℕ → Call → Reply → Entry
at_call who call reply = record { who = who; call = call; reply = reply }

pub and_false : (b : Bool) → (b && false) ≡ false
and_false true = refl
and_false false = refl

abbrev no_wish : Option Wish
no_wish = None

pub wish_none : (b : Bool) → (if b then no_wish else no_wish) ≡ None
wish_none true = refl
wish_none false = refl

abbrev no_set : Option (ℕ × Wish)
no_set = None

pub set_none : (b : Bool) → (if b then no_set else no_set) ≡ None
set_none true = refl
set_none false = refl

pub refused_plain : (who : ℕ) (call : Call) (reply : Reply) (why : Refusal) → reply ≡ Refused why → IsPlain (at_call who call reply)
refused_plain who call reply why h = record {
  map = λ o. rw h refl;
  attach = λ o. rw h refl;
  asks = λ o. rw h refl;
  set = rw h refl;
  purge = rw h refl;
}

-- nothing of what is volatile changes
same_sound : (boot : System) (e : Entry) (before : List Entry) → deadlines boot (e ∷ before) ≡ deadlines boot before → ((o : ℕ) → volatile boot (e ∷ before) o ≡ volatile boot before o) → ((o : ℕ) → standing (e ∷ before) o ≡ standing before o) → Stands boot before → Stands boot (e ∷ before)
same_sound boot e before d v t k =
    subst (λ y. IsSound y (queue_objects boot (e ∷ before)) (entered (e ∷ before))) (sym d)
    (sound-count (deadlines boot before) (queue_objects boot before) (queue_objects boot (e ∷ before)) (entered before) (entered (e ∷ before))
    (λ q. sym (count_by-agree (in_queue boot (e ∷ before) q) (in_queue boot before q) (λ o. ap₂ (λ x y. x && same_queue y.queue q) (v o) (t o)) (objects_of boot))) (entered-rises e before) k)

pub map_sound : (boot : System) (before : List Entry) (who x : ℕ) → mapped boot before x ≡ false → Stands boot before → Stands boot (map_entry who x ∷ before)
unfolding volatile
map_sound boot before who x m k =
    let e = map_entry who x in
    same_sound boot e before (deadlines-kept boot e before refl refl (λ o. unmaps-no boot e before o (λ t. refl) refl))
    (λ o. elim (eqb_tells x o) [
      | inl same ↦ (
          let s : state (e ∷ before) o ≡ Nonvolatile = state-map who x before o ∙ rw same.0 refl in
          let n : mapped boot before o ≡ false = ap (mapped boot before) (sym same.1) ∙ m in
          rw (s, n) (and_false (mapped boot (e ∷ before) o)))
      | inr other ↦ (
          let s : state (e ∷ before) o ≡ state before o = state-map who x before o ∙ rw other.0 refl in
          rw (s, mapped-kept boot e before o (λ t. maps-kept boot e before o t refl (rw other.0 refl))) refl)
    ])
    (λ o. standing-kept e before o refl) k

attached_mapped : (m n : Bool) → m ≡ true → (m && not n) ≡ false → n ≡ m
attached_mapped true true h k = refl
attached_mapped true false h k = absurd (true≢false k)
attached_mapped false n h k = absurd (false≢true h)

pub attach_sound : (boot : System) (before : List Entry) (who x : ℕ) → mapped boot before x ≡ true → Stands boot before → Stands boot (attach_entry who x ∷ before)
unfolding volatile
attach_sound boot before who x m k =
    let e = attach_entry who x in
    let u : (o : ℕ) → unmaps boot before e o ≡ false = λ o. unmaps-no boot e before o (λ t. refl) refl in
    same_sound boot e before (deadlines-kept boot e before refl refl u)
    (λ o. elim (eqb_tells x o) [
      | inl same ↦ (
          let n : mapped boot before o ≡ true = ap (mapped boot before) (sym same.1) ∙ m in
          rw (state-kept e before o refl refl refl, attached_mapped (mapped boot before o) (mapped boot (e ∷ before) o) n (sym (unmaps-is boot e before o) ∙ u o)) refl)
      | inr other ↦ rw (state-kept e before o refl refl refl, mapped-kept boot e before o (λ t. maps-kept boot e before o t refl (rw other.0 refl))) refl
    ])
    (λ o. standing-kept e before o refl) k

-- an accepted SetState of a mapped, declared object
set_in : (boot : System) (past : List Entry) (x : ℕ) (q : Queue) → mapped boot past x ≡ true → in_queue boot past q x ≡ (is_volatile_state (state past x) && same_queue (standing past x).queue q)
unfolding volatile
set_in boot past x q m = rw m refl

pub setting_sound : (boot : System) (before : List Entry) (who x word : ℕ) (old : State) (w : Wish) → decoded word ≡ Some w → x < length boot.objects → mapped boot before x ≡ true → Stands boot before → Stands boot (set_entry who x word old ∷ before)
unfolding volatile
setting_sound boot before who x word old w d l m k =
    let e = set_entry who x word old in
    let n : (o : ℕ) → mapped boot (e ∷ before) o ≡ mapped boot before o = λ o. mapped-kept boot e before o (λ t. maps-kept boot e before o t refl refl) in
    let t : nat_eq x x ≡ true = grind (arith, nat_tests) in
    let s : state (e ∷ before) x ≡ state_asked (state before x) w = state-set who x word old w before x d ∙ rw t refl in
    let g : standing (e ∷ before) x ≡ unwrap_or (standing_asked (length before) w) (standing before x) = standing-set who x word old w before x d ∙ rw t refl in
    let apart : (q : Queue) (o : ℕ) → nat_eq x o ≡ false → in_queue boot (e ∷ before) q o ≡ in_queue boot before q o = λ q o f.
    (let so : state (e ∷ before) o ≡ state before o = state-set who x word old w before o d ∙ rw f refl in
    let go : standing (e ∷ before) o ≡ standing before o = standing-set who x word old w before o d ∙ rw f refl in
    rw (so, go, n o) refl) in
    let c : (q : Queue) → queue_objects boot (e ∷ before) q + bit (is_volatile_state (state before x) && same_queue (standing before x).queue q) ≡ queue_objects boot before q + bit (is_volatile_state (state_asked (state before x) w) && same_queue (unwrap_or (standing_asked (length before) w) (standing before x)).queue q) = λ q.
    (let o = objects-once boot e before x q l (apart q) in
    let a : in_queue boot before q x ≡ (is_volatile_state (state before x) && same_queue (standing before x).queue q) = set_in boot before x q m in
    let b : in_queue boot (e ∷ before) q x ≡ (is_volatile_state (state_asked (state before x) w) && same_queue (unwrap_or (standing_asked (length before) w) (standing before x)).queue q) = set_in boot (e ∷ before) x q (n x ∙ m) ∙ ap₂ (λ y z. is_volatile_state y && same_queue z.queue q) s g in
    rw (a, b) at o) in
    let r : entered (e ∷ before) ≡ entered before = entered-kept e before refl in
    subst (λ y. IsSound y (queue_objects boot (e ∷ before)) (entered (e ∷ before))) (sym (deadlines-set boot who x word old w before d))
    (subst (λ y. IsSound (after_set boot before x (state before x) w (deadlines boot before)) (queue_objects boot (e ∷ before)) y) (sym r)
    (set_sound boot before x (state before x) w (deadlines boot before) (queue_objects boot before) (queue_objects boot (e ∷ before)) c k))

same_itself : (q : Queue) → bit (same_queue q q) ≡ 1
same_itself Obsolete = refl
same_itself Lifo = refl
same_itself Fifo = refl

-- the purge of a volatile object takes it out of its queue
purged_count : (boot : System) (e : Entry) (before : List Entry) (o : ℕ) → o < length boot.objects → volatile boot before o ≡ true → ((x : ℕ) → is_map x e ≡ false) → ((x : ℕ) → asked x e ≡ None) → purged_by e.reply ≡ Some o → ((x : ℕ) → mapped boot (e ∷ before) x ≡ mapped boot before x) → (q : Queue) → queue_objects boot (e ∷ before) q + bit (same_queue (standing before o).queue q) ≡ queue_objects boot before q
unfolding volatile
purged_count boot e before o l v m a p n q =
    let t : nat_eq o o ≡ true = grind (arith, nat_tests) in
    let gone : state (e ∷ before) o ≡ Empty = state-purge e o before o (m o) p (a o) ∙ rw t refl in
    let apart : (x : ℕ) → nat_eq o x ≡ false → in_queue boot (e ∷ before) q x ≡ in_queue boot before q x = λ x f.
    (let s : state (e ∷ before) x ≡ state before x = state-purge e o before x (m x) p (a x) ∙ rw (nat_eq-swap x o, f) refl in
    rw (s, n x, standing-kept e before x (rw (a x) refl)) refl) in
    let c = objects-once boot e before o q l apart in
    let was : in_queue boot before q o ≡ same_queue (standing before o).queue q = rw v refl in
    let now : in_queue boot (e ∷ before) q o ≡ false = rw gone (ap (λ b. b && same_queue (standing (e ∷ before) o).queue q) (and_false (mapped boot (e ∷ before) o))) in
    let d = rw (was, now) at c in
    omega arith

ripe_sound : (d : Deadlines) (c : Queue → ℕ) (m n : ℕ) (r q : Queue) → begins_ripe n (of_queue d r) ≡ true → (r ≡ Obsolete → q ≡ Obsolete) → 1 ≤ c q → IsSound d c m → IsSound (after_ripe n r q d) (λ p. c p - bit (same_queue q p)) m
ripe_sound d c m n r q b o l s = elim (cases_bool (same_queue q r)) [
  | inl t ↦ rw t (subst (λ y. IsSound (without_first y d) (λ p. c p - bit (same_queue q p)) m) (same_queue-is q r t) (sound-less_first d c m q s))
  | inr f ↦ rw f (elim (cases_bool (begins_ripe n (of_queue d q))) [
    | inl t ↦ rw t (sound-less_first d c m q s)
    | inr g ↦ rw g (
        let first = ripe_first n (of_queue d r) b in
        let long : length (of_queue d r) ≡ suc (length (drop 1 (of_queue d r))) = ap length first.2 in
        let k = s.count r in
        sound-move d c m r q f (λ e. absurd (false≢true (sym f ∙ ap₂ same_queue (o e) e))) l (omega arith) s)
  ])
]

-- and takes exactly one deadline, a ripe one
ripe_taken : (d : Deadlines) (n : ℕ) (r q : Queue) → begins_ripe n (of_queue d r) ≡ true → (x : ℕ) × (x ≤ n) × IsWithout (all_deadlines d) x (all_deadlines (after_ripe n r q d))
ripe_taken d n r q b =
    let first = ripe_first n (of_queue d r) b in
    elim (cases_bool (same_queue q r)) [
      | inl t ↦ rw t (first.0, first.1, without_first-times d r first.0 first.2)
      | inr f ↦ rw f (elim (cases_bool (begins_ripe n (of_queue d q))) [
        | inl t ↦ rw t (let own = ripe_first n (of_queue d q) t in (own.0, own.1, without_first-times d q own.0 own.2))
        | inr g ↦ rw g (first.0, first.1, move-times d r q first.0 f first.2)
      ])
    ]

ripe-begins : (boot : System) (past : List Entry) (r : Queue) → ripe_queue boot past ≡ Some r → begins_ripe (left boot past) (of_queue (deadlines boot past) r) ≡ true
ripe-begins boot past r h = (find-has (λ q. begins_ripe (left boot past) (of_queue (deadlines boot past) q)) (Obsolete ∷ Lifo ∷ Fifo ∷ []) r h).1

-- an obsolete queue's choice is an obsolete object
among_obsolete : (r q : Queue) (g : ℕ) → Has (places_for r) (q, g) → r ≡ Obsolete → q ≡ Obsolete
among_obsolete Obsolete q g (inl e) h = sym (ap (λ p. p.0) e)
among_obsolete Obsolete q g (inr e) h = absurd e
among_obsolete Lifo q g m h = absurd (cc)
among_obsolete Fifo q g m h = absurd (cc)

module _ (boot : System) (before : List Entry) (who o : ℕ) (k : Stands boot before) where
  ripe_purge_sound : (e : Entry) → IsRipeChoice boot before o → ((r : Queue) → ripe_queue boot before ≡ Some r → deadlines boot (e ∷ before) ≡ after_ripe (left boot before) r (standing before o).queue (deadlines boot before)) → ((x : ℕ) → is_map x e ≡ false) → ((x : ℕ) → asked x e ≡ None) → purged_by e.reply ≡ Some o → ((x : ℕ) → mapped boot (e ∷ before) x ≡ mapped boot before x) → entered (e ∷ before) ≡ entered before → Stands boot (e ∷ before)
  ripe_purge_sound e c d m a p n r =
      let l = has-range 0 (length boot.objects) o c.chosen.declared in
      let below : o < length boot.objects = omega arith in
      let q = (standing before o).queue in
      let count = purged_count boot e before o below (chosen-volatile boot before c.queue c.group o c.chosen) m a p n in
      let obsolete : c.ripe ≡ Obsolete → q ≡ Obsolete = λ h. chosen-queue boot before c.queue c.group o c.chosen ∙ among_obsolete c.ripe c.queue c.group c.among h in
      let itself : bit (same_queue q q) ≡ 1 = same_itself q in
      let some : 1 ≤ queue_objects boot before q = let e = count q in omega arith in
      rw (d c.ripe c.is_ripe, r)
      (sound-count (after_ripe (left boot before) c.ripe q (deadlines boot before)) (λ p. queue_objects boot before p - bit (same_queue q p)) (queue_objects boot (e ∷ before)) (entered before) (entered before)
      (λ p. let e = count p in omega arith) (omega arith)
      (ripe_sound (deadlines boot before) (queue_objects boot before) (entered before) (left boot before) c.ripe q (ripe-begins boot before c.ripe c.is_ripe) obsolete some k))

  forced_purge_sound : forced boot before ≡ Some o → Stands boot (at_call who Forced (Purged o) ∷ before)
  forced_purge_sound h =
      let e : Entry = at_call who Forced (Purged o) in
      let c = forced-chosen boot before o h in
      let l = has-range 0 (length boot.objects) o c.2.declared in
      let below : o < length boot.objects = omega arith in
      let q = (standing before o).queue in
      let n : (x : ℕ) → mapped boot (e ∷ before) x ≡ mapped boot before x = λ x. mapped-kept boot e before x (λ t. maps-kept boot e before x t refl refl) in
      let count = purged_count boot e before o below (chosen-volatile boot before c.0 c.1 o c.2) (λ x. refl) (λ x. refl) refl n in
      let r : entered (e ∷ before) ≡ entered before = entered-kept e before refl in
      rw (deadlines-forced boot who o before, r)
      (sound-count (without_first q (deadlines boot before)) (λ p. queue_objects boot before p - bit (same_queue q p)) (queue_objects boot (e ∷ before)) (entered before) (entered before)
      (λ p. let e = count p in omega arith) (omega arith)
      (sound-less_first (deadlines boot before) (queue_objects boot before) (entered before) q k))

  pub purge_sound : (call : Call) → PurgedBy boot before o call → Stands boot (at_call who call (Purged o) ∷ before)
  purge_sound call (one h) =
      let e : Entry = at_call who PurgeOne (Purged o) in
      ripe_purge_sound e (pick-chosen boot before o h) (λ r g. deadlines-purge boot who o r before g) (λ x. refl) (λ x. refl) refl (λ x. mapped-kept boot e before x (λ t. maps-kept boot e before x t refl refl)) (entered-kept e before refl)
  purge_sound call (scan_one h) =
      let e : Entry = at_call who Scan (Purged o) in
      ripe_purge_sound e (pick-chosen boot before o h) (λ r g. deadlines-scan_purge boot who o r before g) (λ x. refl) (λ x. refl) refl (λ x. mapped-kept boot e before x (λ t. maps-kept boot e before x t refl refl)) (entered-kept e before refl)
  purge_sound call (force h) = forced_purge_sound h

taken_by : (boot : System) (before : List Entry) (who o : ℕ) (call : Call) → PurgedBy boot before o call → is_ripe_call call ≡ true → TakesRipe boot (at_call who call (Purged o)) before
taken_by boot before who o call (one h) i =
    let c = pick-chosen boot before o h in
    let t = ripe_taken (deadlines boot before) (left boot before) c.ripe (standing before o).queue (ripe-begins boot before c.ripe c.is_ripe) in
    record { deadline = t.0; ripe = t.1; taken = rw (deadlines-purge boot who o c.ripe before c.is_ripe) t.2 }
taken_by boot before who o call (scan_one h) i =
    let c = pick-chosen boot before o h in
    let t = ripe_taken (deadlines boot before) (left boot before) c.ripe (standing before o).queue (ripe-begins boot before c.ripe c.is_ripe) in
    record { deadline = t.0; ripe = t.1; taken = rw (deadlines-scan_purge boot who o c.ripe before c.is_ripe) t.2 }
taken_by boot before who o call (force h) i = absurd (false≢true i)

-- a PurgeOne or Scan that purges takes one ripe deadline
pub purge-takes : (boot : System) (e : Entry) (before : List Entry) (o : ℕ) → IsLegal boot (e ∷ before) → e.reply ≡ Purged o → is_ripe_call e.call ≡ true → TakesRipe boot e before
purge-takes boot e before o l h i = subst (λ r. TakesRipe boot (record { who = e.who; call = e.call; reply = r }) before) (sym h) (taken_by boot before e.who o e.call (purged-by boot before e.who e.call o (sym h ∙ l.1)) i)
