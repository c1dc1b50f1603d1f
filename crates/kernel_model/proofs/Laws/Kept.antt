-- An entry that says nothing of a thing leaves it, and an entry that says nothing at all leaves everything.
use Rattle.std.proofs.Common.{◌≡◌, ℕ, ◌+◌, ◌-◌, List, [], ◌∷◌, length, Option, Some, None, refl, sym, ap, ap₂, ◌∙◌, Bool, true, false, not, ◌&&◌, ◌||◌, cond, find, filter, count_by, if◌then◌else◌, nat_lt}
use Rattle.std.specs.Option.{unwrap_or}
use Rattle.std.specs.Prelude.{option_map, fold}
use Rattle.kern_ids.specs.declared.entries.Entry.{Entry}
use Rattle.kern_ids.specs.declared.ids.PageId.{PageId}
use Rattle.kern_ids.specs.declared.calls.Queue.{Queue}
use Rattle.kern_ids.specs.declared.calls.State.{State}
use Rattle.kernel_model.specs.declared.place.Place.{Place}
use Rattle.kernel_model.specs.System.{System}
use Rattle.kernel_model.specs.Newest.{newest}
use Rattle.kernel_model.specs.Events.{is_end, is_by, accepted, is_exit_call, killed_by, write_covers, read_covers}
use Rattle.kernel_model.specs.Mapping.{live, maps, said_maps, says_maps, owner, mapped, unmaps, tasks_of, next_live, next_said}
use Rattle.kernel_model.specs.State.{state, is_empty}
use Rattle.kernel_model.specs.Contents.{byte, next_byte, empties}
use Rattle.kernel_model.specs.Pages.{placed, place, place_given, next_placed, is_active, is_inactive, is_stored, free, entered, next_entered, left, touched_since, says_touched, written, says_written, pages_of, is_deactivation, touches_from}
use Rattle.kernel_model.specs.Groups.{standing, says_standing, volatile, is_volatile_state, stands_in, first, objects_of, is_lifo}
use Rattle.kernel_model.specs.Deadlines.{deadlines, changed, after_unmappings, without_first, Deadlines}
use Rattle.kernel_model.specs.Counted.{counts, count_of, owned_by, is_nonvolatile_state}
use Rattle.kernel_model.specs.Bands.{wish, sets_band, active, active_call, sets_active, limits, limits_call, placing, says_placing, band, ticks, restarts, is_tick_call, counts_for_ageing}
use Rattle.kernel_model.specs.Lists.{least}
use Rattle.kernel_model.specs.Laws.Kinds.{is_quiet}
use Rattle.kernel_model.specs.Laws.Unchanged.{Unchanged}
use Rattle.kernel_model.proofs.Laws.Agree.{find-agree, any-agree, filter-agree, count_by-agree, least-agree}
use Rattle.kernel_model.proofs.Laws.Mapping.{live-more, said_maps-more}
use Rattle.kernel_model.proofs.Laws.State.{state-kept}
use Rattle.kernel_model.proofs.Laws.Contents.{byte-more}
use Rattle.kernel_model.proofs.Laws.Pages.{placed-more, touched_since-more, written-more, entered-more, free-is, left-is}
use Rattle.kernel_model.proofs.Laws.Groups.{standing-more}
use Rattle.kernel_model.proofs.Laws.Deadlines.{deadlines-more}
use Rattle.kernel_model.proofs.Laws.Bands.{wish-more, active-more, placing-more, ticks-more, limits-more}
use Rattle.kernel_model.proofs.Laws.Quiet.{IsSilent, quiet-silent}

-- what no entry speaks of stays
pub newest-kept : {E A : Type 0} (speaks : List E → A → E → Option A) (start : A) (e : E) (before : List E) → speaks before (newest speaks start before) e ≡ None → newest speaks start (e ∷ before) ≡ newest speaks start before
unfolding newest
newest-kept speaks start e before h = rw h refl

pub live-kept : (boot : System) (e : Entry) (before : List Entry) (t : ℕ) → is_end boot t e ≡ false → live boot (e ∷ before) t ≡ live boot before t
unfolding next_live
live-kept boot e before t h = live-more boot e before t ∙ rw h refl

pub said_maps-kept : (boot : System) (e : Entry) (before : List Entry) (o t : ℕ) → says_maps boot o t [] true e ≡ None → said_maps boot (e ∷ before) o t ≡ said_maps boot before o t
unfolding next_said
said_maps-kept boot e before o t h = said_maps-more boot e before o t ∙ ap (λ s. unwrap_or s (said_maps boot before o t)) h

pub maps-kept : (boot : System) (e : Entry) (before : List Entry) (o t : ℕ) → is_end boot t e ≡ false → says_maps boot o t [] true e ≡ None → maps boot (e ∷ before) o t ≡ maps boot before o t
unfolding maps
maps-kept boot e before o t h s = ap₂ (λ a b. a && b) (live-kept boot e before t h) (said_maps-kept boot e before o t s)

pub owner-kept : (boot : System) (e : Entry) (before : List Entry) (o : ℕ) → ((t : ℕ) → maps boot (e ∷ before) o t ≡ maps boot before o t) → owner boot (e ∷ before) o ≡ owner boot before o
unfolding owner
owner-kept boot e before o h = find-agree (maps boot (e ∷ before) o) (maps boot before o) h (tasks_of boot)

pub mapped-kept : (boot : System) (e : Entry) (before : List Entry) (o : ℕ) → ((t : ℕ) → maps boot (e ∷ before) o t ≡ maps boot before o t) → mapped boot (e ∷ before) o ≡ mapped boot before o
unfolding mapped
mapped-kept boot e before o h = any-agree (maps boot (e ∷ before) o) (maps boot before o) h (tasks_of boot)

and-not : (b : Bool) → (b && not b) ≡ false
and-not true = refl
and-not false = refl

pub unmaps-kept : (boot : System) (e : Entry) (before : List Entry) (o : ℕ) → mapped boot (e ∷ before) o ≡ mapped boot before o → unmaps boot before e o ≡ false
unfolding unmaps
unmaps-kept boot e before o h = rw h (and-not (mapped boot before o))

pub byte-kept : (e : Entry) (before : List Entry) (o b : ℕ) → empties o before e ≡ false → Rattle.kernel_model.specs.Events.written_byte o b e ≡ None → byte (e ∷ before) o b ≡ byte before o b
unfolding next_byte
byte-kept e before o b m w = byte-more e before o b ∙ rw (m, w) refl

pub placed-kept : (boot : System) (e : Entry) (before : List Entry) (p : PageId) → place_given (state before p.obj) (unmaps boot before e p.obj) p (place boot before p) e ≡ None → placed boot (e ∷ before) p ≡ placed boot before p
unfolding next_placed
placed-kept boot e before p h = placed-more boot e before p ∙ ap (λ s. unwrap_or (option_map (λ place. record { place = place; number = length before }) s) (placed boot before p)) h

pub touched_since-kept : (boot : System) (e : Entry) (before : List Entry) (p : PageId) → says_touched boot p before (touched_since boot before p) e ≡ None → touched_since boot (e ∷ before) p ≡ touched_since boot before p
touched_since-kept boot e before p h = touched_since-more boot e before p ∙ ap (λ s. unwrap_or s (touched_since boot before p)) h

pub written-kept : (e : Entry) (before : List Entry) (p : PageId) → says_written p before (written before p) e ≡ None → written (e ∷ before) p ≡ written before p
written-kept e before p h = written-more e before p ∙ ap (λ s. unwrap_or s (written before p)) h

pub entered-kept : (e : Entry) (before : List Entry) → is_deactivation e.reply ≡ false → entered (e ∷ before) ≡ entered before
unfolding next_entered
entered-kept e before h = entered-more e before ∙ rw h refl

pub standing-kept : (e : Entry) (before : List Entry) (o : ℕ) → says_standing o before (standing before o) e ≡ None → standing (e ∷ before) o ≡ standing before o
standing-kept e before o h = standing-more e before o ∙ ap (λ s. unwrap_or s (standing before o)) h

pub volatile-kept : (boot : System) (e : Entry) (before : List Entry) (o : ℕ) → mapped boot (e ∷ before) o ≡ mapped boot before o → state (e ∷ before) o ≡ state before o → volatile boot (e ∷ before) o ≡ volatile boot before o
unfolding volatile
volatile-kept boot e before o m s = rw (m, s) refl

pub stands_in-kept : (boot : System) (e : Entry) (before : List Entry) (q : Queue) (g o : ℕ) → volatile boot (e ∷ before) o ≡ volatile boot before o → standing (e ∷ before) o ≡ standing before o → stands_in boot (e ∷ before) q g o ≡ stands_in boot before q g o
stands_in-kept boot e before q g o v s = rw (v, s) refl

pub wish-kept : (boot : System) (e : Entry) (before : List Entry) (t : ℕ) → sets_band t e ≡ None → wish boot (e ∷ before) t ≡ wish boot before t
wish-kept boot e before t h = wish-more boot e before t ∙ ap (λ s. unwrap_or s (wish boot before t)) h

pub active-kept : (boot : System) (e : Entry) (before : List Entry) (t : ℕ) → sets_active boot t e ≡ None → active boot (e ∷ before) t ≡ active boot before t
active-kept boot e before t h = active-more boot e before t ∙ ap (λ s. unwrap_or s (active boot before t)) h

pub placing-kept : (boot : System) (e : Entry) (before : List Entry) (t : ℕ) → says_placing boot t before (placing boot before t) e ≡ None → placing boot (e ∷ before) t ≡ placing boot before t
placing-kept boot e before t h = placing-more boot e before t ∙ ap (λ s. unwrap_or s (placing boot before t)) h

pub band-kept : (boot : System) (e : Entry) (before : List Entry) (t : ℕ) → placing boot (e ∷ before) t ≡ placing boot before t → wish boot (e ∷ before) t ≡ wish boot before t → band boot (e ∷ before) t ≡ band boot before t
unfolding band
band-kept boot e before t p w = rw (p, w) refl

pub ticks-kept : (boot : System) (e : Entry) (before : List Entry) (t : ℕ) → restarts boot t before e ≡ false → is_tick_call e.call ≡ false → ticks boot (e ∷ before) t ≡ ticks boot before t
ticks-kept boot e before t r k = ticks-more boot e before t ∙ rw (r, k) (omega Rattle.std.proofs.Common.arith)

pub counts_for_ageing-kept : (boot : System) (e : Entry) (before : List Entry) (t : ℕ) → live boot (e ∷ before) t ≡ live boot before t → active boot (e ∷ before) t ≡ active boot before t → wish boot (e ∷ before) t ≡ wish boot before t → band boot (e ∷ before) t ≡ band boot before t → counts_for_ageing boot (e ∷ before) t ≡ counts_for_ageing boot before t
unfolding counts_for_ageing
counts_for_ageing-kept boot e before t l a w b = rw (l, a, w, b) refl

pub limits-kept : (boot : System) (e : Entry) (before : List Entry) (t : ℕ) → (if accepted e then limits_call t e.call else None) ≡ None → limits boot (e ∷ before) t ≡ limits boot before t
limits-kept boot e before t h = limits-more boot e before t ∙ ap (λ s. unwrap_or s (limits boot before t)) h

-- which object is first in a group
pub first-kept : (boot : System) (e : Entry) (before : List Entry) (q : Queue) (g : ℕ) → ((o : ℕ) → stands_in boot (e ∷ before) q g o ≡ stands_in boot before q g o) → ((o : ℕ) → standing (e ∷ before) o ≡ standing before o) → first boot (e ∷ before) q g ≡ first boot before q g
unfolding first
first-kept boot e before q g s t =
    let less = λ (past : List Entry) (a b : ℕ). if is_lifo q then nat_lt (standing past b).vstamp (standing past a).vstamp else nat_lt (standing past a).vstamp (standing past b).vstamp in
    least-agree (less (e ∷ before)) (less before) (λ a b. rw (t a, t b) refl) (filter (stands_in boot (e ∷ before) q g) (objects_of boot))
    ∙ ap (least (less before)) (filter-agree (stands_in boot (e ∷ before) q g) (stands_in boot before q g) s (objects_of boot))

-- the numbers of pages
module _ (boot : System) (e : Entry) (before : List Entry) (places : (p : PageId) → placed boot (e ∷ before) p ≡ placed boot before p) where
  pub counted-kept : (k : Place → Bool) → count_by (λ p. k (place boot (e ∷ before) p)) (pages_of boot) ≡ count_by (λ p. k (place boot before p)) (pages_of boot)
  counted-kept k = count_by-agree (λ p. k (place boot (e ∷ before) p)) (λ p. k (place boot before p)) (λ p. ap (λ x. k x.place) (places p)) (pages_of boot)

  pub free-kept : free boot (e ∷ before) ≡ free boot before
  free-kept = free-is boot (e ∷ before) ∙ rw (counted-kept is_active, counted-kept is_inactive) (sym (free-is boot before))

  pub left-kept : entered (e ∷ before) ≡ entered before → left boot (e ∷ before) ≡ left boot before
  left-kept h = left-is boot (e ∷ before) ∙ rw (counted-kept is_inactive, h) (sym (left-is boot before))

  pub count_of-kept : (t : ℕ) (k : Place → Bool) (what : State → Bool) → ((o : ℕ) → owner boot (e ∷ before) o ≡ owner boot before o) → ((o : ℕ) → state (e ∷ before) o ≡ state before o) → count_of boot (e ∷ before) t (λ p. k (place boot (e ∷ before) p)) what ≡ count_of boot before t (λ p. k (place boot before p)) what
  count_of-kept t k what o s =
      count_by-agree (λ p. owned_by boot (e ∷ before) t p && k (place boot (e ∷ before) p) && what (state (e ∷ before) p.obj)) (λ p. owned_by boot before t p && k (place boot before p) && what (state before p.obj))
      (λ p. let here : k (place boot (e ∷ before) p) ≡ k (place boot before p) = ap (λ x. k x.place) (places p) in rw (o p.obj, s p.obj, here) refl) (pages_of boot)

  pub counts-kept : (t : ℕ) → ((o : ℕ) → owner boot (e ∷ before) o ≡ owner boot before o) → ((o : ℕ) → state (e ∷ before) o ≡ state before o) → counts boot (e ∷ before) t ≡ counts boot before t
  unfolding counts
  counts-kept t o s =
      let resident = λ (x : Place). is_active x || is_inactive x in
      rw (count_of-kept t resident is_nonvolatile_state o s, count_of-kept t resident is_volatile_state o s, count_of-kept t is_stored is_nonvolatile_state o s, count_of-kept t is_stored is_volatile_state o s) refl

-- the deadlines
filter-none : (p : ℕ → Bool) → ((o : ℕ) → p o ≡ false) → (os : List ℕ) → filter p os ≡ []
filter-none p h [] = refl
filter-none p h (o ∷ os) = rw (h o, filter-none p h os) refl

and-false : (b : Bool) → (b && false) ≡ false
and-false true = refl
and-false false = refl

pub after_unmappings-none : (boot : System) (e : Entry) (before : List Entry) (d : Deadlines) → ((o : ℕ) → unmaps boot before e o ≡ false) → after_unmappings boot before e d ≡ d
after_unmappings-none boot e before d h =
    ap (λ os. fold (λ d' o. without_first (standing before o).queue d') d os) (filter-none (λ o. volatile boot before o && unmaps boot before e o) (λ o. rw (h o) (and-false (volatile boot before o))) (objects_of boot))

pub deadlines-kept : (boot : System) (e : Entry) (before : List Entry) → (if accepted e then Rattle.kernel_model.specs.Deadlines.set_by e.call else None) ≡ None → Rattle.kernel_model.specs.Events.purged_by e.reply ≡ None → ((o : ℕ) → unmaps boot before e o ≡ false) → deadlines boot (e ∷ before) ≡ deadlines boot before
unfolding changed
deadlines-kept boot e before s p u = deadlines-more boot e before ∙ rw (s, p, changed) (after_unmappings-none boot e before (deadlines boot before) u)

-- an entry that says nothing leaves everything
and-assoc : (a b c : Bool) → (a && b) ≡ false → (a && b && c) ≡ false
and-assoc true true c h = absurd (Rattle.std.proofs.lemmas.Bool.true≢false h)
and-assoc true false c h = refl
and-assoc false b c h = refl

active-off : (a b : Bool) (s : Option Bool) → (if a then s else None) ≡ None → (if a && b then s else None) ≡ None
active-off true true s h = h
active-off true false s h = refl
active-off false b s h = refl

touches-off : (a w r x : Bool) → (a && w) ≡ false → (a && r) ≡ false → (a && (w || (r && x))) ≡ false
touches-off false w r x h k = refl
touches-off true w r x h k = rw (h, k) refl

module _ (boot : System) (e : Entry) (before : List Entry) (s : IsSilent e) where
  silent-end : (t : ℕ) → is_end boot t e ≡ false
  silent-end t = rw (s.killed, and-assoc (accepted e) (is_exit_call e.call) (is_by boot t e) s.exit) refl

  silent-says_maps : (o t : ℕ) → says_maps boot o t [] true e ≡ None
  silent-says_maps o t = rw (s.map o, s.attach o, s.unmap o) refl

  silent-maps : (o t : ℕ) → maps boot (e ∷ before) o t ≡ maps boot before o t
  silent-maps o t = maps-kept boot e before o t (silent-end t) (silent-says_maps o t)

  silent-mapped : (o : ℕ) → mapped boot (e ∷ before) o ≡ mapped boot before o
  silent-mapped o = mapped-kept boot e before o (silent-maps o)

  silent-unmaps : (o : ℕ) → unmaps boot before e o ≡ false
  silent-unmaps o = unmaps-kept boot e before o (silent-mapped o)

  silent-owner : (o : ℕ) → owner boot (e ∷ before) o ≡ owner boot before o
  silent-owner o = owner-kept boot e before o (silent-maps o)

  silent-purge : (o : ℕ) → Rattle.kernel_model.specs.Events.is_purge o e ≡ false
  silent-purge o = rw s.purged refl

  silent-state : (o : ℕ) → state (e ∷ before) o ≡ state before o
  silent-state o = state-kept e before o (s.map o) (silent-purge o) (s.wish o)

  silent-empties : (o : ℕ) → empties o before e ≡ false
  silent-empties o = rw (s.map o, s.purged, s.wish o) refl

  silent-touches : (p : PageId) → touches_from (state before p.obj) p e ≡ false
  silent-touches p = touches-off (accepted e) (write_covers p e.call) (read_covers p e.call) (not (is_empty (state before p.obj))) (s.write p) (s.read p)

  silent-placed : (p : PageId) → placed boot (e ∷ before) p ≡ placed boot before p
  silent-placed p = placed-kept boot e before p (rw (silent-empties p.obj, silent-unmaps p.obj, silent-touches p, s.move p) refl)

  silent-touched : (p : PageId) → touched_since boot (e ∷ before) p ≡ touched_since boot before p
  silent-touched p = touched_since-kept boot e before p (rw (silent-empties p.obj, silent-unmaps p.obj, silent-touches p, s.move p) refl)

  silent-written : (p : PageId) → written (e ∷ before) p ≡ written before p
  silent-written p = written-kept e before p (rw (silent-empties p.obj, s.write p) refl)

  silent-entered : entered (e ∷ before) ≡ entered before
  silent-entered = entered-kept e before s.deactivation

  silent-volatile : (o : ℕ) → volatile boot (e ∷ before) o ≡ volatile boot before o
  silent-volatile o = volatile-kept boot e before o (silent-mapped o) (silent-state o)

  silent-standing : (o : ℕ) → standing (e ∷ before) o ≡ standing before o
  silent-standing o = standing-kept e before o (rw (s.wish o) refl)

  silent-stands_in : (q : Queue) (g o : ℕ) → stands_in boot (e ∷ before) q g o ≡ stands_in boot before q g o
  silent-stands_in q g o = stands_in-kept boot e before q g o (silent-volatile o) (silent-standing o)

  silent-wish : (t : ℕ) → wish boot (e ∷ before) t ≡ wish boot before t
  silent-wish t = wish-kept boot e before t (s.band t)

  silent-sets_active : (t : ℕ) → sets_active boot t e ≡ None
  silent-sets_active t = active-off (accepted e) (is_by boot t e) (active_call e.call) s.active

  silent-active : (t : ℕ) → active boot (e ∷ before) t ≡ active boot before t
  silent-active t = active-kept boot e before t (silent-sets_active t)

  silent-placing : (t : ℕ) → placing boot (e ∷ before) t ≡ placing boot before t
  silent-placing t = placing-kept boot e before t (rw (s.band t, silent-sets_active t, s.aged) refl)

  silent-band : (t : ℕ) → band boot (e ∷ before) t ≡ band boot before t
  silent-band t = band-kept boot e before t (silent-placing t) (silent-wish t)

  silent-ticks : (t : ℕ) → ticks boot (e ∷ before) t ≡ ticks boot before t
  silent-ticks t = ticks-kept boot e before t (rw (silent-sets_active t, s.band t) refl) s.tick

  pub silent-unchanged : Unchanged boot e before
  silent-unchanged = record {
    live = λ t. live-kept boot e before t (silent-end t);
    said_maps = λ o t. said_maps-kept boot e before o t (silent-says_maps o t);
    maps = silent-maps;
    owner = silent-owner;
    mapped = silent-mapped;
    unmaps = silent-unmaps;
    state = silent-state;
    byte = λ o b. byte-kept e before o b (silent-empties o) (s.byte o b);
    placed = silent-placed;
    active_pages = counted-kept boot e before silent-placed is_active;
    inactive_pages = counted-kept boot e before silent-placed is_inactive;
    stored_pages = counted-kept boot e before silent-placed is_stored;
    free = free-kept boot e before silent-placed;
    entered = silent-entered;
    left = left-kept boot e before silent-placed silent-entered;
    touched_since = silent-touched;
    written = silent-written;
    standing = silent-standing;
    volatile = silent-volatile;
    stands_in = silent-stands_in;
    first = λ q g. first-kept boot e before q g (silent-stands_in q g) silent-standing;
    deadlines = deadlines-kept boot e before s.set s.purged silent-unmaps;
    counts = λ t. counts-kept boot e before silent-placed t silent-owner silent-state;
    wish = silent-wish;
    active = silent-active;
    limits = λ t. limits-kept boot e before t (s.limits t);
    placing = silent-placing;
    band = silent-band;
    ticks = silent-ticks;
    counts_for_ageing = λ t. counts_for_ageing-kept boot e before t (live-kept boot e before t (silent-end t)) (silent-active t) (silent-wish t) (silent-band t);
  }

-- an entry that changes nothing leaves every answer
pub quiet-unchanged : (boot : System) (e : Entry) (before : List Entry) → is_quiet e ≡ true → Unchanged boot e before
quiet-unchanged boot e before q = silent-unchanged boot e before (quiet-silent e q)
