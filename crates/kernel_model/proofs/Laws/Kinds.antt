-- What each kind of entry makes of each definition that it changes.
use Rattle.std.proofs.Common.{◌≡◌, ℕ, suc, ◌+◌, ◌-◌, List, ◌∷◌, length, Option, Some, None, refl, ap₂, ◌∙◌, Bool, true, false, not, ◌&&◌, ◌||◌, nat_eq, nat_le, if◌then◌else◌, arith}
use Rattle.std.specs.Option.{unwrap_or, option_map_or}
use Rattle.std.specs.Prelude.{option_map, option_and_then, is_some, position, slice_get}
use Rattle.kern_ids.specs.declared.entries.Entry.{Entry}
use Rattle.kern_ids.specs.declared.ids.PageId.{PageId}
use Rattle.kern_ids.specs.declared.calls.Queue.{Queue}
use Rattle.kern_ids.specs.declared.calls.Limit.{Limit}
use Rattle.kern_ids.specs.declared.calls.State.{State}
use Rattle.kern_ids.specs.declared.calls.State.TheVariants.{Nonvolatile, Empty}
use Rattle.kern_ids.specs.declared.calls.Wish.{Wish}
use Rattle.kern_ids.specs.declared.replies.Move.{Move}
use Rattle.kern_ids.specs.declared.replies.Cause.{Cause}
use Rattle.kern_ids.specs.StateWord.{decoded}
use Rattle.kernel_model.specs.declared.place.Place.{Place}
use Rattle.kernel_model.specs.declared.place.Place.TheVariants.{Absent, Active}
use Rattle.kernel_model.specs.declared.place.Standing.{Standing}
use Rattle.kernel_model.specs.System.{System}
use Rattle.kernel_model.specs.Events.{is_by, reaches_page, accepted, is_map, purged_by, asked}
use Rattle.kernel_model.specs.Mapping.{live, maps, said_maps, unmaps, next_live, next_said}
use Rattle.kernel_model.specs.State.{state, state_asked, is_empty, next_state}
use Rattle.kernel_model.specs.Contents.{byte, next_byte, is_ask_empty, empties}
use Rattle.kernel_model.specs.Pages.{placed, place, next_placed, moved_to, same_page, is_out, entered, next_entered, touched_since, written, touches, move_of}
use Rattle.kernel_model.specs.Lists.{some_if}
use Rattle.kern_ids.specs.declared.replies.Move.TheVariants.{Deactivated}
use Rattle.kernel_model.proofs.Laws.Kept.{live-kept, said_maps-kept}
use Rattle.kernel_model.proofs.Laws.Mapping.{unmaps-no}
use Rattle.kernel_model.specs.Groups.{standing, standing_asked}
use Rattle.kernel_model.specs.Deadlines.{deadlines, changed, after_set, after_ripe, ripe_queue, after_unmappings, without_first, set_by}
use Rattle.kernel_model.specs.Bands.{wish, active, limits, placing, Placing, ticks, differs, active_call, sets_active}
use Rattle.kernel_model.specs.Pages.{left}
use Rattle.kernel_model.specs.Laws.Kinds.{runs_for, map_entry, attach_entry, unmap_entry, write_entry, set_entry, active_entry, exit_entry, forced_entry, purge_entry, scan_purge_entry, moved_entry, tick_entry, killed_entry, band_entry, limits_entry}
use Rattle.kernel_model.proofs.Laws.Mapping.{live-more, said_maps-more}
use Rattle.kernel_model.proofs.Laws.State.{state-more}
use Rattle.kernel_model.proofs.Laws.Contents.{byte-more}
use Rattle.kernel_model.proofs.Laws.Pages.{placed-more, touched_since-more, written-more, entered-more}
use Rattle.kernel_model.proofs.Laws.Groups.{standing-more}
use Rattle.kernel_model.proofs.Laws.Deadlines.{deadlines-more}
use Rattle.kernel_model.proofs.Laws.Bands.{wish-more, active-more, placing-more, ticks-more, limits-more}

-- what is said where a test holds
said_if : {A : Type 0} (b : Bool) (x was : A) → unwrap_or (if b then Some x else None) was ≡ (if b then x else was)
said_if true x was = refl
said_if false x was = refl

said_given : {A B : Type 0} (b : Bool) (f : B → A) (x : B) (was : A) → unwrap_or (option_map f (if b then Some x else None)) was ≡ (if b then f x else was)
said_given true f x was = refl
said_given false f x was = refl

or-none : (b l : Bool) → (not (b || false) && l) ≡ (not b && l)
or-none true l = refl
or-none false l = refl

-- life
pub live-exit : (boot : System) (who : ℕ) (before : List Entry) (t : ℕ) → live boot (exit_entry who ∷ before) t ≡ (not (runs_for boot t who) && live boot before t)
unfolding next_live
live-exit boot who before t = live-more boot (exit_entry who) before t ∙ or-none (runs_for boot t who) (live boot before t)

pub live-killed : (boot : System) (who u : ℕ) (cause : Cause) (before : List Entry) (t : ℕ) → live boot (killed_entry who u cause ∷ before) t ≡ (not (nat_eq t u) && live boot before t)
unfolding next_live
live-killed boot who u cause before t = live-more boot (killed_entry who u cause) before t

-- which tasks map an object
said_new : (a r was : Bool) → unwrap_or (if ((a || false) && r) then Some true else None) was ≡ (if (a && r) then true else was)
said_new true r was = said_if r true was
said_new false r was = refl

maps_new : (b l said : Bool) → (b ≡ true → l ≡ true) → (l && (if b then true else said)) ≡ (b || (l && said))
maps_new true l said h = rw (h refl) refl
maps_new false l said h = refl

maps_gone : (b l said : Bool) → (l && (if b then false else said)) ≡ (not b && (l && said))
maps_gone true true said = refl
maps_gone true false said = refl
maps_gone false l said = refl

and-right : (a b : Bool) → (a && b) ≡ true → b ≡ true
and-right true b h = h
and-right false b h = absurd (Rattle.std.proofs.lemmas.Bool.false≢true h)

and-assoc : (a b c : Bool) → ((a && b) && c) ≡ (a && (b && c))
and-assoc true b c = refl
and-assoc false b c = refl

pub said_maps-map : (boot : System) (who x : ℕ) (before : List Entry) (o t : ℕ) → said_maps boot (map_entry who x ∷ before) o t ≡ (if nat_eq x o && runs_for boot t who then true else said_maps boot before o t)
unfolding next_said
said_maps-map boot who x before o t = said_maps-more boot (map_entry who x) before o t ∙ said_new (nat_eq x o) (runs_for boot t who) (said_maps boot before o t)

pub said_maps-attach : (boot : System) (who x : ℕ) (before : List Entry) (o t : ℕ) → said_maps boot (attach_entry who x ∷ before) o t ≡ (if nat_eq x o && runs_for boot t who then true else said_maps boot before o t)
unfolding next_said
said_maps-attach boot who x before o t = said_maps-more boot (attach_entry who x) before o t ∙ said_if (nat_eq x o && runs_for boot t who) true (said_maps boot before o t)

pub said_maps-unmap : (boot : System) (who x : ℕ) (before : List Entry) (o t : ℕ) → said_maps boot (unmap_entry who x ∷ before) o t ≡ (if nat_eq x o && runs_for boot t who then false else said_maps boot before o t)
unfolding next_said
said_maps-unmap boot who x before o t = said_maps-more boot (unmap_entry who x) before o t ∙ said_if (nat_eq x o && runs_for boot t who) false (said_maps boot before o t)

-- the caller of an accepted call is live
pub maps-map : (boot : System) (who x : ℕ) (before : List Entry) (o t : ℕ) → (runs_for boot t who ≡ true → live boot before t ≡ true) → maps boot (map_entry who x ∷ before) o t ≡ ((nat_eq x o && runs_for boot t who) || maps boot before o t)
unfolding maps
maps-map boot who x before o t h =
    ap₂ (λ a b. a && b) (live-kept boot (map_entry who x) before t refl) (said_maps-map boot who x before o t)
    ∙ maps_new (nat_eq x o && runs_for boot t who) (live boot before t) (said_maps boot before o t) (λ b. h (and-right (nat_eq x o) (runs_for boot t who) b))

pub maps-attach : (boot : System) (who x : ℕ) (before : List Entry) (o t : ℕ) → (runs_for boot t who ≡ true → live boot before t ≡ true) → maps boot (attach_entry who x ∷ before) o t ≡ ((nat_eq x o && runs_for boot t who) || maps boot before o t)
unfolding maps
maps-attach boot who x before o t h =
    ap₂ (λ a b. a && b) (live-kept boot (attach_entry who x) before t refl) (said_maps-attach boot who x before o t)
    ∙ maps_new (nat_eq x o && runs_for boot t who) (live boot before t) (said_maps boot before o t) (λ b. h (and-right (nat_eq x o) (runs_for boot t who) b))

pub maps-unmap : (boot : System) (who x : ℕ) (before : List Entry) (o t : ℕ) → maps boot (unmap_entry who x ∷ before) o t ≡ (not (nat_eq x o && runs_for boot t who) && maps boot before o t)
unfolding maps
maps-unmap boot who x before o t =
    ap₂ (λ a b. a && b) (live-kept boot (unmap_entry who x) before t refl) (said_maps-unmap boot who x before o t)
    ∙ maps_gone (nat_eq x o && runs_for boot t who) (live boot before t) (said_maps boot before o t)

pub maps-exit : (boot : System) (who : ℕ) (before : List Entry) (o t : ℕ) → maps boot (exit_entry who ∷ before) o t ≡ (not (runs_for boot t who) && maps boot before o t)
unfolding maps
maps-exit boot who before o t =
    ap₂ (λ a b. a && b) (live-exit boot who before t) (said_maps-kept boot (exit_entry who) before o t refl)
    ∙ and-assoc (not (runs_for boot t who)) (live boot before t) (said_maps boot before o t)

pub maps-killed : (boot : System) (who u : ℕ) (cause : Cause) (before : List Entry) (o t : ℕ) → maps boot (killed_entry who u cause ∷ before) o t ≡ (not (nat_eq t u) && maps boot before o t)
unfolding maps
maps-killed boot who u cause before o t =
    ap₂ (λ a b. a && b) (live-killed boot who u cause before t) (said_maps-kept boot (killed_entry who u cause) before o t refl)
    ∙ and-assoc (not (nat_eq t u)) (live boot before t) (said_maps boot before o t)

-- the state
pub state-map : (who x : ℕ) (before : List Entry) (o : ℕ) → state (map_entry who x ∷ before) o ≡ (if nat_eq x o then Nonvolatile else state before o)
unfolding next_state
state-map who x before o = state-more (map_entry who x) before o ∙ said_if (nat_eq x o) Nonvolatile (state before o)

pub state-set : (who x word : ℕ) (old : State) (wish : Wish) (before : List Entry) (o : ℕ) → decoded word ≡ Some wish → state (set_entry who x word old ∷ before) o ≡ (if nat_eq x o then state_asked (state before o) wish else state before o)
unfolding next_state
state-set who x word old wish before o d = state-more (set_entry who x word old) before o ∙ rw d (said_given (nat_eq x o) (state_asked (state before o)) wish (state before o))

-- a purge, by whatever call
pub state-purge : (e : Entry) (x : ℕ) (before : List Entry) (o : ℕ) → is_map o e ≡ false → purged_by e.reply ≡ Some x → asked o e ≡ None → state (e ∷ before) o ≡ (if nat_eq o x then Empty else state before o)
unfolding next_state
state-purge e x before o m p a = state-more e before o ∙ rw (m, p, a) (said_if (nat_eq o x) Empty (state before o))

-- the emptyings
or-false : (b : Bool) → (b || false) ≡ b
or-false true = refl
or-false false = refl

and-false : (b : Bool) → (b && false) ≡ false
and-false true = refl
and-false false = refl

pub empties-map : (who x : ℕ) (before : List Entry) (o : ℕ) → empties o before (map_entry who x) ≡ nat_eq x o
empties-map who x before o = rw (or-false (nat_eq x o)) (or-false (nat_eq x o))

pub empties-purge : (e : Entry) (x : ℕ) (before : List Entry) (o : ℕ) → is_map o e ≡ false → purged_by e.reply ≡ Some x → asked o e ≡ None → empties o before e ≡ nat_eq o x
empties-purge e x before o m p a = rw (m, p, a) (or-false (nat_eq o x))

set_empties : (b : Bool) (f : Wish → Bool) (w : Wish) (n : Bool) → (option_map_or f (if b then Some w else None) false && n) ≡ (b && f w && n)
set_empties true f w n = refl
set_empties false f w n = refl

pub empties-set : (who x word : ℕ) (old : State) (wish : Wish) (before : List Entry) (o : ℕ) → decoded word ≡ Some wish → empties o before (set_entry who x word old) ≡ (nat_eq x o && is_ask_empty wish && not (is_empty (state before o)))
empties-set who x word old wish before o d = rw d (set_empties (nat_eq x o) is_ask_empty wish (not (is_empty (state before o))))

-- the bytes
pub byte-emptied : (e : Entry) (before : List Entry) (o b : ℕ) → empties o before e ≡ true → byte (e ∷ before) o b ≡ 0
unfolding next_byte
byte-emptied e before o b h = byte-more e before o b ∙ rw h refl

said_or_kept : (b : Bool) (given : Option ℕ) (was : ℕ) → unwrap_or (if b then given else None) was ≡ (if b then unwrap_or given was else was)
said_or_kept true given was = refl
said_or_kept false given was = refl

pub byte-write : (who x off : ℕ) (bytes : List ℕ) (before : List Entry) (o b : ℕ) → byte (write_entry who x off bytes ∷ before) o b ≡ (if nat_eq x o && nat_le off b then unwrap_or (slice_get bytes (b - off)) (byte before o b) else byte before o b)
unfolding next_byte
byte-write who x off bytes before o b = byte-more (write_entry who x off bytes) before o b ∙ said_or_kept (nat_eq x o && nat_le off b) (slice_get bytes (b - off)) (byte before o b)

-- the places of pages
pub placed-emptied : (boot : System) (e : Entry) (before : List Entry) (p : PageId) → empties p.obj before e ≡ true → placed boot (e ∷ before) p ≡ record { place = Absent; number = length before }
unfolding next_placed
placed-emptied boot e before p h = placed-more boot e before p ∙ rw h refl

or-true : (b : Bool) → (b || true) ≡ true
or-true true = refl
or-true false = refl

pub placed-unmapped : (boot : System) (e : Entry) (before : List Entry) (p : PageId) → unmaps boot before e p.obj ≡ true → placed boot (e ∷ before) p ≡ record { place = Absent; number = length before }
unfolding next_placed
placed-unmapped boot e before p h = placed-more boot e before p ∙ rw (h, or-true (empties p.obj before e)) refl

-- a page that is out is faulted to Active by a touch, and one that is in stays
pub placed-faulted : (boot : System) (e : Entry) (before : List Entry) (p : PageId) → empties p.obj before e ≡ false → unmaps boot before e p.obj ≡ false → touches before e p ≡ true → is_out (place boot before p) ≡ true → placed boot (e ∷ before) p ≡ record { place = Active; number = length before }
unfolding next_placed
placed-faulted boot e before p m u t o = placed-more boot e before p ∙ rw (m, u, t, o) refl

pub placed-stays : (boot : System) (e : Entry) (before : List Entry) (p : PageId) → empties p.obj before e ≡ false → unmaps boot before e p.obj ≡ false → is_out (place boot before p) ≡ false → move_of p e.reply ≡ None → placed boot (e ∷ before) p ≡ placed boot before p
unfolding next_placed
placed-stays boot e before p m u o v = placed-more boot e before p ∙ rw (m, u, o, v, and-false (touches before e p)) refl

said_placed : {A B : Type 0} (b : Bool) (f : B → A) (x : B) (was : A) → unwrap_or (option_map f (some_if b x)) was ≡ (if b then f x else was)
said_placed true f x was = refl
said_placed false f x was = refl

pub placed-moved : (boot : System) (who : ℕ) (move : Move) (q : PageId) (before : List Entry) (p : PageId) → placed boot (moved_entry who move q ∷ before) p ≡ (if same_page p q then record { place = moved_to move; number = length before } else placed boot before p)
unfolding next_placed
placed-moved boot who move q before p =
    placed-more boot (moved_entry who move q) before p
    ∙ rw (unmaps-no boot (moved_entry who move q) before p.obj (λ t. refl) refl) (said_placed (same_page p q) (λ place. record { place = place; number = length before }) (moved_to move) (placed boot before p))

-- the marks: touched since the page's stamp
pub touched_since-emptied : (boot : System) (e : Entry) (before : List Entry) (p : PageId) → empties p.obj before e ≡ true → touched_since boot (e ∷ before) p ≡ false
touched_since-emptied boot e before p h = touched_since-more boot e before p ∙ rw h refl

pub touched_since-unmapped : (boot : System) (e : Entry) (before : List Entry) (p : PageId) → unmaps boot before e p.obj ≡ true → touched_since boot (e ∷ before) p ≡ false
touched_since-unmapped boot e before p h = touched_since-more boot e before p ∙ rw (h, or-true (empties p.obj before e)) refl

-- a touch marks a page that is in, and one that is out has a new stamp
pub touched_since-touched : (boot : System) (e : Entry) (before : List Entry) (p : PageId) → empties p.obj before e ≡ false → unmaps boot before e p.obj ≡ false → touches before e p ≡ true → touched_since boot (e ∷ before) p ≡ not (is_out (place boot before p))
touched_since-touched boot e before p m u t = touched_since-more boot e before p ∙ rw (m, u, t) refl

moved_mark : (b : Bool) (place : Place) (was : Bool) → unwrap_or (some_if (is_some (some_if b place)) false) was ≡ (not b && was)
moved_mark true place was = refl
moved_mark false place was = refl

pub touched_since-moved : (boot : System) (who : ℕ) (move : Move) (q : PageId) (before : List Entry) (p : PageId) → touched_since boot (moved_entry who move q ∷ before) p ≡ (not (same_page p q) && touched_since boot before p)
touched_since-moved boot who move q before p =
    touched_since-more boot (moved_entry who move q) before p
    ∙ rw (unmaps-no boot (moved_entry who move q) before p.obj (λ t. refl) refl) (moved_mark (same_page p q) (moved_to move) (touched_since boot before p))

-- the written pages
pub written-emptied : (e : Entry) (before : List Entry) (p : PageId) → empties p.obj before e ≡ true → written (e ∷ before) p ≡ false
written-emptied e before p h = written-more e before p ∙ rw h refl

written_now : (b was : Bool) → unwrap_or (some_if b true) was ≡ (b || was)
written_now true was = refl
written_now false was = refl

pub written-write : (who x off : ℕ) (bytes : List ℕ) (before : List Entry) (p : PageId) → written (write_entry who x off bytes ∷ before) p ≡ ((nat_eq x p.obj && reaches_page off (length bytes) p.page) || written before p)
written-write who x off bytes before p = written-more (write_entry who x off bytes) before p ∙ written_now (nat_eq x p.obj && reaches_page off (length bytes) p.page) (written before p)

-- the frames
pub entered-deactivated : (who : ℕ) (p : PageId) (before : List Entry) → entered (moved_entry who Deactivated p ∷ before) ≡ entered before + 1
unfolding next_entered
entered-deactivated who p before = entered-more (moved_entry who Deactivated p) before

-- where volatile objects stand
said_standing : (b : Bool) (f : Wish → Option Standing) (w : Wish) (was : Standing) → unwrap_or (option_and_then f (if b then Some w else None)) was ≡ (if b then unwrap_or (f w) was else was)
said_standing true f w was = refl
said_standing false f w was = refl

pub standing-set : (who x word : ℕ) (old : State) (wish : Wish) (before : List Entry) (o : ℕ) → decoded word ≡ Some wish → standing (set_entry who x word old ∷ before) o ≡ (if nat_eq x o then unwrap_or (standing_asked (length before) wish) (standing before o) else standing before o)
standing-set who x word old wish before o d = standing-more (set_entry who x word old) before o ∙ rw d (said_standing (nat_eq x o) (standing_asked (length before)) wish (standing before o))

-- the deadlines
pub deadlines-set : (boot : System) (who x word : ℕ) (old : State) (wish : Wish) (before : List Entry) → decoded word ≡ Some wish → deadlines boot (set_entry who x word old ∷ before) ≡ after_set boot before x (state before x) wish (deadlines boot before)
unfolding changed
deadlines-set boot who x word old wish before d = deadlines-more boot (set_entry who x word old) before ∙ rw (d, changed) refl

pub deadlines-forced : (boot : System) (who x : ℕ) (before : List Entry) → deadlines boot (forced_entry who x ∷ before) ≡ without_first (standing before x).queue (deadlines boot before)
unfolding changed
deadlines-forced boot who x before = deadlines-more boot (forced_entry who x) before

pub deadlines-purge : (boot : System) (who x : ℕ) (r : Queue) (before : List Entry) → ripe_queue boot before ≡ Some r → deadlines boot (purge_entry who x ∷ before) ≡ after_ripe (left boot before) r (standing before x).queue (deadlines boot before)
unfolding changed
deadlines-purge boot who x r before h = deadlines-more boot (purge_entry who x) before ∙ rw h refl

pub deadlines-scan_purge : (boot : System) (who x : ℕ) (r : Queue) (before : List Entry) → ripe_queue boot before ≡ Some r → deadlines boot (scan_purge_entry who x ∷ before) ≡ after_ripe (left boot before) r (standing before x).queue (deadlines boot before)
unfolding changed
deadlines-scan_purge boot who x r before h = deadlines-more boot (scan_purge_entry who x) before ∙ rw h refl

-- an entry that sets no state and purges nothing
pub deadlines-unmapped : (boot : System) (e : Entry) (before : List Entry) → (if accepted e then set_by e.call else None) ≡ None → purged_by e.reply ≡ None → deadlines boot (e ∷ before) ≡ after_unmappings boot before e (deadlines boot before)
unfolding changed
deadlines-unmapped boot e before s p = deadlines-more boot e before ∙ rw (s, p, changed) refl

-- the tasks
said_some : {A : Type 0} (b : Bool) (x was : A) → unwrap_or (some_if b x) was ≡ (if b then x else was)
said_some true x was = refl
said_some false x was = refl

pub wish-band : (boot : System) (who x band : ℕ) (before : List Entry) (t : ℕ) → wish boot (band_entry who x band ∷ before) t ≡ (if nat_eq t x then band else wish boot before t)
wish-band boot who x band before t = wish-more boot (band_entry who x band) before t ∙ said_some (nat_eq t x) band (wish boot before t)

pub limits-set : (boot : System) (who x : ℕ) (a i : Limit) (before : List Entry) (t : ℕ) → limits boot (limits_entry who x a i ∷ before) t ≡ (if nat_eq t x then record { when_active = a; when_inactive = i } else limits boot before t)
limits-set boot who x a i before t = limits-more boot (limits_entry who x a i) before t ∙ said_some (nat_eq t x) (record { when_active = a; when_inactive = i }) (limits boot before t)

pub active-set : (boot : System) (who : ℕ) (on was : Bool) (before : List Entry) (t : ℕ) → active boot (active_entry who on was ∷ before) t ≡ (if runs_for boot t who then on else active boot before t)
active-set boot who on was before t = active-more boot (active_entry who on was) before t ∙ said_if (runs_for boot t who) on (active boot before t)

abbrev no_bool : Option Bool
no_bool = None

same_none : (b : Bool) → (if b then no_bool else no_bool) ≡ None
same_none true = refl
same_none false = refl

-- no call but Active sets the activity
pub sets_active-none : (boot : System) (e : Entry) (t : ℕ) → active_call e.call ≡ None → sets_active boot t e ≡ None
sets_active-none boot e t h = rw h (same_none (accepted e && is_by boot t e))

-- placings: a SetBand, an Active that changes the activity at wish 0, an ageing
placed_by : (b : Bool) (x : Placing) (other : Option Placing) (was : Placing) → other ≡ None → unwrap_or (if b then Some x else other) was ≡ (if b then x else was)
placed_by true x other was h = refl
placed_by false x other was h = rw h refl

band_places : (b : Bool) (band : ℕ) → (is_some (some_if b band) || false) ≡ b
band_places true band = refl
band_places false band = refl

pub placing-band : (boot : System) (who x band : ℕ) (before : List Entry) (t : ℕ) → placing boot (band_entry who x band ∷ before) t ≡ (if nat_eq t x then record { aged = false; bstamp = (suc (length before), 0) } else placing boot before t)
placing-band boot who x band before t = placing-more boot (band_entry who x band) before t
    ∙ rw (sets_active-none boot (band_entry who x band) t refl, band_places (nat_eq t x) band) (said_if (nat_eq t x) (record { aged = false; bstamp = (suc (length before), 0) }) (placing boot before t))

active_changes : (b on was : Bool) → option_map_or (differs was) (if b then Some on else None) false ≡ (b && differs was on)
active_changes true on was = refl
active_changes false on was = refl

pub placing-active : (boot : System) (who : ℕ) (on was : Bool) (before : List Entry) (t : ℕ) → placing boot (active_entry who on was ∷ before) t ≡ (if (runs_for boot t who && differs (active boot before t) on) && nat_eq (wish boot before t) 0 then record { aged = false; bstamp = (suc (length before), 0) } else placing boot before t)
placing-active boot who on was before t = placing-more boot (active_entry who on was) before t
    ∙ rw (active_changes (runs_for boot t who) on (active boot before t)) (said_if ((runs_for boot t who && differs (active boot before t) on) && nat_eq (wish boot before t) 0) (record { aged = false; bstamp = (suc (length before), 0) }) (placing boot before t))

pub placing-tick : (boot : System) (who : ℕ) (aged : List ℕ) (before : List Entry) (t : ℕ) → placing boot (tick_entry who aged ∷ before) t ≡ option_map_or (λ i. record { aged = true; bstamp = (suc (length before), i) }) (position (nat_eq t) aged) (placing boot before t)
placing-tick boot who aged before t = placing-more boot (tick_entry who aged) before t
    ∙ rw (sets_active-none boot (tick_entry who aged) t refl) (elim (position (nat_eq t) aged) as (λ s. unwrap_or (option_map (λ i. record { aged = true; bstamp = (suc (length before), i) }) s) (placing boot before t) ≡ option_map_or (λ i. record { aged = true; bstamp = (suc (length before), i) }) s (placing boot before t)) [ Some i ↦ refl | None ↦ refl ])

-- the Ticks that count
pub ticks-tick : (boot : System) (who : ℕ) (aged : List ℕ) (before : List Entry) (t : ℕ) → ticks boot (tick_entry who aged ∷ before) t ≡ ticks boot before t + 1
ticks-tick boot who aged before t = ticks-more boot (tick_entry who aged) before t ∙ rw (sets_active-none boot (tick_entry who aged) t refl) (omega arith)

band_restarts : (b : Bool) (band : ℕ) → option_map_or (nat_eq 0) (some_if b band) false ≡ (b && nat_eq 0 band)
band_restarts true band = refl
band_restarts false band = refl

restarted : (b : Bool) (n : ℕ) → (if b then 0 else 0 + n) ≡ (if b then 0 else n)
restarted true n = refl
restarted false n = omega arith

pub ticks-band : (boot : System) (who x band : ℕ) (before : List Entry) (t : ℕ) → ticks boot (band_entry who x band ∷ before) t ≡ (if nat_eq t x && nat_eq 0 band then 0 else ticks boot before t)
ticks-band boot who x band before t = ticks-more boot (band_entry who x band) before t
    ∙ rw (sets_active-none boot (band_entry who x band) t refl, band_restarts (nat_eq t x) band) (restarted (nat_eq t x && nat_eq 0 band) (ticks boot before t))

active_restarts : (b on was : Bool) → (option_map_or (λ on. not on && was) (if b then Some on else None) false || false) ≡ (b && not on && was)
active_restarts true on was = or-false (not on && was)
active_restarts false on was = refl

pub ticks-active : (boot : System) (who : ℕ) (on was : Bool) (before : List Entry) (t : ℕ) → ticks boot (active_entry who on was ∷ before) t ≡ (if runs_for boot t who && not on && active boot before t then 0 else ticks boot before t)
ticks-active boot who on was before t = ticks-more boot (active_entry who on was) before t
    ∙ rw (active_restarts (runs_for boot t who) on (active boot before t)) (restarted (runs_for boot t who && not on && active boot before t) (ticks boot before t))
