-- The laws as a loop over the entries in order meets them.
use Rattle.std.proofs.Common.{◌≡◌, ℕ, ◌+◌, ◌<◌, List, [], ◌∷◌, length, take, reverse, get_or, true, false, ◌∙◌, arith}
use Rattle.kern_ids.specs.declared.entries.Entry.{Entry}
use Rattle.kern_ids.specs.declared.calls.State.TheVariants.{Nonvolatile}
use Rattle.kernel_model.specs.System.{System}
use Rattle.kernel_model.specs.Mapping.{live, next_live, said_maps, next_said}
use Rattle.kernel_model.specs.State.{state, next_state}
use Rattle.kernel_model.specs.Contents.{byte, next_byte}
use Rattle.kernel_model.specs.Pages.{placed, next_placed, entered, next_entered}
use Rattle.kernel_model.specs.Mapping.{unmaps}
use Rattle.kernel_model.specs.declared.place.Place.TheVariants.{Absent}
use Rattle.kern_ids.specs.declared.ids.PageId.{PageId}
use Rattle.kernel_model.proofs.Laws.Pages.{placed-more, placed-none, entered-more, entered-none}
use Rattle.std.proofs.lemmas.List.{length-reverse, length-take-le}
use Rattle.kernel_model.proofs.Laws.History.{past-take}
use Rattle.kernel_model.proofs.Laws.State.{state-more, state-none}
use Rattle.kernel_model.proofs.Laws.Contents.{byte-more, byte-none}
use Rattle.kernel_model.proofs.Laws.Mapping.{live-more, live-none, said_maps-more, said_maps-none}

pub state_loop : (h : List Entry) (i : ℕ) (e : Entry) (o : ℕ) → i < length h → e ≡ get_or h i e → state (reverse (take (i + 1) h)) o ≡ next_state o (state (reverse (take i h)) o) e
state_loop h i e o l r = rw (past-take h i e l r) (state-more e (reverse (take i h)) o)

pub byte_loop : (h : List Entry) (i : ℕ) (e : Entry) (o b : ℕ) → i < length h → e ≡ get_or h i e → byte (reverse (take (i + 1) h)) o b ≡ next_byte (state (reverse (take i h)) o) o b (byte (reverse (take i h)) o b) e
byte_loop h i e o b l r = rw (past-take h i e l r) (byte-more e (reverse (take i h)) o b)

pub live_loop : (boot : System) (h : List Entry) (i : ℕ) (e : Entry) (t : ℕ) → i < length h → e ≡ get_or h i e → live boot (reverse (take (i + 1) h)) t ≡ next_live boot t (live boot (reverse (take i h)) t) e
live_loop boot h i e t l r = rw (past-take h i e l r) (live-more boot e (reverse (take i h)) t)

pub said_loop : (boot : System) (h : List Entry) (i : ℕ) (e : Entry) (o t : ℕ) → i < length h → e ≡ get_or h i e → said_maps boot (reverse (take (i + 1) h)) o t ≡ next_said boot o t (said_maps boot (reverse (take i h)) o t) e
said_loop boot h i e o t l r = rw (past-take h i e l r) (said_maps-more boot e (reverse (take i h)) o t)

pub state_none : (o : ℕ) → state [] o ≡ Nonvolatile
state_none o = state-none o

pub byte_none : (o b : ℕ) → byte [] o b ≡ 0
byte_none o b = byte-none o b

pub live_none : (boot : System) (t : ℕ) → live boot [] t ≡ true
live_none boot t = live-none boot t

pub said_none : (boot : System) (o t : ℕ) → said_maps boot [] o t ≡ false
said_none boot o t = said_maps-none boot o t

pub placed_none : (boot : System) (p : PageId) → placed boot [] p ≡ record { place = Absent; number = 0 }
placed_none boot p = placed-none boot p

-- the first i + 1 entries, newest first
pub past_loop : (h : List Entry) (i : ℕ) (e : Entry) → i < length h → e ≡ get_or h i e → reverse (take (i + 1) h) ≡ e ∷ reverse (take i h)
past_loop h i e l r = past-take h i e l r

pub past_length : (h : List Entry) (i : ℕ) → i < length h → length (reverse (take i h)) ≡ i
past_length h i l = length-reverse (take i h) ∙ length-take-le i h (omega arith)

pub placed_loop : (boot : System) (h : List Entry) (i : ℕ) (e : Entry) (p : PageId) → i < length h → e ≡ get_or h i e → placed boot (reverse (take (i + 1) h)) p ≡ next_placed (state (reverse (take i h)) p.obj) (unmaps boot (reverse (take i h)) e p.obj) i p (placed boot (reverse (take i h)) p) e
placed_loop boot h i e p l r = rw (past-take h i e l r) (rw (past_length h i l) at (placed-more boot e (reverse (take i h)) p))

pub entered_none : entered [] ≡ 0
entered_none = entered-none

pub entered_loop : (h : List Entry) (i : ℕ) (e : Entry) → i < length h → e ≡ get_or h i e → entered (reverse (take (i + 1) h)) ≡ next_entered (entered (reverse (take i h))) e
entered_loop h i e l r = rw (past-take h i e l r) (entered-more e (reverse (take i h)))
