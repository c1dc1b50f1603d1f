-- An Exit or a kill, which can unmap several objects at once.
use Rattle.std.specs.Prelude.{◌≡◌, ℕ, ◌+◌, List, Bool, true, false, ◌&&◌, not, Option, find, filter, count_by, sum_by, nat_eq}
use Rattle.std.specs.Option.{option_map_or}
use Rattle.kern_ids.specs.declared.entries.Entry.{Entry}
use Rattle.kern_ids.specs.declared.ids.PageId.{PageId}
use Rattle.kern_ids.specs.declared.calls.Call.{Call}
use Rattle.kern_ids.specs.declared.calls.Call.TheVariants.{Exit, Jetsam}
use Rattle.kern_ids.specs.declared.calls.State.{State}
use Rattle.kern_ids.specs.declared.replies.Counts.{Counts}
use Rattle.kern_ids.specs.declared.replies.Reply.{Reply}
use Rattle.kern_ids.specs.declared.replies.Reply.TheVariants.{Exited, Killed}
use Rattle.kernel_model.specs.declared.place.Place.{Place}
use Rattle.kernel_model.specs.declared.place.Place.TheVariants.{Absent}
use Rattle.kernel_model.specs.System.{System}
use Rattle.kernel_model.specs.Events.{is_end}
use Rattle.kernel_model.specs.Mapping.{maps, owner, tasks_of}
use Rattle.kernel_model.specs.State.{state}
use Rattle.kernel_model.specs.Groups.{objects_of, is_volatile_state}
use Rattle.kernel_model.specs.Pages.{place, placed, pages_of, is_active, is_inactive, is_stored, active_pages, inactive_pages, stored_pages, free}
use Rattle.kernel_model.specs.Counted.{counts, count_of, is_nonvolatile_state}
use Rattle.kernel_model.specs.Laws.Frames.{pages_at, share_of, is_in}
use Rattle.kernel_model.specs.Laws.Next.{Step, after, unmapped_in}

abbrev pub is_ending_reply : Call → Reply → Bool
is_ending_reply Exit Exited = true
is_ending_reply Jetsam (Killed t cause) = true
is_ending_reply _ _ = false

-- the entry is an accepted Exit or a kill
abbrev pub IsEnding : Step → Type 0
IsEnding s = is_ending_reply s.entry.call s.entry.reply ≡ true

-- t maps o, and the entry doesn't end it
abbrev pub still_maps : Step → ℕ → ℕ → Bool
still_maps s o t = not (is_end s.boot t s.entry) && maps s.boot s.before o t

-- the least task that still maps o
abbrev pub heir : Step → ℕ → Option ℕ
heir s o = find (still_maps s o) (tasks_of s.boot)

-- how many pages are in such a place
abbrev pub pages_where : System → List Entry → (Place → Bool) → ℕ
pages_where boot past k = count_by (λ p. k (place boot past p)) (pages_of boot)

-- and how many of them are pages of objects with a test
abbrev pub pages_among : System → List Entry → (ℕ → Bool) → (Place → Bool) → ℕ
pages_among boot past test k = sum_by (pages_at boot past k) (filter test (objects_of boot))

-- those of the objects that the entry unmaps
abbrev pub unmapped_pages : Step → (Place → Bool) → ℕ
unmapped_pages s k = pages_among s.boot s.before (unmapped_in s) k

abbrev pub owns : System → List Entry → ℕ → ℕ → Bool
owns boot past t o = option_map_or (nat_eq t) (owner boot past o) false

-- o gets t for its owner, and is in such a state
abbrev pub inherits : Step → ℕ → (State → Bool) → ℕ → Bool
inherits s t what o = (not (owns s.boot s.before t o) && option_map_or (nat_eq t) (heir s o) false) && what (state s.before o)

abbrev pub inherited_pages : Step → ℕ → (Place → Bool) → (State → Bool) → ℕ
inherited_pages s t k what = pages_among s.boot s.before (inherits s t what) k

-- the counts of a task and those of the pages that it inherits
abbrev pub counts_inheriting : Step → ℕ → Counts
counts_inheriting s t = record {
  res_non = (counts s.boot s.before t).res_non + inherited_pages s t is_in is_nonvolatile_state;
  res_vol = (counts s.boot s.before t).res_vol + inherited_pages s t is_in is_volatile_state;
  com_non = (counts s.boot s.before t).com_non + inherited_pages s t is_stored is_nonvolatile_state;
  com_vol = (counts s.boot s.before t).com_vol + inherited_pages s t is_stored is_volatile_state;
  footprint = ((counts s.boot s.before t).res_non + inherited_pages s t is_in is_nonvolatile_state) + ((counts s.boot s.before t).com_non + inherited_pages s t is_stored is_nonvolatile_state);
}

abbrev pub no_counts : Counts
no_counts = record { res_non = 0; res_vol = 0; com_non = 0; com_vol = 0; footprint = 0 }

-- what the objects with a test add to the pages of t
abbrev pub shares_among : System → List Entry → (ℕ → Bool) → ℕ → (Place → Bool) → (State → Bool) → ℕ
shares_among boot past test t k what = sum_by (share_of boot past t k what) (filter test (objects_of boot))

-- how many pages of t are in such places, of objects in such states
abbrev pub task_pages : System → List Entry → ℕ → (Place → Bool) → (State → Bool) → ℕ
task_pages boot past t k what = count_of boot past t (λ p. k (place boot past p)) what

-- no page of an object without the test changes its place, and none of them adds another number to the pages of t
abbrev pub KeepsPlaces : Step → (ℕ → Bool) → Type 0
KeepsPlaces s test = (p : PageId) → test p.obj ≡ false → placed s.boot (after s) p ≡ placed s.boot s.before p

abbrev pub KeepsShares : Step → (ℕ → Bool) → ℕ → (Place → Bool) → (State → Bool) → Type 0
KeepsShares s test t k what = (o : ℕ) → test o ≡ false → share_of s.boot (after s) t k what o ≡ share_of s.boot s.before t k what o

-- the pages of the objects with a test are Absent
abbrev pub AreAbsent : Step → (ℕ → Bool) → Type 0
AreAbsent s test = (p : PageId) → test p.obj ≡ true → place s.boot (after s) p ≡ Absent

-- each number of pages falls by those of the objects that the entry unmaps
pub record LosesPages (s : Step) : Type 0 where
  pub active : active_pages s.boot (after s) + unmapped_pages s is_active ≡ active_pages s.boot s.before
  pub inactive : inactive_pages s.boot (after s) + unmapped_pages s is_inactive ≡ inactive_pages s.boot s.before
  pub stored : stored_pages s.boot (after s) + unmapped_pages s is_stored ≡ stored_pages s.boot s.before

-- their frames are free
abbrev pub FreesUnmapped : Step → Type 0
FreesUnmapped s = free s.boot (after s) ≡ free s.boot s.before + unmapped_pages s is_in

-- t has its pages and those that it inherits
abbrev pub HasInherited : Step → ℕ → Type 0
HasInherited s t = counts s.boot (after s) t ≡ counts_inheriting s t

-- what the objects with the test had goes, and what they have now comes: pages in a place, and pages of a task
abbrev pub ChangesPages : Step → (ℕ → Bool) → (Place → Bool) → Type 0
ChangesPages s test k =
    pages_where s.boot (after s) k + pages_among s.boot s.before test k ≡ pages_where s.boot s.before k + pages_among s.boot (after s) test k

abbrev pub ChangesShares : Step → (ℕ → Bool) → ℕ → (Place → Bool) → (State → Bool) → Type 0
ChangesShares s test t k what =
    task_pages s.boot (after s) t k what + shares_among s.boot s.before test t k what ≡ task_pages s.boot s.before t k what + shares_among s.boot (after s) test t k what

-- so the pages of each task to which the others add what they did change by what those with the test add
abbrev pub CountsByShares : Step → (ℕ → Bool) → Type 0
CountsByShares s test = (t : ℕ) (k : Place → Bool) (what : State → Bool) → KeepsShares s test t k what → ChangesShares s test t k what
