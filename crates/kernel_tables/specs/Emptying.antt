-- An entry that empties one object and leaves all else: a purge, or an accepted SetState that asks for EMPTY of an object that isn't.
use Rattle.std.specs.Prelude.{◌≡◌, ℕ, List, ◌∷◌, true, false, nat_eq, if◌then◌else◌}
use Rattle.kern_ids.specs.declared.entries.Entry.{Entry}
use Rattle.kern_ids.specs.declared.ids.PageId.{PageId}
use Rattle.kern_ids.specs.declared.calls.State.TheVariants.{Empty}
use Rattle.kernel_model.specs.declared.place.Place.TheVariants.{Absent}
use Rattle.kernel_model.specs.System.{System}
use Rattle.kernel_model.specs.Mapping.{live, maps}
use Rattle.kernel_model.specs.State.{state}
use Rattle.kernel_model.specs.Pages.{place, placed, touched_since, written, entered}
use Rattle.kernel_model.specs.Bands.{active, limits}

-- object o is EMPTY after the entry, its pages are Absent and none of them is written; the pages of the others stay where they are, and
-- their states stay; no page is deactivated; and no task begins or ends to map an object, ends, or changes its activity or its limits
pub record IsEmptying (boot : System) (e : Entry) (before : List Entry) (o : ℕ) : Type 0 where
  pub gone : (p : PageId) → nat_eq o p.obj ≡ true → place boot (e ∷ before) p ≡ Absent
  pub unwritten : (p : PageId) → nat_eq o p.obj ≡ true → written (e ∷ before) p ≡ false
  pub states : (x : ℕ) → state (e ∷ before) x ≡ (if nat_eq o x then Empty else state before x)
  pub places_kept : (p : PageId) → nat_eq o p.obj ≡ false → placed boot (e ∷ before) p ≡ placed boot before p
  pub marks_kept : (p : PageId) → nat_eq o p.obj ≡ false → touched_since boot (e ∷ before) p ≡ touched_since boot before p
  pub written_kept : (p : PageId) → nat_eq o p.obj ≡ false → written (e ∷ before) p ≡ written before p
  pub none_entered : entered (e ∷ before) ≡ entered before
  pub mappers_kept : (x t : ℕ) → maps boot (e ∷ before) x t ≡ maps boot before x t
  pub lives_kept : (t : ℕ) → live boot (e ∷ before) t ≡ live boot before t
  pub activity_kept : (t : ℕ) → active boot (e ∷ before) t ≡ active boot before t
  pub limits_kept : (t : ℕ) → limits boot (e ∷ before) t ≡ limits boot before t
