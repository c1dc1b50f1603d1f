-- Pages that are somewhere.
use Rattle.std.specs.Prelude.{◌≡◌, ◌<◌, List, length, Bool, true, false}
use Rattle.kern_ids.specs.declared.entries.Entry.{Entry}
use Rattle.kern_ids.specs.declared.ids.PageId.{PageId}
use Rattle.kernel_model.specs.declared.place.Place.{Place}
use Rattle.kernel_model.specs.declared.place.Place.TheVariants.{Absent}
use Rattle.kernel_model.specs.System.{System}
use Rattle.kernel_model.specs.Mapping.{mapped}
use Rattle.kernel_model.specs.Pages.{place, placed}

abbrev pub is_absent : Place → Bool
is_absent Absent = true
is_absent _ = false

-- each page that isn't Absent was placed by an entry of the history
abbrev pub ArePlaced : System → List Entry → Type 0
ArePlaced boot past = (p : PageId) → is_absent (place boot past p) ≡ false → (placed boot past p).number < length past

-- each page that isn't Absent is one of a mapped object
abbrev pub AreMapped : System → List Entry → Type 0
AreMapped boot past = (p : PageId) → is_absent (place boot past p) ≡ false → mapped boot past p.obj ≡ true
