-- The state of a live task and of a mapped object after a history.
use Rattle.std.specs.Prelude.{ℕ, List}
use Rattle.kern_ids.specs.declared.entries.Entry.{Entry}
use Rattle.kernel_model.specs.System.{System}
use Rattle.kernel_model.specs.State.{state}
use Rattle.kernel_model.specs.Pages.{is_active, is_inactive, is_stored}
use Rattle.kernel_model.specs.Counted.{counts}
use Rattle.kernel_model.specs.Bands.{band, active}
use Rattle.kernel_model.specs.Laws.Frames.{pages_at}
use Rattle.kernel_tables.specs.declared.standing.LiveTask.{LiveTask}
use Rattle.kernel_tables.specs.declared.standing.MappedObject.{MappedObject}

abbrev pub live_task : System → List Entry → ℕ → LiveTask
live_task boot past t = record { band = band boot past t; active = active boot past t; counts = counts boot past t }

abbrev pub mapped_object : System → List Entry → ℕ → MappedObject
mapped_object boot past o = record {
  state = state past o;
  active = pages_at boot past is_active o;
  inactive = pages_at boot past is_inactive o;
  stored = pages_at boot past is_stored o;
}
