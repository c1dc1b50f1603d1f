-- What is purged for a ripe token.
use Rattle.std.specs.Prelude.{◌≡◌, List, Some}
use Rattle.kern_ids.specs.declared.entries.Entry.{Entry}
use Rattle.kernel_model.specs.System.{System}
use Rattle.kernel_model.specs.Groups.{standing}
use Rattle.kernel_model.specs.Deadlines.{ripe_queue}
use Rattle.kernel_model.specs.Choice.{pick}
use Rattle.purge_pick.specs.declared.choice.Pick.{Pick}

-- the object of the ripe purge, the ripe queue, and the queue in which the object stands
pub record IsPicked (boot : System) (past : List Entry) (p : Pick) : Type 0 where
  pub object : pick boot past ≡ Some p.obj
  pub token_queue : ripe_queue boot past ≡ Some p.token_queue
  pub object_queue : (standing past p.obj).queue ≡ p.object_queue
