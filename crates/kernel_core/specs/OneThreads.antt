-- What the kernel of one thread is seen as, and the bodies that it keeps.
use Rattle.std.specs.Prelude.{◌≡◌, ◌<◌, ℕ, List, length, slice_index_or}
use Rattle.kern_ids.specs.declared.entries.Entry.{Entry}
use Rattle.kernel_model.specs.System.{System}
use Rattle.page_store.specs.Contents.{Contents}
use Rattle.kernel_core.specs.Bodies.{content}

-- what it began with, and its entries in order
pub record OneThreadView : Type 0 where
  pub boot : System
  pub history : List Entry

-- there is a body for each object, with the bytes that the history gives to the object of its number
pub record HasBodies (boot : System) (h : List Entry) (bodies : List Contents) : Type 0 where
  pub count : length bodies ≡ length boot.objects
  pub bytes : (o : ℕ) (past_end : Contents) → o < length bodies → (slice_index_or bodies o past_end).bytes ≡ content h o
