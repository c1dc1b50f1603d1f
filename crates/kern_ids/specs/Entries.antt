-- The entries of a history.
use Rattle.std.specs.Prelude.{ℕ, ◌<◌, ◌≤◌, List, length}
use Rattle.kern_ids.specs.declared.calls.Call.{Call}
use Rattle.kern_ids.specs.declared.calls.Call.TheVariants.{Write, SetLimits}
use Rattle.kern_ids.specs.declared.replies.Reply.{Reply}
use Rattle.kern_ids.specs.declared.replies.Reply.TheVariants.{Bytes, Moved}
use Rattle.kern_ids.specs.declared.entries.Entry.{Entry}

-- the entries in order, and how many more there is room for
pub record Entries : Type 0 where
  pub list : List Entry
  pub spare : ℕ

-- a call whose text can be read back: its bytes are not none, its limits are in range
abbrev pub IsSoundCall : Call → Type 0
IsSoundCall (Write o off bytes) = 0 < length bytes
IsSoundCall (SetLimits t active inactive) = (active.pages ≤ 65536) × (inactive.pages ≤ 65536)
IsSoundCall _ = Unit {0}

-- a reply whose text can be read back: its bytes are not none, its page is in range
abbrev pub IsSoundReply : Reply → Type 0
IsSoundReply (Bytes bytes) = 0 < length bytes
IsSoundReply (Moved move page) = page.page < 256
IsSoundReply _ = Unit {0}

-- an entry whose text can be read back
pub record IsSound (e : Entry) : Type 0 where
  pub call : IsSoundCall e.call
  pub reply : IsSoundReply e.reply
