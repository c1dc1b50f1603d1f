-- What the history gives to the body of an object.
use Rattle.std.specs.Prelude.{ℕ, List, reverse}
use Rattle.kern_ids.specs.declared.calls.Call.{Call}
use Rattle.kern_ids.specs.declared.entries.Entry.{Entry}
use Rattle.kern_ids.specs.declared.replies.Reply.{Reply}
use Rattle.kernel_model.specs.Contents.{byte}
use Rattle.page_store.specs.Contents.{bytes_of}

-- the bytes of object o that aren't 0, after these entries, newest first
abbrev pub content_after : List Entry → ℕ → List (ℕ × ℕ)
content_after past o = bytes_of (byte past o)

-- the same of a history in order
abbrev pub content : List Entry → ℕ → List (ℕ × ℕ)
content h o = content_after (reverse h) o

-- the entry of a call with its reply
abbrev pub made : ℕ → Call → Reply → Entry
made who call reply = record { who = who; call = call; reply = reply }
