-- What a body has to do with the range of a call.
use Rattle.std.specs.Prelude.{◌≡◌, ◌+◌, ◌≤◌, ℕ, List, length, map, Bool, true, false, not}
use Rattle.std.specs.List.{range_with_len}
use Rattle.kern_ids.specs.declared.calls.Call.{Call}
use Rattle.kern_ids.specs.declared.calls.Call.TheVariants.{Write, Read}
use Rattle.kern_ids.specs.declared.replies.Reply.{Reply}
use Rattle.kernel_model.specs.Events.{is_reply}
use Rattle.kernel_model.specs.System.{System}
use Rattle.kernel_model.specs.Answers.{bad_range}
use Rattle.page_store.specs.Contents.{Contents, byte_at, IsRangePrepared}

-- a Write in range can write the body
abbrev pub IsPreparedFor : System → Call → Contents → Type 0
IsPreparedFor boot (Write o off bytes) body = bad_range boot o off (length bytes) ≡ false → IsRangePrepared body off (length bytes)
IsPreparedFor boot _ body = Unit {0}

-- a Write that is accepted is in range
abbrev pub IsWriteInRange : System → Call → Reply → Type 0
IsWriteInRange boot (Write o off bytes) reply = is_reply reply ≡ true → bad_range boot o off (length bytes) ≡ false
IsWriteInRange boot _ reply = Unit {0}

-- the call is a Read in range
abbrev pub reads_in_range : System → Call → Bool
reads_in_range boot (Read o off len) = not (bad_range boot o off len)
reads_in_range boot _ = false

-- a Read in range sees the bytes of its range
abbrev pub IsSeenOf : System → Call → List (ℕ × ℕ) → List ℕ → Type 0
IsSeenOf boot (Read o off len) body seen = bad_range boot o off len ≡ false → (off + len ≤ 1048576) × (seen ≡ map (byte_at body) (range_with_len off len))
IsSeenOf boot _ body seen = Unit {0}
