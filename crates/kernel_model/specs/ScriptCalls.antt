-- A call as a script keeps it: what it asks for, and beside it the bytes that it writes.
use Rattle.std.specs.Prelude.{ℕ, List, []}
use Rattle.kern_ids.specs.declared.calls.Call.{Call}
use Rattle.kern_ids.specs.declared.calls.Call.TheVariants as call
use Rattle.kernel_model.specs.declared.call_head.CallHead.{CallHead}
use Rattle.kernel_model.specs.declared.call_head.CallHead.TheVariants as head

-- the call with this head, which writes these bytes where it is a Write
abbrev pub call_of : CallHead → List ℕ → Call
call_of (head.Map obj) bytes = call.Map obj
call_of (head.Unmap obj) bytes = call.Unmap obj
call_of (head.Write obj off) bytes = call.Write obj off bytes
call_of (head.Read obj off len) bytes = call.Read obj off len
call_of (head.SetState obj word) bytes = call.SetState obj word
call_of (head.GetState obj) bytes = call.GetState obj
call_of (head.Active on) bytes = call.Active on
call_of head.Ledger bytes = call.Ledger
call_of head.Exit bytes = call.Exit
call_of head.PurgeOne bytes = call.PurgeOne
call_of head.Forced bytes = call.Forced
call_of head.Scan bytes = call.Scan
call_of head.Tick bytes = call.Tick
call_of head.Jetsam bytes = call.Jetsam
call_of (head.SetBand task band) bytes = call.SetBand task band
call_of (head.SetLimits task active inactive) bytes = call.SetLimits task active inactive
call_of head.Info bytes = call.Info
call_of head.Purgeables bytes = call.Purgeables
call_of (head.Attach obj) bytes = call.Attach obj

-- the bytes that a call writes
abbrev pub written : Call → List ℕ
written (call.Write obj off bytes) = bytes
written _ = []
