-- What has a text is sound.
use Rattle.std.proofs.Common.{ℕ}
use Rattle.kern_ids.specs.Entries.{IsSoundCall, IsSoundReply, IsSound}
use Rattle.kern_ids.specs.declared.calls.Call.{Call}
use Rattle.kern_ids.specs.declared.calls.Call.TheVariants.{Map, Unmap, Write, Read, SetState, GetState, Active, Ledger, Exit, PurgeOne, Forced, Scan, Tick, Jetsam, SetBand, SetLimits, Info, Purgeables, Attach}
use Rattle.kern_ids.specs.declared.replies.Reply.{Reply}
use Rattle.kern_ids.specs.declared.replies.Reply.TheVariants.{Mapped, Unmapped, Wrote, Bytes, Old, Is, Was, Pages, Exited, Purged, Nothing, Enough, Moved, Idle, Aged, Quiet, Killed, NoVictim, Banded, Limited, Frames, Tokens, Refused, Attached}
use Rattle.kern_ids.specs.declared.entries.Entry.{Entry}
use Rattle.line_text.specs.Calls.{HasLine}
use Rattle.history_text.specs.ReplyReading.{HasReply}
use Rattle.history_text.specs.EntryReading.{HasText}

sound_call : (tasks objects : ℕ) (c : Call) → HasLine tasks objects c → IsSoundCall c
sound_call tasks objects (Write o off bytes) h = let b = h.2 in b.0
sound_call tasks objects (SetLimits t a i) h = (h.1, h.2)
sound_call tasks objects (Map o) h = tt
sound_call tasks objects (Attach o) h = tt
sound_call tasks objects (Unmap o) h = tt
sound_call tasks objects (Read o off len) h = tt
sound_call tasks objects (SetState o word) h = tt
sound_call tasks objects (GetState o) h = tt
sound_call tasks objects (Active on) h = tt
sound_call tasks objects (SetBand t band) h = tt
sound_call tasks objects Ledger h = tt
sound_call tasks objects Exit h = tt
sound_call tasks objects PurgeOne h = tt
sound_call tasks objects Forced h = tt
sound_call tasks objects Scan h = tt
sound_call tasks objects Tick h = tt
sound_call tasks objects Jetsam h = tt
sound_call tasks objects Info h = tt
sound_call tasks objects Purgeables h = tt

sound_reply : (r : Reply) → HasReply r → IsSoundReply r
sound_reply (Bytes bytes) h = h.0
sound_reply (Moved m page) h = h.1
sound_reply Mapped h = tt
sound_reply Unmapped h = tt
sound_reply Wrote h = tt
sound_reply (Old s) h = tt
sound_reply (Is s) h = tt
sound_reply (Was on) h = tt
sound_reply (Pages c) h = tt
sound_reply Exited h = tt
sound_reply (Purged o) h = tt
sound_reply Nothing h = tt
sound_reply Enough h = tt
sound_reply Idle h = tt
sound_reply (Aged tasks) h = tt
sound_reply Quiet h = tt
sound_reply (Killed t c) h = tt
sound_reply NoVictim h = tt
sound_reply Banded h = tt
sound_reply Limited h = tt
sound_reply (Frames f) h = tt
sound_reply (Tokens t) h = tt
sound_reply (Refused r) h = tt
sound_reply Attached h = tt

pub text_sound : (e : Entry) → HasText e → IsSound e
text_sound e h = record { call = sound_call 64 256 e.call h.call; reply = sound_reply e.reply h.reply }
