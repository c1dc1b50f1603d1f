-- Reading a reply: its first word says which it is, and what comes after it is in the ranges of the types.
use Rattle.std.specs.Prelude.{ℕ, zero, suc, ◌<◌, ◌≤◌, ◌^◌, List, [], ◌∷◌, length, Option, Some, None, Result, Ok, Err, find, codes, if◌then◌else◌}
use Rattle.std.specs.List.{AllByRecursion}
use Rattle.std.specs.Str.{bytes_eq}
use Rattle.kern_ids.specs.declared.faults.Why.{Why}
use Rattle.kern_ids.specs.declared.faults.Why.TheVariants as why
use Rattle.kern_ids.specs.declared.calls.State.{State}
use Rattle.kern_ids.specs.declared.calls.State.TheVariants as state
use Rattle.kern_ids.specs.declared.replies.Move.{Move}
use Rattle.kern_ids.specs.declared.replies.Move.TheVariants as move
use Rattle.kern_ids.specs.declared.replies.Cause.{Cause}
use Rattle.kern_ids.specs.declared.replies.Cause.TheVariants as cause
use Rattle.kern_ids.specs.declared.replies.QueueCounts.{QueueCounts}
use Rattle.kern_ids.specs.declared.replies.Refusal.{Refusal}
use Rattle.kern_ids.specs.declared.replies.Refusal.TheVariants.{Dead, NotMine, NoObject, Already, Invalid, Range, Emptied, Shortage}
use Rattle.kern_ids.specs.declared.replies.Reply.{Reply}
use Rattle.kern_ids.specs.declared.replies.Reply.TheVariants.{Mapped, Unmapped, Wrote, Bytes, Old, Is, Was, Pages, Exited, Purged, Nothing, Enough, Moved, Idle, Aged, Quiet, Killed, NoVictim, Banded, Limited, Frames, Tokens, Refused, Attached}
use Rattle.line_text.specs.Cut.{Word}
use Rattle.line_text.specs.Hex.{IsByteLine}
use Rattle.line_text.specs.Words.{◌>>=◌, choice, number, reference, hex, finished}
use Rattle.history_text.specs.Entries.{state_word, cause_word}
use Rattle.history_text.specs.declared.kind.Kind.{Kind}
use Rattle.history_text.specs.declared.kind.Kind.TheVariants as kind

-- ---- one of some things, by its word

abbrev pub named : {A : Type 0} → Option A → List Word → Result (A × List Word) Why
named None ws = Err why.Word
named (Some x) ws = Ok (x, ws)

-- the first word is that of one of these
abbrev pub one_of : {A : Type 0} → (A → Word) → List A → List Word → Result (A × List Word) Why
one_of text xs [] = Err why.Word
one_of text xs (w ∷ ws) = named (find (λ x. bytes_eq w (text x)) xs) ws

abbrev pub states : List State
states = state.Nonvolatile ∷ state.Volatile ∷ state.Empty ∷ []

abbrev pub causes : List Cause
causes = cause.Limit ∷ cause.HighWater ∷ cause.Pressure ∷ []

-- the first word of a refusal
abbrev pub refusal_word : Refusal → Word
refusal_word Dead = codes "dead"
refusal_word NotMine = codes "notmine"
refusal_word NoObject = codes "noobject"
refusal_word Already = codes "already"
refusal_word Invalid = codes "invalid"
refusal_word Range = codes "range"
refusal_word Emptied = codes "emptied"
refusal_word (Shortage needed free) = codes "shortage"

-- the refusals that are one word
abbrev pub bare_refusals : List Refusal
bare_refusals = Dead ∷ NotMine ∷ NoObject ∷ Already ∷ Invalid ∷ Range ∷ Emptied ∷ []

-- the first word of a reply
abbrev pub kind_text : Kind → Word
kind_text kind.Mapped = codes "mapped"
kind_text kind.Unmapped = codes "unmapped"
kind_text kind.Wrote = codes "wrote"
kind_text kind.Bytes = codes "bytes"
kind_text kind.Old = codes "old"
kind_text kind.State = codes "state"
kind_text kind.Was = codes "was"
kind_text kind.Pages = codes "pages"
kind_text kind.Exited = codes "exited"
kind_text kind.Purged = codes "purged"
kind_text kind.Nothing = codes "nothing"
kind_text kind.Enough = codes "enough"
kind_text kind.Deactivated = codes "deactivated"
kind_text kind.Reactivated = codes "reactivated"
kind_text kind.Freed = codes "freed"
kind_text kind.Compressed = codes "compressed"
kind_text kind.Requeued = codes "requeued"
kind_text kind.Idle = codes "idle"
kind_text kind.Aged = codes "aged"
kind_text kind.Quiet = codes "quiet"
kind_text kind.Killed = codes "killed"
kind_text kind.NoVictim = codes "novictim"
kind_text kind.Banded = codes "banded"
kind_text kind.Limited = codes "limited"
kind_text kind.Frames = codes "frames"
kind_text kind.Tokens = codes "tokens"
kind_text kind.Refused = codes "refused"
kind_text kind.Attached = codes "attached"

abbrev pub kinds : List Kind
kinds =
    kind.Mapped ∷ kind.Unmapped ∷ kind.Wrote ∷ kind.Bytes ∷ kind.Old ∷ kind.State ∷ kind.Was ∷ kind.Pages ∷ kind.Exited ∷ kind.Purged ∷ kind.Nothing ∷ kind.Enough
    ∷ kind.Deactivated ∷ kind.Reactivated ∷ kind.Freed ∷ kind.Compressed ∷ kind.Requeued ∷ kind.Idle ∷ kind.Aged ∷ kind.Quiet ∷ kind.Killed ∷ kind.NoVictim
    ∷ kind.Banded ∷ kind.Limited ∷ kind.Frames ∷ kind.Tokens ∷ kind.Refused ∷ kind.Attached ∷ []

-- the one that a word is
abbrev pub kind_of : Word → Option Kind
kind_of w = find (λ k. bytes_eq w (kind_text k)) kinds

-- ---- what comes after the first word

-- a number of 32 bits, a number of 64 bits
abbrev pub count : List Word → Result (ℕ × List Word) Why
count ws = number 0 0xffff_ffff ws

abbrev pub long_count : List Word → Result (ℕ × List Word) Why
long_count ws = number 0 0xffff_ffff_ffff_ffff ws

-- all words, at most so many tasks
unfoldable pub task_words : ℕ → List Word → Result (List ℕ) Why
task_words room [] = Ok []
task_words zero (w ∷ ws) = Err why.Limit
task_words (suc room) (w ∷ ws) = reference 63 64 (w ∷ ws) >>= λ t. task_words room t.1 >>= λ ts. Ok (t.0 ∷ ts)

unfoldable pub bytes_reply : List Word → Result Reply Why
bytes_reply ws = hex ws >>= λ b. finished b.1 (Bytes b.0)

unfoldable pub state_words : List Word → Result State Why
state_words ws = one_of state_word states ws >>= λ s. finished s.1 s.0

unfoldable pub was_reply : List Word → Result Reply Why
was_reply ws = choice (codes "1") (codes "0") ws >>= λ on. finished on.1 (Was on.0)

unfoldable pub pages_reply : List Word → Result Reply Why
pages_reply ws = do
  res_non ← count ws
  res_vol ← count res_non.1
  com_non ← count res_vol.1
  com_vol ← count com_non.1
  footprint ← count com_vol.1
  finished footprint.1 (Pages (record { res_non = res_non.0; res_vol = res_vol.0; com_non = com_non.0; com_vol = com_vol.0; footprint = footprint.0 }))

unfoldable pub purged_reply : List Word → Result Reply Why
purged_reply ws = reference 255 256 ws >>= λ o. finished o.1 (Purged o.0)

unfoldable pub moved_reply : Move → List Word → Result Reply Why
moved_reply m ws = do
  obj ← reference 255 256 ws
  page ← number 0 255 obj.1
  finished page.1 (Moved m (record { obj = obj.0; page = page.0 }))

unfoldable pub aged_reply : List Word → Result Reply Why
aged_reply ws = task_words 64 ws >>= λ ts. Ok (Aged ts)

unfoldable pub killed_reply : List Word → Result Reply Why
killed_reply ws = do
  task ← reference 63 64 ws
  cause ← one_of cause_word causes task.1
  finished cause.1 (Killed task.0 cause.0)

unfoldable pub frames_reply : List Word → Result Reply Why
frames_reply ws = do
  free ← count ws
  active ← count free.1
  inactive ← count active.1
  stored ← count inactive.1
  entered ← long_count stored.1
  left ← long_count entered.1
  finished left.1 (Frames (record { free = free.0; active = active.0; inactive = inactive.0; stored = stored.0; entered = entered.0; left = left.0 }))

unfoldable pub queue_words : List Word → Result (QueueCounts × List Word) Why
queue_words ws = do
  tokens ← count ws
  ripe ← count tokens.1
  next ← long_count ripe.1
  last ← long_count next.1
  Ok (record { tokens = tokens.0; ripe = ripe.0; next = next.0; last = last.0 }, last.1)

unfoldable pub tokens_reply : List Word → Result Reply Why
tokens_reply ws = do
  obsolete ← queue_words ws
  lifo ← queue_words obsolete.1
  fifo ← queue_words lifo.1
  finished fifo.1 (Tokens (record { obsolete = obsolete.0; lifo = lifo.0; fifo = fifo.0 }))

unfoldable pub shortage_words : List Word → Result Refusal Why
shortage_words ws = do
  needed ← count ws
  free ← count needed.1
  finished free.1 (Shortage needed.0 free.0)

unfoldable pub refusal_words : List Word → Result Refusal Why
refusal_words [] = Err why.Word
refusal_words (w ∷ ws) =
    if bytes_eq w (codes "shortage") then shortage_words ws else (one_of refusal_word bare_refusals (w ∷ ws) >>= λ r. finished r.1 r.0)

-- the reply that the words after the first are
unfoldable pub reply_by : Kind → List Word → Result Reply Why
reply_by kind.Mapped ws = finished ws Mapped
reply_by kind.Unmapped ws = finished ws Unmapped
reply_by kind.Wrote ws = finished ws Wrote
reply_by kind.Bytes ws = bytes_reply ws
reply_by kind.Old ws = state_words ws >>= λ s. Ok (Old s)
reply_by kind.State ws = state_words ws >>= λ s. Ok (Is s)
reply_by kind.Was ws = was_reply ws
reply_by kind.Pages ws = pages_reply ws
reply_by kind.Exited ws = finished ws Exited
reply_by kind.Purged ws = purged_reply ws
reply_by kind.Nothing ws = finished ws Nothing
reply_by kind.Enough ws = finished ws Enough
reply_by kind.Deactivated ws = moved_reply move.Deactivated ws
reply_by kind.Reactivated ws = moved_reply move.Reactivated ws
reply_by kind.Freed ws = moved_reply move.Freed ws
reply_by kind.Compressed ws = moved_reply move.Compressed ws
reply_by kind.Requeued ws = moved_reply move.Requeued ws
reply_by kind.Idle ws = finished ws Idle
reply_by kind.Aged ws = aged_reply ws
reply_by kind.Quiet ws = finished ws Quiet
reply_by kind.Killed ws = killed_reply ws
reply_by kind.NoVictim ws = finished ws NoVictim
reply_by kind.Banded ws = finished ws Banded
reply_by kind.Limited ws = finished ws Limited
reply_by kind.Frames ws = frames_reply ws
reply_by kind.Tokens ws = tokens_reply ws
reply_by kind.Refused ws = refusal_words ws >>= λ r. Ok (Refused r)
reply_by kind.Attached ws = finished ws Attached

-- the reply that words are
unfoldable pub reply_of : List Word → Result Reply Why
reply_of ws = one_of kind_text kinds ws >>= λ k. reply_by k.0 k.1

-- ---- the replies that have a text: their numbers and bytes are those that the types hold, and sound

abbrev pub HasQueue : QueueCounts → Type 0
HasQueue q = (q.tokens < 2 ^ 32) × (q.ripe < 2 ^ 32) × (q.next < 2 ^ 64) × (q.last < 2 ^ 64)

abbrev pub HasRefusal : Refusal → Type 0
HasRefusal (Shortage needed free) = (needed < 2 ^ 32) × (free < 2 ^ 32)
HasRefusal _ = Unit {0}

abbrev pub HasReply : Reply → Type 0
HasReply (Bytes bytes) = IsByteLine bytes
HasReply (Pages c) = (c.res_non < 2 ^ 32) × (c.res_vol < 2 ^ 32) × (c.com_non < 2 ^ 32) × (c.com_vol < 2 ^ 32) × (c.footprint < 2 ^ 32)
HasReply (Purged o) = o < 256
HasReply (Moved m page) = (page.obj < 256) × (page.page < 256)
HasReply (Aged tasks) = (length tasks ≤ 64) × AllByRecursion (λ t. t < 64) tasks
HasReply (Killed t c) = t < 64
HasReply (Frames f) = (f.free < 2 ^ 32) × (f.active < 2 ^ 32) × (f.inactive < 2 ^ 32) × (f.stored < 2 ^ 32) × (f.entered < 2 ^ 64) × (f.left < 2 ^ 64)
HasReply (Tokens t) = HasQueue t.obsolete × HasQueue t.lifo × HasQueue t.fifo
HasReply (Refused r) = HasRefusal r
HasReply _ = Unit {0}

-- the kind that a reply's text begins with
abbrev pub kind_of_move : Move → Kind
kind_of_move move.Deactivated = kind.Deactivated
kind_of_move move.Reactivated = kind.Reactivated
kind_of_move move.Freed = kind.Freed
kind_of_move move.Compressed = kind.Compressed
kind_of_move move.Requeued = kind.Requeued

abbrev pub kind_of_reply : Reply → Kind
kind_of_reply Mapped = kind.Mapped
kind_of_reply Unmapped = kind.Unmapped
kind_of_reply Wrote = kind.Wrote
kind_of_reply (Bytes bytes) = kind.Bytes
kind_of_reply (Old s) = kind.Old
kind_of_reply (Is s) = kind.State
kind_of_reply (Was on) = kind.Was
kind_of_reply (Pages counts) = kind.Pages
kind_of_reply Exited = kind.Exited
kind_of_reply (Purged o) = kind.Purged
kind_of_reply Nothing = kind.Nothing
kind_of_reply Enough = kind.Enough
kind_of_reply (Moved m page) = kind_of_move m
kind_of_reply Idle = kind.Idle
kind_of_reply (Aged tasks) = kind.Aged
kind_of_reply Quiet = kind.Quiet
kind_of_reply (Killed t c) = kind.Killed
kind_of_reply NoVictim = kind.NoVictim
kind_of_reply Banded = kind.Banded
kind_of_reply Limited = kind.Limited
kind_of_reply (Frames frames) = kind.Frames
kind_of_reply (Tokens tokens) = kind.Tokens
kind_of_reply (Refused refusal) = kind.Refused
kind_of_reply Attached = kind.Attached
