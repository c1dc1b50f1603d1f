-- Why an entry was answered as it was.
use Rattle.std.specs.Prelude.{ℕ, List, [], ◌∷◌, ◌++◌, length, codes, Bool, true, false, ◌&&◌, ◌||◌, not, Option, Some, None, option_map, option_and_then, slice_get, reverse, take, is_some}
use Rattle.std.specs.Option.{unwrap_or}
use Rattle.std.specs.Fmt.{decimal}
use Rattle.kern_ids.specs.declared.entries.Entry.{Entry}
use Rattle.kern_ids.specs.declared.calls.Call.{Call}
use Rattle.kern_ids.specs.declared.calls.Call.TheVariants.{SetState, GetState, PurgeOne, Forced, Scan}
use Rattle.kern_ids.specs.declared.calls.Queue.{Queue}
use Rattle.kern_ids.specs.declared.calls.Queue.TheVariants.{Obsolete, Lifo, Fifo}
use Rattle.kern_ids.specs.declared.calls.State.{State}
use Rattle.kern_ids.specs.declared.calls.State.TheVariants.{Empty}
use Rattle.kern_ids.specs.declared.replies.Cause.{Cause}
use Rattle.kern_ids.specs.declared.replies.Reply.{Reply}
use Rattle.kern_ids.specs.declared.replies.Reply.TheVariants.{Old, Is, Purged, Killed}
use Rattle.kernel_model.specs.System.{System}
use Rattle.kernel_model.specs.Newest.{newest}
use Rattle.kernel_model.specs.Lists.{some_if}
use Rattle.kernel_model.specs.Events.{is_purge}
use Rattle.kernel_model.specs.State.{state, is_empty}
use Rattle.kernel_model.specs.Contents.{asks_empty}
use Rattle.kernel_model.specs.Pages.{free, left}
use Rattle.kernel_model.specs.Groups.{standing}
use Rattle.kernel_model.specs.Deadlines.{deadlines, of_queue, ripe_queue}
use Rattle.kernel_model.specs.Counted.{counts}
use Rattle.kernel_model.specs.Bands.{band, present_limit}
use Rattle.line_text.specs.Cut.{Word}
use Rattle.history_text.specs.Entries.{entry_text, cause_word}
use Rattle.report_tables.specs.Table.{line_text}
use Rattle.report_tables.specs.declared.reason.Reason.{Reason}
use Rattle.report_tables.specs.declared.reason.Reason.TheVariants as why

-- o, which was in this state, was emptied, otherwise than by a Map: by a purge, or by an accepted SetState EMPTY where it wasn't EMPTY
abbrev pub emptied_by : State → ℕ → Entry → Bool
emptied_by was o e = is_purge o e || (asks_empty o e && not (is_empty was))

abbrev pub says_emptied : ℕ → List Entry → Option ℕ → Entry → Option (Option ℕ)
says_emptied o before was e = some_if (emptied_by (state before o) o e) (Some (length before))

-- the number of the newest entry that emptied o so
unfoldable pub emptied_at : List Entry → ℕ → Option ℕ
emptied_at past o = newest (says_emptied o) None past

-- the same after entry n
unfoldable pub next_emptied : State → ℕ → ℕ → Option ℕ → Entry → Option ℕ
next_emptied was o n found e = unwrap_or (some_if (emptied_by was o e) (Some n)) found

-- the first deadline of a list, 0 of none
abbrev pub first_deadline : List ℕ → ℕ
first_deadline [] = 0
first_deadline (d ∷ ds) = d

-- a purge of o by a ripe token of queue q
abbrev pub ripe_reason : System → List Entry → ℕ → Queue → Reason
ripe_reason boot before o q =
    why.Ripe q (first_deadline (of_queue (deadlines boot before) q)) (left boot before) (standing before o).group o (standing before o).queue

abbrev pub forced_reason : List Entry → ℕ → Reason
forced_reason before o = why.Forced (standing before o).queue (standing before o).group o

-- a purge of o by this call
abbrev pub purge_reason : System → List Entry → Call → ℕ → Option Reason
purge_reason boot before PurgeOne o = option_map (ripe_reason boot before o) (ripe_queue boot before)
purge_reason boot before Scan o = option_map (ripe_reason boot before o) (ripe_queue boot before)
purge_reason boot before Forced o = Some (forced_reason before o)
purge_reason boot before _ o = None

abbrev pub killed_reason : System → List Entry → ℕ → Cause → Reason
killed_reason boot before t cause = why.Killed cause (band boot before t) (counts boot before t).footprint (present_limit boot before t).pages (free boot before)

-- the object of a SetState, and of a GetState
abbrev pub set_object : Call → Option ℕ
set_object (SetState o word) = Some o
set_object _ = None

abbrev pub asked_object : Call → Option ℕ
asked_object (GetState o) = Some o
asked_object _ = None

-- the answer that an object is in this state
abbrev pub state_reason : List Entry → State → Option ℕ → Option Reason
state_reason before Empty o = option_map why.Emptied (option_and_then (emptied_at before) o)
state_reason before _ o = None

-- why this call had this reply after these entries, newest first: a ripe or a forced purge, a kill, or a SetState or GetState that answers EMPTY
abbrev pub reason_of : System → List Entry → Call → Reply → Option Reason
reason_of boot before call (Purged o) = purge_reason boot before call o
reason_of boot before call (Killed t cause) = Some (killed_reason boot before t cause)
reason_of boot before call (Old old) = state_reason before old (set_object call)
reason_of boot before call (Is now) = state_reason before now (asked_object call)
reason_of boot before call _ = None

-- the answers that have a reason: a purge, a kill, and a SetState or GetState that answers EMPTY
abbrev pub has_reason : Call → Reply → Bool
has_reason call (Purged o) = true
has_reason call (Killed t cause) = true
has_reason call (Old old) = is_empty old && is_some (set_object call)
has_reason call (Is now) = is_empty now && is_some (asked_object call)
has_reason call _ = false

abbrev pub queue_word : Queue → Word
queue_word Obsolete = codes "obsolete"
queue_word Lifo = codes "lifo"
queue_word Fifo = codes "fifo"

abbrev pub reason_words : Reason → List Word
reason_words (why.Ripe tokens deadline gone group o from) =
    codes "because" ∷ codes "ripe" ∷ queue_word tokens ∷ codes "deadline" ∷ decimal deadline ∷ codes "left" ∷ decimal gone
    ∷ codes "group" ∷ decimal group ∷ codes "object" ∷ decimal o ∷ codes "from" ∷ queue_word from ∷ []
reason_words (why.Forced queue group o) = codes "because" ∷ codes "forced" ∷ queue_word queue ∷ codes "group" ∷ decimal group ∷ codes "object" ∷ decimal o ∷ []
reason_words (why.Killed cause band footprint limit frames) =
    codes "because" ∷ cause_word cause ∷ codes "band" ∷ decimal band ∷ codes "footprint" ∷ decimal footprint ∷ codes "limit" ∷ decimal limit
    ∷ codes "free" ∷ decimal frames ∷ []
reason_words (why.Emptied entry) = codes "because" ∷ codes "emptied" ∷ codes "at" ∷ codes "entry" ∷ decimal entry ∷ []

-- the second line, where there is one
abbrev pub reason_text : Option Reason → List ℕ
reason_text None = []
reason_text (Some reason) = line_text (reason_words reason)

-- an entry with its number, and its reason
unfoldable pub entry_why : System → List Entry → ℕ → Entry → List ℕ
entry_why boot before n e = (codes "entry " ++ decimal n ++ codes ": ") ++ entry_text e ++ reason_text (reason_of boot before e.call e.reply)

-- the same of entry n of a history, over the entries before it, if there is such an entry
abbrev pub why_text : System → List Entry → ℕ → Option (List ℕ)
why_text boot h n = option_map (entry_why boot (reverse (take n h)) n) (slice_get h n)
