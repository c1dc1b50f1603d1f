-- Lines of a history's text that are replayed unread.
use Rattle.std.specs.Prelude.{◌≡◌, ℕ, ◌<◌, ◌^◌, List, [], ◌∷◌, ◌++◌, true, codes, slice_index, None}
use Rattle.std.specs.Fmt.{decimal}
use Rattle.kern_ids.specs.declared.calls.Call.{Call}
use Rattle.kern_ids.specs.declared.entries.Entry.{Entry}
use Rattle.kernel_model.specs.Scenario.{Plan}
use Rattle.line_text.specs.Cut.{line_of}
use Rattle.line_text.specs.Calls.{call_words}
use Rattle.history_text.specs.EntryReading.{IsLineOf}
use Rattle.replay_check.specs.declared.line_replay.LineReplay.{LineReplay}
use Rattle.replay_check.specs.declared.line_replay.LineReplay.TheVariants.{Right, Wrong, Unread}
use Rattle.replay_check.specs.Verdicts.{is_call_at}
use Rattle.replay_check.specs.Replays.{ReplayView, StandsFor}

-- the line of an entry up to its reply: thread, call and sign
abbrev pub front_text : ℕ → Call → List ℕ
front_text who call = line_of (decimal who ∷ call_words call) ++ codes " = "

-- the call is the next of its thread's script, of which so many were made
pub record IsNextCall (s : Plan) (made : List ℕ) (who : ℕ) (call : Call) : Type 0 where
  pub thread : who < 32
  pub next : is_call_at s who call (slice_index made who) ≡ true

-- the line begins with a number and a space
abbrev pub BeginsWithNumber : List ℕ → Type 0
BeginsWithNumber line = (n : ℕ) × (rest : List ℕ) × (n < 2 ^ 64) × (line ≡ decimal n ++ 32 ∷ rest)

-- it is the line of no entry whose call is the next of its thread's script; after a fault it may be any line
abbrev pub IsNotDue : Plan → List ℕ → ReplayView → Type 0
IsNotDue s line r = (e : Entry) → r.fault ≡ None → IsLineOf line e → IsNextCall s r.made e.who e.call → ⊥

-- What a replay makes of a line. It is an entry's, and that was taken; or whatever entry it may be the line of was taken, and it
-- isn't the closing line; or nothing was done, as no such entry is due.
abbrev pub IsReplayed : LineReplay → Plan → List ℕ → ReplayView → ReplayView → Type 0
IsReplayed Right s line old new = (e : Entry) × IsLineOf line e × ((es : List Entry) → StandsFor s es old → StandsFor s (es ++ e ∷ []) new)
IsReplayed Wrong s line old new = BeginsWithNumber line × ((es : List Entry) (e : Entry) → IsLineOf line e → StandsFor s es old → StandsFor s (es ++ e ∷ []) new)
IsReplayed Unread s line old new = (new ≡ old) × IsNotDue s line old
