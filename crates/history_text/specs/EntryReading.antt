-- Reading an entry.
use Rattle.std.specs.Prelude.{◌≡◌, ℕ, ◌<◌, ◌≤◌, List, [], ◌∷◌, length, take, drop, Option, Some, None, Result, Ok, Err, codes, nat_eq, if◌then◌else◌}
use Rattle.std.specs.List.{starts_with}
use Rattle.kern_ids.specs.declared.faults.Why.{Why}
use Rattle.kern_ids.specs.declared.faults.Why.TheVariants as why
use Rattle.kern_ids.specs.declared.entries.Entry.{Entry}
use Rattle.line_text.specs.Cut.{Word, words_of, line_of}
use Rattle.line_text.specs.Words.{◌>>=◌, reference}
use Rattle.line_text.specs.Verbs.{verb_of}
use Rattle.line_text.specs.Calls.{call_of, HasLine}
use Rattle.history_text.specs.Entries.{entry_words, entry_text}
use Rattle.history_text.specs.ReplyReading.{named, reply_of, HasReply}
use Rattle.line_text.specs.declared.verb.Verb.{Verb}

abbrev pub Parts : Type 0
Parts = List ℕ × List ℕ

-- a byte before the first part
abbrev pub with_first : ℕ → Option Parts → Option Parts
with_first b None = None
with_first b (Some parts) = Some (b ∷ parts.0, parts.1)

-- the part before the first sign, and the part after it
abbrev pub sign_cut : List ℕ → Option Parts
sign_cut [] = None
sign_cut (b ∷ bs) = if starts_with nat_eq (b ∷ bs) (codes " = ") then Some ([], drop 2 bs) else with_first b (sign_cut bs)

-- the call word that is next
abbrev pub verb_word : List Word → Result (Verb × List Word) Why
verb_word [] = Err why.Word
verb_word (w ∷ ws) = named (verb_of w) ws

-- an entry by the words before the sign, thread and call, and those after it, the reply; every thread, task and object that the types hold is known
unfoldable pub entry_parts : List Word → List Word → Result Entry Why
entry_parts front back = do
  who ← reference 31 32 front
  verb ← verb_word who.1
  call ← call_of 64 256 verb.0 verb.1
  reply ← reply_of back
  Ok (record { who = who.0; call = call; reply = reply })

abbrev pub entry_cut : Option Parts → Result Entry Why
entry_cut None = Err why.Word
entry_cut (Some parts) = entry_parts (words_of parts.0) (words_of parts.1)

-- the entry that a line is, without its line feed
unfoldable pub entry_of : List ℕ → Result Entry Why
entry_of line = entry_cut (sign_cut line)

-- an entry that has a text: what it names, its numbers and its bytes are those that the types hold, and sound
pub record HasText (e : Entry) : Type 0 where
  pub who : e.who < 32
  pub call : HasLine 64 256 e.call
  pub reply : HasReply e.reply

-- the first n bytes are the text of an entry
abbrev pub BeginsWith : List ℕ → Entry → ℕ → Type 0
BeginsWith bytes e n = (n ≤ length bytes) × (take n bytes ≡ entry_text e)

-- the line is that of the entry, without its line feed, and the entry has a text
pub record IsLineOf (line : List ℕ) (e : Entry) : Type 0 where
  pub words : line ≡ line_of (entry_words e)
  pub text : HasText e
