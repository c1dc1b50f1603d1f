-- What a feed stands for.
use Rattle.std.specs.Prelude.{◌≡◌, ℕ, ◌+◌, ◌<◌, ◌^◌, List, [], ◌∷◌, ◌++◌, length, Option, Some, None, Result, Ok, Err, IfSome, option_to_list}
use Rattle.kern_ids.specs.declared.faults.Why.{Why}
use Rattle.kern_ids.specs.declared.entries.Entry.{Entry}
use Rattle.line_text.specs.Cut.{lines_of}
use Rattle.history_text.specs.Entries.{entry_text}
use Rattle.history_text.specs.EntryReading.{HasText, IsLineOf}
use Rattle.history_feed.specs.declared.expected.Expected.TheVariants as next
use Rattle.history_feed.specs.declared.feed.HistoryFeed.{HistoryFeed}
use Rattle.history_feed.specs.Lines.{line_end}
use Rattle.history_feed.specs.Kept.{kept_of}
use Rattle.history_feed.specs.Left.{Fault, Place, Said, said_of, moved, left_by, rest_behind}

-- the number of the line that the feed began with
abbrev pub first_line_of : HistoryFeed → ℕ
first_line_of f = f.first

-- no fault so far: the feed keeps this place, and facts on the bytes after the last line feed
pub record Keeps (f : HistoryFeed) (p : Place) (rest : List ℕ) : Type 0 where
  pub sound : f.fault ≡ None
  pub line : f.line ≡ p.line
  pub entries : f.entries ≡ length p.entries
  pub expected : f.expected ≡ p.next
  pub kept : f.rest ≡ kept_of rest

-- the feed keeps what is left, or the first fault
abbrev pub KeepsLeft : HistoryFeed → Result Place Fault → List ℕ → Type 0
KeepsLeft f (Ok p) rest = Keeps f p rest
KeepsLeft f (Err d) rest = f.fault ≡ Some d

-- what the feed keeps is what these bytes leave
abbrev pub StandsFor : HistoryFeed → List ℕ → Type 0
StandsFor f text = KeepsLeft f (left_by f.first text) (rest_behind text)

-- there was a fault, or the number of the line stays within 32 bits whatever these bytes are
abbrev pub HasRoom : HistoryFeed → ℕ → Type 0
HasRoom f more = f.fault ≡ None → f.line + f.rest.len + more < 2 ^ 32

-- bytes are taken up to the end of one line; after a fault all are
abbrev pub taken_until : Option Fault → List ℕ → ℕ
taken_until None piece = line_end (lines_of piece)
taken_until (Some d) piece = length piece

abbrev pub taken_of : HistoryFeed → List ℕ → ℕ
taken_of f piece = taken_until f.fault piece

-- the entry by which the entries grew; none where there is a fault
abbrev pub Gives : Option Entry → Result Place Fault → Result Place Fault → Type 0
Gives given (Ok p) (Ok q) = q.entries ≡ p.entries ++ option_to_list given
Gives given (Err f) (Ok q) = ⊥
Gives given left (Err f) = given ≡ None

-- the entry that a line is said to be, if it is one in its place
abbrev pub given_by : Result Said Why → Option Entry
given_by (Ok said) = said.entry
given_by (Err d) = None

-- the entry whose line is the first that is ended in these lines, after bytes that leave this
abbrev pub entry_ended : Result Place Fault → List ℕ → List (List ℕ) → Option Entry
entry_ended (Ok p) rest [] = None
entry_ended (Ok p) rest (last ∷ []) = None
entry_ended (Ok p) rest (line ∷ follows ∷ lines) = given_by (said_of p.next (length p.entries) (rest ++ line))
entry_ended (Err f) rest lines = None

-- bytes that are the text of an entry, which has one
pub record IsTextOf (bytes : List ℕ) (e : Entry) : Type 0 where
  pub text : bytes ≡ entry_text e
  pub sound : HasText e

-- after a line: what was said of it is kept, and its entry is given
pub record IsEnded (f : HistoryFeed) (given : Option Entry) (p : Place) (said : Result Said Why) : Type 0 where
  pub stands : KeepsLeft f (moved p said) []
  pub entry : given ≡ given_by said

-- what holds of the feed and of the entry given after bytes taken from a piece
pub record IsFed (old new : HistoryFeed) (given : Option Entry) (text piece taken : List ℕ) : Type 0 where
  pub stands : StandsFor new (text ++ taken)
  pub entry : given ≡ entry_ended (left_by old.first text) (rest_behind text) (lines_of piece)
  pub written : IfSome given (IsTextOf (rest_behind text ++ taken))
  pub gives : Gives given (left_by old.first text) (left_by old.first (text ++ taken))

-- the number of entries of a text that was read
abbrev pub count_of : Result (List Entry) Fault → Result ℕ Fault
count_of (Ok h) = Ok (length h)
count_of (Err f) = Err f

-- the piece begins with this line and ends it, no byte of it came before, and an entry may stand in its place
pub record IsNextLine (f : HistoryFeed) (piece line : List ℕ) : Type 0 where
  pub sound : f.fault ≡ None
  pub expected : f.expected ≡ next.Entries
  pub empty : f.rest.len ≡ 0
  pub few : f.entries < 200000
  pub behind : List ℕ
  pub cut : lines_of piece ≡ line ∷ lines_of behind

-- it is the line of some entry
abbrev pub IsEntryLine : List ℕ → Type 0
IsEntryLine line = (e : Entry) × IsLineOf line e
