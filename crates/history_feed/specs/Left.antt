-- What the bytes of a history leave, line by line, wherever they stop.
use Rattle.std.specs.Prelude.{ℕ, ◌+◌, List, [], ◌∷◌, ◌++◌, length, Option, Some, None, Result, Ok, Err, codes, if◌then◌else◌, option_to_list}
use Rattle.std.specs.Str.{bytes_eq}
use Rattle.kern_ids.specs.declared.faults.Why.{Why}
use Rattle.kern_ids.specs.declared.faults.Why.TheVariants as why
use Rattle.kern_ids.specs.declared.entries.Entry.{Entry}
use Rattle.line_text.specs.Cut.{lines_of}
use Rattle.history_text.specs.HistoryReading.{line_says}
use Rattle.history_feed.specs.declared.expected.Expected.{Expected}
use Rattle.history_feed.specs.declared.expected.Expected.TheVariants as next
use Rattle.history_feed.specs.Lines.{ended_of, rest_of}

-- a line and why it is refused
abbrev pub Fault : Type 0
Fault = ℕ × Why

-- between two lines: the entries so far, the number of the line that comes, and what it has to be
pub record Place : Type 0 where
  pub entries : List Entry
  pub line : ℕ
  pub next : Expected

-- what a line that is in its place says: what is expected after it, and the entry that it is, if it is one
pub record Said : Type 0 where
  pub expected : Expected
  pub entry : Option Entry

-- a line among the entries
abbrev pub said_entry : Result (Option Entry) Why → Result Said Why
said_entry (Ok (Some e)) = Ok (record { expected = next.Entries; entry = Some e })
said_entry (Ok None) = Ok (record { expected = next.Nothing; entry = None })
said_entry (Err d) = Err d

-- what a line says where that is expected, after so many entries
abbrev pub said_of : Expected → ℕ → List ℕ → Result Said Why
said_of next.Opening count line = if bytes_eq line (codes "history") then Ok (record { expected = next.Entries; entry = None }) else Err why.Word
said_of next.Entries count line = said_entry (line_says count line)
said_of next.Nothing count line = Err why.AfterEnd

-- after a line that said so
abbrev pub moved : Place → Result Said Why → Result Place Fault
moved p (Ok said) = Ok (record { entries = p.entries ++ option_to_list said.entry; line = p.line + 1; next = said.expected })
moved p (Err d) = Err (p.line, d)

-- after a line
abbrev pub after : Result Place Fault → List ℕ → Result Place Fault
after (Ok p) line = moved p (said_of p.next (length p.entries) line)
after (Err f) line = Err f

-- after lines, one after another
unfoldable pub over : Result Place Fault → List (List ℕ) → Result Place Fault
over left [] = left
over left (line ∷ lines) = over (after left line) lines

-- no byte may come after the closing line
abbrev pub one_byte : Expected → Place → Result Place Fault
one_byte next.Opening p = Ok p
one_byte next.Entries p = Ok p
one_byte next.Nothing p = Err (p.line, why.AfterEnd)

-- with bytes that no line feed ends
abbrev pub with_rest : Result Place Fault → List ℕ → Result Place Fault
with_rest (Err f) rest = Err f
with_rest (Ok p) [] = Ok p
with_rest (Ok p) (b ∷ bs) = one_byte p.next p

-- the bytes that no line feed ends
abbrev pub rest_behind : List ℕ → List ℕ
rest_behind text = rest_of (lines_of text)

-- what a text leaves whose first line has number n: a place, or the first fault
unfoldable pub left_by : ℕ → List ℕ → Result Place Fault
left_by n text = with_rest (over (Ok (record { entries = []; line = n; next = next.Opening })) (ended_of (lines_of text))) (rest_of (lines_of text))

-- what a text that stops there is as a whole
abbrev pub whole_at : Expected → Place → Result (List Entry) Fault
whole_at next.Opening p = Err (p.line, why.NoEnd)
whole_at next.Entries p = Err (p.line, why.NoEnd)
whole_at next.Nothing p = Ok p.entries

abbrev pub whole_of : Result Place Fault → Result (List Entry) Fault
whole_of (Ok p) = whole_at p.next p
whole_of (Err f) = Err f
