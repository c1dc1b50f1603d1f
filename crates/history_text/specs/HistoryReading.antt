-- Reading the history part of a text: a line that opens it, entries, and a line that counts them.
use Rattle.std.specs.Prelude.{◌≡◌, ℕ, ◌+◌, List, [], ◌∷◌, ◌++◌, length, Option, Some, None, Result, Ok, Err, codes, nat_lt, if◌then◌else◌}
use Rattle.std.specs.Fmt.{decimal}
use Rattle.std.specs.Str.{bytes_eq}
use Rattle.kern_ids.specs.declared.faults.Why.{Why}
use Rattle.kern_ids.specs.declared.faults.Why.TheVariants as why
use Rattle.kern_ids.specs.declared.faults.ReadFault.{ReadFault}
use Rattle.kern_ids.specs.declared.faults.ReadFault.TheVariants as whole
use Rattle.kern_ids.specs.declared.entries.Entry.{Entry}
use Rattle.kern_ids.specs.Entries.{Entries}
use Rattle.line_text.specs.Cut.{Word, lines_of, words_of}
use Rattle.line_text.specs.Numbers.{is_plain}
use Rattle.line_text.specs.Words.{◌>>=◌, finished}
use Rattle.history_text.specs.EntryReading.{entry_of}

-- what the closing line says after its first word: the number of the entries before it, and no more
unfoldable pub closing_words : ℕ → List Word → Result (Option Entry) Why
closing_words count [] = Err why.Word
closing_words count (w ∷ ws) = finished ws w >>= λ w. if is_plain w then (if bytes_eq w (decimal count) then Ok None else Err why.Count) else Err why.Number

-- an entry, where so many stand before it
abbrev pub one_more : ℕ → Result Entry Why → Result (Option Entry) Why
one_more count (Ok e) = if nat_lt count 200000 then Ok (Some e) else Err why.Limit
one_more count (Err d) = Err why.Entry

-- what a line after the first is, where so many entries are before it: an entry, or the closing line
abbrev pub said_by : ℕ → List ℕ → List Word → Result (Option Entry) Why
said_by count line [] = Err why.Word
said_by count line (w ∷ ws) = if bytes_eq w (codes "done") then closing_words count ws else one_more count (entry_of line)

unfoldable pub line_says : ℕ → List ℕ → Result (Option Entry) Why
line_says count line = said_by count line (words_of line)

-- nothing may follow the closing line; the last of the lines is what no line feed ends
abbrev pub closed : List Entry → ℕ → List (List ℕ) → Result (List Entry) (ℕ × Why)
closed h n [] = Err (n, why.AfterEnd)
closed h n ([] ∷ []) = Ok h
closed h n ([] ∷ line ∷ lines) = Err (n, why.AfterEnd)
closed h n ((b ∷ bs) ∷ lines) = Err (n, why.AfterEnd)

-- reads from line n on, after these entries
unfoldable pub entries_from : List Entry → ℕ → List (List ℕ) → Result (List Entry) (ℕ × Why)
entries_from h n [] = Err (n, why.NoEnd)
entries_from h n (last ∷ []) = Err (n, why.NoEnd)
entries_from h n (line ∷ next ∷ lines) = elim (line_says (length h) line) [
  | Ok said ↦ elim said [
    | Some e ↦ entries_from (h ++ e ∷ []) (n + 1) (next ∷ lines)
    | None ↦ closed h (n + 1) (next ∷ lines)
  ]
  | Err d ↦ Err (n, d)
]

-- reads from the opening line on, which is line n
unfoldable pub opened : ℕ → List (List ℕ) → Result (List Entry) (ℕ × Why)
opened n [] = Err (n, why.NoEnd)
opened n (last ∷ []) = Err (n, why.NoEnd)
opened n (line ∷ next ∷ lines) = if bytes_eq line (codes "history") then entries_from [] (n + 1) (next ∷ lines) else Err (n, why.Word)

-- the history that a text is, or its first fault; its first line has number n
abbrev pub history_of : ℕ → List ℕ → Result (List Entry) (ℕ × Why)
history_of n text = opened n (lines_of text)

-- what a reader answers, against what a text says; or it is out of memory
abbrev pub ReadFails : ReadFault → Result (List Entry) (ℕ × Why) → Type 0
ReadFails whole.NoMemory said = Unit {0}
ReadFails (whole.Bad n d) said = said ≡ Err (n, d)

abbrev pub ReadGives : Result Entries ReadFault → Result (List Entry) (ℕ × Why) → Type 0
ReadGives (Ok h) said = said ≡ Ok h.list
ReadGives (Err e) said = ReadFails e said
