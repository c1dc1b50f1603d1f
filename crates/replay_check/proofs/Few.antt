-- A text has few entries, wherever it stops.
use Rattle.std.proofs.Common.{◌≡◌, ℕ, ◌<◌, ◌≤◌, cond, ltb, List, [], ◌∷◌, length, Bool, true, false, Option, Some, None, Result, Ok, Err, refl, arith, length-append}
use Rattle.std.specs.Prelude.{codes}
use Rattle.std.specs.Str.{bytes_eq}
use Rattle.std.specs.Fmt.{decimal}
use Rattle.std.proofs.lemmas.Bool.{ltb-true}
use Rattle.kern_ids.specs.declared.entries.Entry.{Entry}
use Rattle.kern_ids.specs.declared.faults.Why.{Why}
use Rattle.kern_ids.specs.declared.faults.Why.TheVariants as why
use Rattle.line_text.specs.Cut.{Word, lines_of, words_of}
use Rattle.line_text.specs.Numbers.{is_plain}
use Rattle.history_text.specs.EntryReading.{entry_of}
use Rattle.history_text.specs.HistoryReading.{closing_words, one_more, said_by, line_says}
use Rattle.history_feed.specs.declared.expected.Expected.{Expected}
use Rattle.history_feed.specs.declared.expected.Expected.TheVariants as next
use Rattle.history_feed.specs.Lines.{ended_of, rest_of}
use Rattle.history_feed.specs.Left.{Fault, Place, said_entry, said_of, moved, after, over, one_byte, with_rest, left_by}

abbrev said : Option Entry → Result (Option Entry) Why
said x = Ok x

-- ---- an entry that a line is said to be is within the limit

closing-not : (p b : Bool) (e : Entry) → cond p (cond b (said None) (Err why.Count)) (Err why.Number) ≡ said (Some e) → ⊥
closing-not true true e h = absurd cc
closing-not true false e h = absurd cc
closing-not false b e h = absurd cc

closing-none : (count : ℕ) (ws : List Word) (e : Entry) → closing_words count ws ≡ said (Some e) → ⊥
unfolding closing_words
closing-none count [] e h = absurd cc
closing-none count (w ∷ []) e h = closing-not (is_plain w) (bytes_eq w (decimal count)) e h
closing-none count (w ∷ v ∷ vs) e h = absurd cc

room-by : (b : Bool) (x e : Entry) → cond b (said (Some x)) (Err why.Limit) ≡ said (Some e) → b ≡ true
room-by true x e h = refl
room-by false x e h = absurd cc

more-room : (count : ℕ) (r : Result Entry Why) (e : Entry) → one_more count r ≡ said (Some e) → count < 200000
more-room count (Ok x) e h = ltb-true count 200000 (room-by (ltb count 200000) x e h)
more-room count (Err d) e h = absurd cc

room-when : (b : Bool) (count : ℕ) (line : List ℕ) (ws : List Word) (e : Entry) → cond b (closing_words count ws) (one_more count (entry_of line)) ≡ said (Some e) → count < 200000
room-when true count line ws e h = absurd (closing-none count ws e h)
room-when false count line ws e h = more-room count (entry_of line) e h

said-room : (count : ℕ) (line : List ℕ) (ws : List Word) (e : Entry) → said_by count line ws ≡ said (Some e) → count < 200000
said-room count line [] e h = absurd cc
said-room count line (w ∷ ws) e h = room-when (bytes_eq w (codes "done")) count line ws e h

says-room : (count : ℕ) (line : List ℕ) (e : Entry) → line_says count line ≡ said (Some e) → count < 200000
unfolding line_says
says-room count line e h = said-room count line (words_of line) e h

-- ---- so the entries that are left are

-- where there is no fault, the entries are within the limit
abbrev pub IsFew : Result Place Fault → Type 0
IsFew (Ok p) = length p.entries ≤ 200000
IsFew (Err f) = Unit {0}

entry-few : (p : Place) (r : Result (Option Entry) Why) (line : List ℕ) → line_says (length p.entries) line ≡ r → length p.entries ≤ 200000 → IsFew (moved p (said_entry r))
entry-few p (Ok (Some e)) line is few = omega (arith, says-room (length p.entries) line e is, length-append p.entries (e ∷ []))
entry-few p (Ok None) line is few = omega (arith, few, length-append p.entries [])
entry-few p (Err d) line is few = tt

opening-few : (p : Place) (b : Bool) → length p.entries ≤ 200000 → IsFew (moved p (cond b (Ok (record { expected = next.Entries; entry = None })) (Err why.Word)))
opening-few p true few = omega (arith, few, length-append p.entries [])
opening-few p false few = tt

said-few : (p : Place) (x : Expected) (line : List ℕ) → length p.entries ≤ 200000 → IsFew (moved p (said_of x (length p.entries) line))
said-few p next.Opening line few = opening-few p (bytes_eq line (codes "history")) few
said-few p next.Entries line few = entry-few p (line_says (length p.entries) line) line refl few
said-few p next.Nothing line few = tt

after-few : (left : Result Place Fault) (line : List ℕ) → IsFew left → IsFew (after left line)
after-few (Ok p) line few = said-few p p.next line few
after-few (Err f) line few = tt

over-few : (left : Result Place Fault) (lines : List (List ℕ)) → IsFew left → IsFew (over left lines)
unfolding over
over-few left [] few = few
over-few left (line ∷ lines) few = over-few (after left line) lines (after-few left line few)

byte-few : (x : Expected) (p : Place) → length p.entries ≤ 200000 → IsFew (one_byte x p)
byte-few next.Opening p few = few
byte-few next.Entries p few = few
byte-few next.Nothing p few = tt

rest-few : (left : Result Place Fault) (rest : List ℕ) → IsFew left → IsFew (with_rest left rest)
rest-few (Err f) rest few = tt
rest-few (Ok p) [] few = few
rest-few (Ok p) (b ∷ bs) few = byte-few p.next p few

pub left-few : (n : ℕ) (text : List ℕ) → IsFew (left_by n text)
unfolding left_by
left-few n text = rest-few _ (rest_of (lines_of text)) (over-few _ (ended_of (lines_of text)) (omega arith))
