-- The entry that a line is said to be has that line.
use Rattle.std.proofs.Common.{◌≡◌, ℕ, Bool, true, false, cond, ltb, List, [], ◌∷◌, Option, Some, None, Result, Ok, Err, MatchResult, ap}
use Rattle.std.specs.Prelude.{codes}
use Rattle.std.specs.Option.{IfSome}
use Rattle.std.specs.Result.{IfOk}
use Rattle.std.specs.Fmt.{decimal}
use Rattle.std.specs.Str.{bytes_eq}
use Rattle.kern_ids.specs.declared.faults.Why.{Why}
use Rattle.kern_ids.specs.declared.faults.Why.TheVariants as why
use Rattle.kern_ids.specs.declared.entries.Entry.{Entry}
use Rattle.line_text.specs.Cut.{Word, words_of, line_of}
use Rattle.line_text.specs.Numbers.{is_plain}
use Rattle.history_text.specs.Entries.{entry_words}
use Rattle.history_text.specs.EntryReading.{entry_of, HasText}
use Rattle.history_text.specs.HistoryReading.{closing_words, one_more, said_by, line_says}
use Rattle.history_text.proofs.EntryLaws.{entry_takes}

abbrev pub said : Option Entry → Result (Option Entry) Why
said x = Ok x

abbrev read : Entry → Result Entry Why
read e = Ok e

closing-not : (p b : Bool) (e : Entry) → cond p (cond b (said None) (Err why.Count)) (Err why.Number) ≡ said (Some e) → ⊥
closing-not true true e h = absurd cc
closing-not true false e h = absurd cc
closing-not false b e h = absurd cc

closing-none : (count : ℕ) (ws : List Word) (e : Entry) → closing_words count ws ≡ said (Some e) → ⊥
unfolding closing_words
closing-none count [] e h = absurd cc
closing-none count (w ∷ []) e h = closing-not (is_plain w) (bytes_eq w (decimal count)) e h
closing-none count (w ∷ v ∷ vs) e h = absurd cc

more-by : (b : Bool) (x e : Entry) → cond b (said (Some x)) (Err why.Limit) ≡ said (Some e) → x ≡ e
more-by true x e h = cc
more-by false x e h = absurd cc

more-entry : (count : ℕ) (r : Result Entry Why) (e : Entry) → one_more count r ≡ said (Some e) → r ≡ read e
more-entry count (Ok x) e h = ap read (more-by (ltb count 200000) x e h)
more-entry count (Err d) e h = absurd cc

said-when : (b : Bool) (count : ℕ) (line : List ℕ) (ws : List Word) (e : Entry) → cond b (closing_words count ws) (one_more count (entry_of line)) ≡ said (Some e) → entry_of line ≡ read e
said-when true count line ws e h = absurd (closing-none count ws e h)
said-when false count line ws e h = more-entry count (entry_of line) e h

said-entry : (count : ℕ) (line : List ℕ) (ws : List Word) (e : Entry) → said_by count line ws ≡ said (Some e) → entry_of line ≡ read e
said-entry count line [] e h = absurd cc
said-entry count line (w ∷ ws) e h = said-when (bytes_eq w (codes "done")) count line ws e h

pub says-entry : (count : ℕ) (line : List ℕ) (e : Entry) → line_says count line ≡ Ok (Some e) → (line ≡ line_of (entry_words e)) × HasText e
unfolding line_says
says-entry count line e h = entry_takes line e (said-entry count line (words_of line) e h)

pub says-texts : (count : ℕ) (line : List ℕ) (r : Result (Option Entry) Why) → MatchResult r (λ s. line_says count line ≡ Ok s) (λ d. line_says count line ≡ Err d) → IfOk r (λ s. IfSome s HasText)
says-texts count line (Ok (Some e)) h = let t = says-entry count line e h in t.1
says-texts count line (Ok None) h = tt
says-texts count line (Err d) h = tt
