-- The lines of a history, one by one.
use Rattle.std.proofs.Common.{◌≡◌, ℕ, ◌+◌, true, false, cond, eqb, List, [], ◌∷◌, ◌++◌, length, Option, Some, None, Result, Ok, Err, refl, ap, ◌∙◌, arith}
use Rattle.std.specs.Prelude.{codes}
use Rattle.std.specs.List.{onto_first}
use Rattle.std.specs.Str.{bytes_eq}
use Rattle.std.proofs.lemmas.Bool.{eqb-true}
use Rattle.kern_ids.specs.declared.faults.Why.{Why}
use Rattle.kern_ids.specs.declared.faults.Why.TheVariants as why
use Rattle.kern_ids.specs.declared.entries.Entry.{Entry}
use Rattle.line_text.specs.Cut.{lines_of}
use Rattle.line_text.proofs.CutLemmas.{some_part}
use Rattle.history_text.specs.HistoryReading.{line_says, closed, entries_from, opened, history_of}

-- what goes on behind a line
abbrev pub go : List Entry → ℕ → List (List ℕ) → Result (Option Entry) Why → Result (List Entry) (ℕ × Why)
go h n lines (Ok (Some e)) = entries_from (h ++ e ∷ []) (n + 1) lines
go h n lines (Ok None) = closed h (n + 1) lines
go h n lines (Err d) = Err (n, d)

went : (h : List Entry) (n : ℕ) (line next : List ℕ) (lines : List (List ℕ)) (said : Result (Option Entry) Why) → line_says (length h) line ≡ said → entries_from h n (line ∷ next ∷ lines) ≡ go h n (next ∷ lines) said
unfolding entries_from
went h n line next lines (Ok (Some e)) is = rw (entries_from, is) refl
went h n line next lines (Ok None) is = rw (entries_from, is) refl
went h n line next lines (Err d) is = rw (entries_from, is) refl

pub entries-next : (h : List Entry) (n : ℕ) (line next : List ℕ) (lines : List (List ℕ)) → entries_from h n (line ∷ next ∷ lines) ≡ go h n (next ∷ lines) (line_says (length h) line)
entries-next h n line next lines = went h n line next lines (line_says (length h) line) refl

next_by : (h : List Entry) (n : ℕ) (line others : List ℕ) (lines : List (List ℕ)) → lines_of others ≡ lines → entries_from h n (line ∷ lines) ≡ go h n lines (line_says (length h) line)
next_by h n line others [] e = absurd (some_part (λ b. eqb b 10) others e)
next_by h n line others (next ∷ lines) e = entries-next h n line next lines

-- a line with more behind it
pub line-next : (h : List Entry) (n : ℕ) (rest line others : List ℕ) (said : Result (Option Entry) Why) → lines_of rest ≡ line ∷ lines_of others → line_says (length h) line ≡ said → entries_from h n (lines_of rest) ≡ go h n (lines_of others) said
line-next h n rest line others said cut is = ap (entries_from h n) cut ∙ next_by h n line others (lines_of others) refl ∙ ap (go h n (lines_of others)) is

pub entries-last : (h : List Entry) (n : ℕ) (last : List ℕ) → entries_from h n (last ∷ []) ≡ Err (n, why.NoEnd)
unfolding entries_from
entries-last h n last = refl

-- a line that isn't ended
pub line-none : (h : List Entry) (n : ℕ) (rest : List ℕ) → lines_of rest ≡ rest ∷ [] → entries_from h n (lines_of rest) ≡ Err (n, why.NoEnd)
line-none h n rest cut = ap (entries_from h n) cut ∙ entries-last h n rest

-- ---- the opening line

pub opened-next : (n : ℕ) (line next : List ℕ) (lines : List (List ℕ)) → opened n (line ∷ next ∷ lines) ≡ cond (bytes_eq line (codes "history")) (entries_from [] (n + 1) (next ∷ lines)) (Err (n, why.Word))
unfolding opened
opened-next n line next lines = refl

opened_by : (n : ℕ) (line others : List ℕ) (lines : List (List ℕ)) → lines_of others ≡ lines → opened n (line ∷ lines) ≡ cond (bytes_eq line (codes "history")) (entries_from [] (n + 1) lines) (Err (n, why.Word))
opened_by n line others [] e = absurd (some_part (λ b. eqb b 10) others e)
opened_by n line others (next ∷ lines) e = opened-next n line next lines

pub opening-taken : (n : ℕ) (text line others : List ℕ) → lines_of text ≡ line ∷ lines_of others → bytes_eq line (codes "history") ≡ true → history_of n text ≡ entries_from [] (n + 1) (lines_of others)
opening-taken n text line others cut is = ap (opened n) cut ∙ opened_by n line others (lines_of others) refl ∙ rw is refl

pub opening-bad : (n : ℕ) (text line others : List ℕ) → lines_of text ≡ line ∷ lines_of others → bytes_eq line (codes "history") ≡ false → history_of n text ≡ Err (n, why.Word)
opening-bad n text line others cut is = ap (opened n) cut ∙ opened_by n line others (lines_of others) refl ∙ rw is refl

pub opened-last : (n : ℕ) (last : List ℕ) → opened n (last ∷ []) ≡ Err (n, why.NoEnd)
unfolding opened
opened-last n last = refl

pub opening-none : (n : ℕ) (text : List ℕ) → lines_of text ≡ text ∷ [] → history_of n text ≡ Err (n, why.NoEnd)
opening-none n text cut = ap (opened n) cut ∙ opened-last n text

-- ---- nothing may follow

closed_parts : (h : List Entry) (n : ℕ) (b : ℕ) (parts : List (List ℕ)) (c : _) → (parts ≡ [] → ⊥) → closed h n (cond c ([] ∷ parts) (onto_first b parts)) ≡ Err (n, why.AfterEnd)
closed_parts h n b [] c some = absurd (some refl)
closed_parts h n b (part ∷ parts) true some = refl
closed_parts h n b (part ∷ parts) false some = refl

pub closed-empty : (h : List Entry) (n : ℕ) (rest : List ℕ) → eqb (length rest) 0 ≡ true → closed h n (lines_of rest) ≡ Ok h
closed-empty h n [] e = refl
closed-empty h n (b ∷ bs) e = let none : length (b ∷ bs) ≡ 0 = eqb-true _ _ e in absurd (omega arith)

pub closed-rest : (h : List Entry) (n : ℕ) (rest : List ℕ) → eqb (length rest) 0 ≡ false → closed h n (lines_of rest) ≡ Err (n, why.AfterEnd)
closed-rest h n [] e = absurd cc
closed-rest h n (b ∷ bs) e = closed_parts h n b (lines_of bs) (eqb b 10) (λ e. some_part (λ c. eqb c 10) bs e)
