-- What a text is as a whole is what it leaves where it stops.
use Rattle.std.proofs.Common.{◌≡◌, ℕ, ◌+◌, Bool, true, false, cond, eqb, List, [], ◌∷◌, ◌++◌, length, Option, Some, None, Result, Ok, Err, refl, sym, ap, ◌∙◌, append-nil}
use Rattle.std.specs.Prelude.{codes}
use Rattle.std.specs.Str.{bytes_eq}
use Rattle.kern_ids.specs.declared.faults.Why.{Why}
use Rattle.kern_ids.specs.declared.faults.Why.TheVariants as why
use Rattle.kern_ids.specs.declared.entries.Entry.{Entry}
use Rattle.line_text.specs.Cut.{lines_of}
use Rattle.line_text.proofs.CutLemmas.{some_part}
use Rattle.history_text.specs.HistoryReading.{line_says, closed, entries_from, opened, history_of}
use Rattle.history_text.proofs.LineLemmas.{go, entries-next, entries-last, opened-next, opened-last}
use Rattle.history_feed.specs.declared.expected.Expected.TheVariants as next
use Rattle.history_feed.specs.Lines.{ended_of, rest_of}
use Rattle.history_feed.specs.Left.{Fault, Place, said_entry, said_of, moved, over, with_rest, left_by, whole_of}
use Rattle.history_feed.proofs.LeftLaws.{begun, left-cut, over-fault}

-- from a place on, by lines of which the last isn't ended
abbrev from : Place → List (List ℕ) → Result (List Entry) Fault
from p lines = whole_of (with_rest (over (Ok p) (ended_of lines)) (rest_of lines))

abbrev in_entries : List Entry → ℕ → Place
in_entries h n = record { entries = h; line = n; next = next.Entries }

abbrev at_end : List Entry → ℕ → Place
at_end h n = record { entries = h; line = n; next = next.Nothing }

from-fault : (f : Fault) (lines : List (List ℕ)) → whole_of (with_rest (over (Err f) (ended_of lines)) (rest_of lines)) ≡ Err f
from-fault f lines = ap (λ (t : Result Place Fault). whole_of (with_rest t (rest_of lines))) (over-fault f (ended_of lines))

from-next : (p : Place) (line follows : List ℕ) (lines : List (List ℕ)) → from p (line ∷ follows ∷ lines) ≡ whole_of (with_rest (over (moved p (said_of p.next (length p.entries) line)) (ended_of (follows ∷ lines))) (rest_of (follows ∷ lines)))
unfolding over ended_of rest_of
from-next p line follows lines = refl

from-last : (p : Place) (last : List ℕ) → from p (last ∷ []) ≡ whole_of (with_rest (Ok p) last)
unfolding over ended_of rest_of
from-last p last = refl

-- ---- behind the closing line

closed_end : (h : List Entry) (n : ℕ) (last : List ℕ) → closed h n (last ∷ []) ≡ whole_of (with_rest (Ok (at_end h n)) last)
closed_end h n [] = refl
closed_end h n (b ∷ bs) = refl

closed_more : (h : List Entry) (n : ℕ) (line follows : List ℕ) (lines : List (List ℕ)) → closed h n (line ∷ follows ∷ lines) ≡ Err (n, why.AfterEnd)
closed_more h n [] follows lines = refl
closed_more h n (b ∷ bs) follows lines = refl

closed-from : (h : List Entry) (n : ℕ) (lines : List (List ℕ)) → (lines ≡ [] → ⊥) → closed h n lines ≡ from (at_end h n) lines
closed-from h n [] some = absurd (some refl)
closed-from h n (last ∷ []) some = closed_end h n last ∙ sym (from-last (at_end h n) last)
closed-from h n (line ∷ follows ∷ lines) some =
    closed_more h n line follows lines ∙ sym (from-next (at_end h n) line follows lines ∙ from-fault (n, why.AfterEnd) (follows ∷ lines))

-- ---- among the entries

entries_end : (h : List Entry) (n : ℕ) (last : List ℕ) → whole_of (with_rest (Ok (in_entries h n)) last) ≡ Err (n, why.NoEnd)
entries_end h n [] = refl
entries_end h n (b ∷ bs) = refl

went_from : (h : List Entry) (n : ℕ) (follows : List ℕ) (lines : List (List ℕ)) (said : Result (Option Entry) Why)
    → ((e : Entry) → entries_from (h ++ e ∷ []) (n + 1) (follows ∷ lines) ≡ from (in_entries (h ++ e ∷ []) (n + 1)) (follows ∷ lines))
    → go h n (follows ∷ lines) said ≡ whole_of (with_rest (over (moved (in_entries h n) (said_entry said)) (ended_of (follows ∷ lines))) (rest_of (follows ∷ lines)))
went_from h n follows lines (Ok (Some e)) more = more e
went_from h n follows lines (Ok None) more =
    closed-from h (n + 1) (follows ∷ lines) (λ e. absurd cc) ∙ ap (λ (k : List Entry). from (at_end k (n + 1)) (follows ∷ lines)) (sym (append-nil h))
went_from h n follows lines (Err d) more = sym (from-fault (n, d) (follows ∷ lines))

entries-from : (h : List Entry) (n : ℕ) (lines : List (List ℕ)) → (lines ≡ [] → ⊥) → entries_from h n lines ≡ from (in_entries h n) lines
entries-from h n [] some = absurd (some refl)
entries-from h n (last ∷ []) some = entries-last h n last ∙ sym (from-last (in_entries h n) last ∙ entries_end h n last)
entries-from h n (line ∷ follows ∷ lines) some =
    entries-next h n line follows lines
    ∙ went_from h n follows lines (line_says (length h) line) (λ e. entries-from (h ++ e ∷ []) (n + 1) (follows ∷ lines) (λ e. absurd cc))
    ∙ sym (from-next (in_entries h n) line follows lines)

-- ---- the opening line

opening_end : (n : ℕ) (last : List ℕ) → whole_of (with_rest (Ok (begun n)) last) ≡ Err (n, why.NoEnd)
opening_end n [] = refl
opening_end n (b ∷ bs) = refl

opening_by : (b : Bool) (n : ℕ) (follows : List ℕ) (lines : List (List ℕ))
    → cond b (entries_from [] (n + 1) (follows ∷ lines)) (Err (n, why.Word)) ≡ whole_of (with_rest (over (moved (begun n) (cond b (Ok (record { expected = next.Entries; entry = None })) (Err why.Word))) (ended_of (follows ∷ lines))) (rest_of (follows ∷ lines)))
opening_by true n follows lines = entries-from [] (n + 1) (follows ∷ lines) (λ e. absurd cc)
opening_by false n follows lines = sym (from-fault (n, why.Word) (follows ∷ lines))

opened-from : (n : ℕ) (lines : List (List ℕ)) → (lines ≡ [] → ⊥) → opened n lines ≡ from (begun n) lines
opened-from n [] some = absurd (some refl)
opened-from n (last ∷ []) some = opened-last n last ∙ sym (from-last (begun n) last ∙ opening_end n last)
opened-from n (line ∷ follows ∷ lines) some =
    opened-next n line follows lines ∙ opening_by (bytes_eq line (codes "history")) n follows lines ∙ sym (from-next (begun n) line follows lines)

pub whole-left : (n : ℕ) (text : List ℕ) → history_of n text ≡ whole_of (left_by n text)
whole-left n text = opened-from n (lines_of text) (some_part (λ b. eqb b 10) text) ∙ ap whole_of (sym (left-cut n text))
