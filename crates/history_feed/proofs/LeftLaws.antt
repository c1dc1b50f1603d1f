-- What a text leaves, and more bytes behind it.
use Rattle.std.proofs.Common.{◌≡◌, ℕ, ◌<◌, eqb, List, [], ◌∷◌, ◌++◌, length, Result, Ok, Err, refl, sym, ap, ◌∙◌, arith}
use Rattle.kern_ids.specs.declared.faults.Why.TheVariants as why
use Rattle.line_text.specs.Cut.{lines_of}
use Rattle.history_feed.specs.declared.expected.Expected.{Expected}
use Rattle.history_feed.specs.declared.expected.Expected.TheVariants as next
use Rattle.history_feed.specs.Lines.{ended_of, rest_of}
use Rattle.history_feed.specs.Left.{Fault, Place, said_of, moved, after, over, one_byte, with_rest, rest_behind, left_by}
use Rattle.line_text.proofs.CutLemmas.{some_part}
use Rattle.history_feed.proofs.Splits.{joined_to, split-append, ended-last, rest-last, ended-more, ended-append, rest-append, ended-line, rest-line}

abbrev pub place : Place → Result Place Fault
place p = Ok p

abbrev pub fault : Fault → Result Place Fault
fault f = Err f

pub place_is : (p q : Place) → place p ≡ place q → p ≡ q
place_is p q e = cc

pub fault_is : (f g : Fault) → fault f ≡ fault g → f ≡ g
fault_is f g e = cc

pub not_both : (p : Place) (f : Fault) → place p ≡ fault f → ⊥
not_both p f e = absurd cc

-- before the first byte
abbrev pub begun : ℕ → Place
begun n = record { entries = []; line = n; next = next.Opening }

-- by the lines that are ended
abbrev pub by_lines : ℕ → List ℕ → Result Place Fault
by_lines n text = over (Ok (begun n)) (ended_of (lines_of text))

-- by parts of which the last isn't ended
abbrev by_parts : ℕ → List (List ℕ) → Result Place Fault
by_parts n parts = with_rest (over (Ok (begun n)) (ended_of parts)) (rest_of parts)

pub left-cut : (n : ℕ) (text : List ℕ) → left_by n text ≡ with_rest (by_lines n text) (rest_behind text)
unfolding left_by
left-cut n text = refl

over-append : (left : Result Place Fault) (lines more : List (List ℕ)) → over left (lines ++ more) ≡ over (over left lines) more
unfolding over
over-append left [] more = refl
over-append left (l ∷ ls) more = over-append (after left l) ls more

over-last : (left : Result Place Fault) (lines : List (List ℕ)) (line : List ℕ) → over left (lines ++ line ∷ []) ≡ after (over left lines) line
unfolding over
over-last left lines line = over-append left lines (line ∷ [])

pub over-fault : (f : Fault) (lines : List (List ℕ)) → over (Err f) lines ≡ Err f
unfolding over
over-fault f [] = refl
over-fault f (line ∷ lines) = over-fault f lines

pub rest-none : (left : Result Place Fault) → with_rest left [] ≡ left
rest-none (Ok p) = refl
rest-none (Err f) = refl

-- ---- a place

one_byte-place : (x : Expected) (p q : Place) → one_byte x p ≡ place q → place p ≡ place q
one_byte-place next.Opening p q e = e
one_byte-place next.Entries p q e = e
one_byte-place next.Nothing p q e = absurd (not_both q (p.line, why.AfterEnd) (sym e))

rest-place : (left : Result Place Fault) (rest : List ℕ) (p : Place) → with_rest left rest ≡ Ok p → left ≡ Ok p
rest-place (Err f) rest p e = absurd (not_both p f (sym e))
rest-place (Ok q) [] p e = e
rest-place (Ok q) (b ∷ bs) p e = one_byte-place q.next q p e

rest-some : (p : Place) (rest part : List ℕ) → 0 < length part → with_rest (Ok p) (rest ++ part) ≡ one_byte p.next p
rest-some p [] [] some = absurd (omega arith)
rest-some p [] (b ∷ bs) some = refl
rest-some p (c ∷ cs) part some = refl

-- ---- a fault

one_byte-fault : (x : Expected) (p : Place) (line : List ℕ) (f : Fault) → one_byte x p ≡ fault f → moved p (said_of x (length p.entries) line) ≡ fault f
one_byte-fault next.Opening p line f e = absurd (not_both p f e)
one_byte-fault next.Entries p line f e = absurd (not_both p f e)
one_byte-fault next.Nothing p line f e = e

after-fault : (left : Result Place Fault) (rest part : List ℕ) (f : Fault) → with_rest left rest ≡ Err f → after left (rest ++ part) ≡ Err f
after-fault (Err g) rest part f e = e
after-fault (Ok p) [] part f e = absurd (not_both p f e)
after-fault (Ok p) (b ∷ bs) part f e = one_byte-fault p.next p ((b ∷ bs) ++ part) f e

rest-fault : (left : Result Place Fault) (rest part : List ℕ) (f : Fault) → with_rest left rest ≡ Err f → with_rest left (rest ++ part) ≡ Err f
rest-fault (Err g) rest part f e = e
rest-fault (Ok p) [] part f e = absurd (not_both p f e)
rest-fault (Ok p) (b ∷ bs) part f e = e

-- ---- bytes with no line feed

pub more-rest : (text part : List ℕ) → lines_of part ≡ part ∷ [] → rest_behind (text ++ part) ≡ rest_behind text ++ part
more-rest text part none = rest-append (λ b. eqb b 10) text part none

more-cut : (n : ℕ) (text part : List ℕ) → lines_of part ≡ part ∷ [] → left_by n (text ++ part) ≡ with_rest (by_lines n text) (rest_behind text ++ part)
more-cut n text part none =
    left-cut n (text ++ part)
    ∙ ap (λ (t : List (List ℕ)). with_rest (over (Ok (begun n)) t) (rest_behind (text ++ part))) (ended-append (λ b. eqb b 10) text part none)
    ∙ ap (with_rest (by_lines n text)) (more-rest text part none)

pub more-place : (n : ℕ) (text part : List ℕ) (p : Place) → lines_of part ≡ part ∷ [] → left_by n text ≡ Ok p → 0 < length part → left_by n (text ++ part) ≡ one_byte p.next p
more-place n text part p none e some =
    let so = rest-place (by_lines n text) (rest_behind text) p (sym (left-cut n text) ∙ e) in
    more-cut n text part none ∙ ap (λ (t : Result Place Fault). with_rest t (rest_behind text ++ part)) so ∙ rest-some p (rest_behind text) part some

-- ---- bytes up to a line feed

pub line-rest : (text part : List ℕ) → lines_of part ≡ part ∷ [] → rest_behind (text ++ (part ++ 10 ∷ [])) ≡ []
line-rest text part none = rest-line (λ b. eqb b 10) text part 10 refl none

line-cut : (n : ℕ) (text part : List ℕ) → lines_of part ≡ part ∷ [] → left_by n (text ++ (part ++ 10 ∷ [])) ≡ after (by_lines n text) (rest_behind text ++ part)
line-cut n text part none =
    let whole = text ++ (part ++ 10 ∷ []) in
    left-cut n whole
    ∙ ap (λ (t : List ℕ). with_rest (by_lines n whole) t) (line-rest text part none)
    ∙ rest-none (by_lines n whole)
    ∙ ap (over (Ok (begun n))) (ended-line (λ b. eqb b 10) text part 10 refl none)
    ∙ over-last (Ok (begun n)) (ended_of (lines_of text)) (rest_behind text ++ part)

pub line-place : (n : ℕ) (text part : List ℕ) (p : Place) → lines_of part ≡ part ∷ [] → left_by n text ≡ Ok p → left_by n (text ++ (part ++ 10 ∷ [])) ≡ moved p (said_of p.next (length p.entries) (rest_behind text ++ part))
line-place n text part p none e =
    let so = rest-place (by_lines n text) (rest_behind text) p (sym (left-cut n text) ∙ e) in
    line-cut n text part none ∙ ap (λ (t : Result Place Fault). after t (rest_behind text ++ part)) so

-- ---- bytes of any kind

fault_on : (n : ℕ) (ended parts : List (List ℕ)) (rest : List ℕ) (f : Fault) → (parts ≡ [] → ⊥) → with_rest (over (Ok (begun n)) ended) rest ≡ Err f → by_parts n (ended ++ joined_to rest parts) ≡ Err f
unfolding over
fault_on n ended [] rest f some e = absurd (some refl)
fault_on n ended (part ∷ []) rest f some e =
    ap (λ (t : List (List ℕ)). with_rest (over (Ok (begun n)) t) (rest_of (ended ++ (rest ++ part) ∷ []))) (ended-last ended (rest ++ part))
    ∙ ap (with_rest (over (Ok (begun n)) ended)) (rest-last ended (rest ++ part))
    ∙ rest-fault (over (Ok (begun n)) ended) rest part f e
fault_on n ended (part ∷ follows ∷ parts) rest f some e =
    let lines : over (Ok (begun n)) (ended_of (ended ++ (rest ++ part) ∷ follows ∷ parts)) ≡ Err f =
    ap (over (Ok (begun n))) (ended-more ended (rest ++ part) follows parts)
    ∙ over-append (Ok (begun n)) ended ((rest ++ part) ∷ ended_of (follows ∷ parts))
    ∙ ap (λ (t : Result Place Fault). over t (ended_of (follows ∷ parts))) (after-fault (over (Ok (begun n)) ended) rest part f e)
    ∙ over-fault f (ended_of (follows ∷ parts)) in
    ap (λ (t : Result Place Fault). with_rest t (rest_of (ended ++ (rest ++ part) ∷ follows ∷ parts))) lines

-- the first fault stays
pub left-fault : (n : ℕ) (text more : List ℕ) (f : Fault) → left_by n text ≡ Err f → left_by n (text ++ more) ≡ Err f
left-fault n text more f e =
    left-cut n (text ++ more)
    ∙ ap (by_parts n) (split-append (λ b. eqb b 10) text more)
    ∙ fault_on n (ended_of (lines_of text)) (lines_of more) (rest_behind text) f (some_part (λ b. eqb b 10) more) (sym (left-cut n text) ∙ e)
