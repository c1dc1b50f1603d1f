-- A text that is cut, and more bytes behind it.
use Rattle.std.proofs.Common.{◌≡◌, ℕ, Bool, true, false, cond, List, [], ◌∷◌, ◌++◌, refl, sym, ap, ◌∙◌, subst, append-nil, append_assoc}
use Rattle.std.specs.List.{slice_split, onto_first}
use Rattle.std.proofs.lemmas.List.Splits.{slice_split-cons_yes, slice_split-cons_no}
use Rattle.line_text.proofs.CutLemmas.{some_part}
use Rattle.history_feed.specs.Lines.{ended_of, rest_of}

-- parts, of which the first begins with what is in front
abbrev pub joined_to : List ℕ → List (List ℕ) → List (List ℕ)
joined_to front [] = front ∷ []
joined_to front (part ∷ parts) = (front ++ part) ∷ parts

joined-none : (parts : List (List ℕ)) → (parts ≡ [] → ⊥) → joined_to [] parts ≡ parts
joined-none [] some = absurd (some refl)
joined-none (part ∷ parts) some = refl

onto-joined : (b : ℕ) (front : List ℕ) (more : List (List ℕ)) → onto_first b (joined_to front more) ≡ joined_to (b ∷ front) more
onto-joined b front [] = refl
onto-joined b front (part ∷ parts) = refl

-- one byte more in front
cut_more : (b : ℕ) (parts more whole : List (List ℕ)) (c : Bool) → (parts ≡ [] → ⊥) → whole ≡ ended_of parts ++ joined_to (rest_of parts) more
    → cond c ([] ∷ whole) (onto_first b whole) ≡ ended_of (cond c ([] ∷ parts) (onto_first b parts)) ++ joined_to (rest_of (cond c ([] ∷ parts) (onto_first b parts))) more
unfolding ended_of rest_of
cut_more b [] more whole c some e = absurd (some refl)
cut_more b (part ∷ parts) more whole true some e = ap (λ (t : List (List ℕ)). [] ∷ t) e
cut_more b (part ∷ []) more whole false some e = ap (onto_first b) e ∙ onto-joined b part more
cut_more b (part ∷ next ∷ parts) more whole false some e = ap (onto_first b) e

pub split-append : (p : ℕ → Bool) (xs ys : List ℕ) → slice_split p (xs ++ ys) ≡ ended_of (slice_split p xs) ++ joined_to (rest_of (slice_split p xs)) (slice_split p ys)
unfolding ended_of rest_of
split-append p [] ys = sym (joined-none (slice_split p ys) (some_part p ys))
split-append p (b ∷ bs) ys = cut_more b (slice_split p bs) (slice_split p ys) (slice_split p (bs ++ ys)) (p b) (some_part p bs) (split-append p bs ys)

pub ended-last : (parts : List (List ℕ)) (last : List ℕ) → ended_of (parts ++ last ∷ []) ≡ parts
unfolding ended_of
ended-last [] last = refl
ended-last (part ∷ []) last = refl
ended-last (part ∷ next ∷ parts) last = ap (λ (t : List (List ℕ)). part ∷ t) (ended-last (next ∷ parts) last)

pub rest-last : (parts : List (List ℕ)) (last : List ℕ) → rest_of (parts ++ last ∷ []) ≡ last
unfolding rest_of
rest-last [] last = refl
rest-last (part ∷ []) last = refl
rest-last (part ∷ next ∷ parts) last = rest-last (next ∷ parts) last

pub ended-more : (parts : List (List ℕ)) (part next : List ℕ) (more : List (List ℕ)) → ended_of (parts ++ part ∷ next ∷ more) ≡ parts ++ part ∷ ended_of (next ∷ more)
unfolding ended_of
ended-more [] part next more = refl
ended-more (p ∷ []) part next more = refl
ended-more (p ∷ q ∷ parts) part next more = ap (λ (t : List (List ℕ)). p ∷ t) (ended-more (q ∷ parts) part next more)

-- ---- bytes with no separator

cut-append : (p : ℕ → Bool) (xs ys : List ℕ) → slice_split p ys ≡ ys ∷ [] → slice_split p (xs ++ ys) ≡ ended_of (slice_split p xs) ++ (rest_of (slice_split p xs) ++ ys) ∷ []
cut-append p xs ys none = split-append p xs ys ∙ ap (λ (t : List (List ℕ)). ended_of (slice_split p xs) ++ joined_to (rest_of (slice_split p xs)) t) none

pub ended-append : (p : ℕ → Bool) (xs ys : List ℕ) → slice_split p ys ≡ ys ∷ [] → ended_of (slice_split p (xs ++ ys)) ≡ ended_of (slice_split p xs)
ended-append p xs ys none = ap ended_of (cut-append p xs ys none) ∙ ended-last (ended_of (slice_split p xs)) (rest_of (slice_split p xs) ++ ys)

pub rest-append : (p : ℕ → Bool) (xs ys : List ℕ) → slice_split p ys ≡ ys ∷ [] → rest_of (slice_split p (xs ++ ys)) ≡ rest_of (slice_split p xs) ++ ys
rest-append p xs ys none = ap rest_of (cut-append p xs ys none) ∙ rest-last (ended_of (slice_split p xs)) (rest_of (slice_split p xs) ++ ys)

-- ---- bytes with one separator, at their end

first_by : (p : ℕ → Bool) (b : ℕ) (bs : List ℕ) (c : Bool) (cut : List (List ℕ)) (part : List ℕ) (parts : List (List ℕ)) → p b ≡ c → slice_split p bs ≡ cut → cond c ([] ∷ cut) (onto_first b cut) ≡ part ∷ parts
    → ((q : List ℕ) (qs : List (List ℕ)) → slice_split p bs ≡ q ∷ qs → slice_split p q ≡ q ∷ []) → slice_split p part ≡ part ∷ []
first_by p b bs true cut part parts is cuts e more = let same : [] ≡ part = cc in subst (λ (w : List ℕ). slice_split p w ≡ w ∷ []) same refl
first_by p b bs false [] part parts is cuts e more = absurd (some_part p bs cuts)
first_by p b bs false (q ∷ qs) part parts is cuts e more =
    let same : b ∷ q ≡ part = cc in
    subst (λ (w : List ℕ). slice_split p w ≡ w ∷ []) same (slice_split-cons_no p b q is ∙ ap (onto_first b) (more q qs cuts))

-- a part has no separator
pub first-part : (p : ℕ → Bool) (xs part : List ℕ) (parts : List (List ℕ)) → slice_split p xs ≡ part ∷ parts → slice_split p part ≡ part ∷ []
first-part p [] part parts e = let same : [] ≡ part = cc in subst (λ (w : List ℕ). slice_split p w ≡ w ∷ []) same refl
first-part p (b ∷ bs) part parts e = first_by p b bs (p b) (slice_split p bs) part parts refl refl e (λ q qs cut. first-part p bs q qs cut)

line_cut : (p : ℕ → Bool) (part : List ℕ) (c : ℕ) → p c ≡ true → slice_split p part ≡ part ∷ [] → slice_split p (part ++ c ∷ []) ≡ part ∷ [] ∷ []
unfolding ended_of rest_of
line_cut p part c is none =
    split-append p part (c ∷ [])
    ∙ ap (λ (t : List (List ℕ)). ended_of t ++ joined_to (rest_of t) (slice_split p (c ∷ []))) none
    ∙ ap (λ (t : List (List ℕ)). joined_to part t) (slice_split-cons_yes p c [] is)
    ∙ ap (λ (t : List ℕ). t ∷ [] ∷ []) (append-nil part)

cut-line : (p : ℕ → Bool) (xs part : List ℕ) (c : ℕ) → p c ≡ true → slice_split p part ≡ part ∷ [] → slice_split p (xs ++ (part ++ c ∷ [])) ≡ (ended_of (slice_split p xs) ++ (rest_of (slice_split p xs) ++ part) ∷ []) ++ [] ∷ []
cut-line p xs part c is none =
    let ended = ended_of (slice_split p xs) in
    let rest = rest_of (slice_split p xs) in
    split-append p xs (part ++ c ∷ [])
    ∙ ap (λ (t : List (List ℕ)). ended ++ joined_to rest t) (line_cut p part c is none)
    ∙ sym (append_assoc ended ((rest ++ part) ∷ []) ([] ∷ []))

pub ended-line : (p : ℕ → Bool) (xs part : List ℕ) (c : ℕ) → p c ≡ true → slice_split p part ≡ part ∷ [] → ended_of (slice_split p (xs ++ (part ++ c ∷ []))) ≡ ended_of (slice_split p xs) ++ (rest_of (slice_split p xs) ++ part) ∷ []
ended-line p xs part c is none = ap ended_of (cut-line p xs part c is none) ∙ ended-last (ended_of (slice_split p xs) ++ (rest_of (slice_split p xs) ++ part) ∷ []) []

pub rest-line : (p : ℕ → Bool) (xs part : List ℕ) (c : ℕ) → p c ≡ true → slice_split p part ≡ part ∷ [] → rest_of (slice_split p (xs ++ (part ++ c ∷ []))) ≡ []
rest-line p xs part c is none = ap rest_of (cut-line p xs part c is none) ∙ rest-last (ended_of (slice_split p xs) ++ (rest_of (slice_split p xs) ++ part) ∷ []) []
