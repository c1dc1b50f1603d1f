-- What a feed keeps, and what it gives.
use Rattle.std.proofs.Common.{◌≡◌, ℕ, ◌+◌, ◌<◌, ◌≤◌, Bool, true, false, cond, eqb, List, [], ◌∷◌, ◌++◌, length, take, Option, Some, None, Result, Ok, Err, refl, sym, ap, ◌∙◌, arith, subst, append-nil, append_assoc}
use Rattle.std.specs.Prelude.{codes, option_to_list}
use Rattle.std.specs.Option.{IfSome}
use Rattle.std.specs.Str.{bytes_eq}
use Rattle.std.proofs.lemmas.Bool.{eqb-true}
use Rattle.std.proofs.lemmas.List.{length-append}
use Rattle.std.proofs.Math.Seq.{take-append_seam}
use Rattle.kern_ids.specs.declared.faults.Why.{Why}
use Rattle.kern_ids.specs.declared.faults.Why.TheVariants as why
use Rattle.kern_ids.specs.declared.entries.Entry.{Entry}
use Rattle.line_text.specs.Cut.{lines_of}
use Rattle.line_text.proofs.CutLemmas.{some_part}
use Rattle.history_text.specs.HistoryReading.{history_of, line_says}
use Rattle.history_text.proofs.EntryLaws.{first_line}
use Rattle.history_feed.specs.declared.expected.Expected.{Expected}
use Rattle.history_feed.specs.declared.expected.Expected.TheVariants as next
use Rattle.history_feed.specs.declared.feed.HistoryFeed.{HistoryFeed}
use Rattle.history_feed.specs.Lines.{ended_of, rest_of, line_end}
use Rattle.history_feed.specs.Kept.{kept_of}
use Rattle.history_feed.specs.Left.{Fault, Place, Said, said_entry, said_of, moved, over, one_byte, left_by, rest_behind, whole_of, whole_at}
use Rattle.history_feed.specs.Feeds.{Keeps, KeepsLeft, IsEnded, StandsFor, Gives, IsFed, IsTextOf, entry_ended, given_by, taken_until, taken_of, count_of}
use Rattle.history_feed.proofs.Splits.{first-part}
use Rattle.history_feed.proofs.LeftLaws.{place, fault, begun, more-rest, more-place, line-rest, line-place, left-fault}
use Rattle.history_feed.proofs.SaysLaws.{says-entry}
use Rattle.history_feed.proofs.Whole.{whole-left}

-- ---- how far bytes are taken

end_by : (part others : List ℕ) (lines : List (List ℕ)) → lines_of others ≡ lines → line_end (part ∷ lines) ≡ length part + 1
unfolding line_end
end_by part others [] e = absurd (some_part (λ b. eqb b 10) others e)
end_by part others (line ∷ lines) e = refl

pub line_end-some : (part others : List ℕ) → line_end (part ∷ lines_of others) ≡ length part + 1
line_end-some part others = end_by part others (lines_of others) refl

pub line_end-none : (part : List ℕ) → line_end (part ∷ []) ≡ length part
unfolding line_end
line_end-none part = refl

pub taken-none : (f : HistoryFeed) (piece : List ℕ) → f.fault ≡ None → taken_of f piece ≡ line_end (lines_of piece)
taken-none f piece none = ap (λ (x : Option Fault). taken_until x piece) none

pub empty-end : (piece : List ℕ) → eqb (length piece) 0 ≡ true → line_end (lines_of piece) ≡ 0
empty-end [] e = line_end-none []
empty-end (b ∷ bs) e = let none : length (b ∷ bs) ≡ 0 = eqb-true _ _ e in absurd (omega arith)

pub some-bytes : (piece : List ℕ) → eqb (length piece) 0 ≡ false → 0 < length piece
some-bytes [] e = absurd cc
some-bytes (b ∷ bs) e = omega arith

pub line-within : (piece part others : List ℕ) → lines_of piece ≡ part ∷ lines_of others → length part + 1 ≤ length piece
line-within piece part others cut = omega (arith, ap length (first_line piece part others cut), length-append part (10 ∷ others))

-- the bytes of the first line with its end
pub taken-line : (piece part others : List ℕ) → lines_of piece ≡ part ∷ lines_of others → take (length part + 1) piece ≡ part ++ 10 ∷ []
taken-line piece part others cut =
    let all : piece ≡ (part ++ 10 ∷ []) ++ others = first_line piece part others cut ∙ sym (append_assoc part (10 ∷ []) others) in
    let long : length (part ++ 10 ∷ []) ≡ length part + 1 = length-append part (10 ∷ []) in
    ap (λ (k : ℕ). take k piece) (sym long) ∙ ap (take (length (part ++ 10 ∷ []))) all ∙ take-append_seam (part ++ 10 ∷ []) others

pub no-feed : (piece part others : List ℕ) → lines_of piece ≡ part ∷ lines_of others → lines_of part ≡ part ∷ []
no-feed piece part others cut = first-part (λ b. eqb b 10) piece part (lines_of others) cut

-- ---- what is left where there is no fault

pub none_is : (x : Option Fault) (d : Fault) → x ≡ None → x ≡ Some d → ⊥
none_is x d e h = absurd cc

abbrev AtPlace : HistoryFeed → List ℕ → Type 0
AtPlace f text = (p : Place) × (left_by f.first text ≡ Ok p) × Keeps f p (rest_behind text)

place_by : (f : HistoryFeed) (text : List ℕ) (left : Result Place Fault) → f.fault ≡ None → left_by f.first text ≡ left → KeepsLeft f left (rest_behind text) → AtPlace f text
place_by f text (Ok p) none is h = (p, is, h)
place_by f text (Err d) none is h = absurd (none_is f.fault d none h)

pub at-place : (f : HistoryFeed) (text : List ℕ) → f.fault ≡ None → StandsFor f text → AtPlace f text
at-place f text none h = place_by f text (left_by f.first text) none refl h

abbrev AtFault : HistoryFeed → List ℕ → Fault → Type 0
AtFault f text d = left_by f.first text ≡ Err d

fault_same : (x : Option Fault) (d g : Fault) → x ≡ Some d → x ≡ Some g → g ≡ d
fault_same x d g e h = cc

fault_by : (f : HistoryFeed) (text : List ℕ) (left : Result Place Fault) (d : Fault) → f.fault ≡ Some d → left_by f.first text ≡ left → KeepsLeft f left (rest_behind text) → AtFault f text d
fault_by f text (Ok p) d some is h = absurd (none_is f.fault d h.sound some)
fault_by f text (Err g) d some is h = is ∙ ap fault (fault_same f.fault d g some h)

pub at-fault : (f : HistoryFeed) (text : List ℕ) (d : Fault) → f.fault ≡ Some d → StandsFor f text → AtFault f text d
at-fault f text d some h = fault_by f text (left_by f.first text) d some refl h

stands-place : (f : HistoryFeed) (n : ℕ) (text : List ℕ) (left : Result Place Fault) (rest : List ℕ) → f.first ≡ n → left_by n text ≡ left → rest_behind text ≡ rest → KeepsLeft f left rest → StandsFor f text
stands-place f n text left rest first is behind h =
    let whole : left_by f.first text ≡ left = ap (λ (k : ℕ). left_by k text) first ∙ is in
    subst (λ (r : List ℕ). KeepsLeft f (left_by f.first text) r) (sym behind) (subst (λ (l : Result Place Fault). KeepsLeft f l rest) (sym whole) h)

-- ---- a fault stays

keeps-fault : (f : HistoryFeed) (left : Result Place Fault) (d : Fault) (rest : List ℕ) → left ≡ Err d → f.fault ≡ Some d → KeepsLeft f left rest
keeps-fault f left d rest is some = subst (λ (l : Result Place Fault). KeepsLeft f l rest) (sym is) some

none_given : (old : Result Place Fault) (d : Fault) → Gives None old (Err d)
none_given (Ok p) d = refl
none_given (Err g) d = refl

gives-none : (old left : Result Place Fault) (d : Fault) → left ≡ Err d → Gives None old left
gives-none old left d is = subst (λ (l : Result Place Fault). Gives None old l) (sym is) (none_given old d)

-- ---- a line is ended

pub ended-ok : (f : HistoryFeed) (given : Option Entry) (p : Place) (r : Result Said Why) (said : Said) → r ≡ Ok said → f.fault ≡ None → f.line ≡ p.line + 1 → f.entries ≡ length p.entries + length (option_to_list said.entry)
    → f.expected ≡ said.expected → f.rest ≡ kept_of [] → given ≡ said.entry → IsEnded f given p r
ended-ok f given p r said is sound line entries expected kept gave = subst (IsEnded f given p) (sym is) (record {
  stands = record {
    sound = sound;
    line = line;
    entries = entries ∙ sym (length-append p.entries (option_to_list said.entry));
    expected = expected;
    kept = kept;
  };
  entry = gave;
})

pub ended-bad : (f : HistoryFeed) (given : Option Entry) (p : Place) (r : Result Said Why) (d : Why) → r ≡ Err d → f.fault ≡ Some (p.line, d) → given ≡ None → IsEnded f given p r
ended-bad f given p r d is some gave = subst (IsEnded f given p) (sym is) (record { stands = some; entry = gave })

abbrev opening_by : Bool → Result Said Why
opening_by b = cond b (Ok (record { expected = next.Entries; entry = None })) (Err why.Word)

-- what an entry's line, the closing line and a wrong line among the entries say
pub entry-says : (count : ℕ) (line : List ℕ) (r : Result (Option Entry) Why) → line_says count line ≡ r → said_of next.Entries count line ≡ said_entry r
entry-says count line r is = ap said_entry is

-- what the opening line says
pub opening-says : (b : Bool) (count : ℕ) (line : List ℕ) → bytes_eq line (codes "history") ≡ b → said_of next.Opening count line ≡ cond b (Ok (record { expected = next.Entries; entry = None })) (Err why.Word)
opening-says b count line is = ap (λ (t : Bool). opening_by t) is

-- what is said by what is kept is what is said of the line
pub said-at : (f : HistoryFeed) (p : Place) (rest line : List ℕ) (x : Expected) (r : Result Said Why) → Keeps f p rest → f.expected ≡ x → said_of x f.entries line ≡ r → said_of p.next (length p.entries) line ≡ r
said-at f p rest line x r k is e = ap (λ (t : Expected). said_of t (length p.entries) line) (sym k.expected ∙ is) ∙ ap (λ (t : ℕ). said_of x t line) (sym k.entries) ∙ e

-- ---- a line goes on

pub on-keeps : (f : HistoryFeed) (p : Place) (line : List ℕ) (x : Expected) → p.next ≡ x → (one_byte x p ≡ place p) → Keeps f p line → KeepsLeft f (one_byte p.next p) line
on-keeps f p line x is still h = subst (λ (l : Result Place Fault). KeepsLeft f l line) (sym (ap (λ (t : Expected). one_byte t p) is ∙ still)) h

pub on-fault : (f : HistoryFeed) (p : Place) (line : List ℕ) → p.next ≡ next.Nothing → f.fault ≡ Some (p.line, why.AfterEnd) → KeepsLeft f (one_byte p.next p) line
on-fault f p line is some = keeps-fault f (one_byte p.next p) (p.line, why.AfterEnd) line (ap (λ (t : Expected). one_byte t p) is) some

-- ---- a piece

-- what a line that is ended leaves
moved-gives : (p : Place) (said : Result Said Why) → Gives (given_by said) (Ok p) (moved p said)
moved-gives p (Ok said) = refl
moved-gives p (Err d) = refl

one-gives : (x : Expected) (p : Place) → Gives None (Ok p) (one_byte x p)
one-gives next.Opening p = sym (append-nil p.entries)
one-gives next.Entries p = sym (append-nil p.entries)
one-gives next.Nothing p = refl

gives-same : (given : Option Entry) (a b c d : Result Place Fault) → a ≡ b → c ≡ d → Gives given b d → Gives given a c
gives-same given a b c d e1 e2 h = subst (λ (l : Result Place Fault). Gives given l c) (sym e1) (subst (λ (l : Result Place Fault). Gives given b l) (sym e2) h)

-- ---- the entry of a line

if_some : (P : Entry → Type 0) (given : Option Entry) → ((e : Entry) → given ≡ Some e → P e) → IfSome given P
if_some P None h = tt
if_some P (Some e) h = h e refl

entry_by : (rest part others : List ℕ) (p : Place) (lines : List (List ℕ)) → lines_of others ≡ lines → entry_ended (Ok p) rest (part ∷ lines) ≡ given_by (said_of p.next (length p.entries) (rest ++ part))
entry_by rest part others p [] e = absurd (some_part (λ b. eqb b 10) others e)
entry_by rest part others p (line ∷ lines) e = refl

opening-none : (b : Bool) (e : Entry) → given_by (cond b (Ok (record { expected = next.Entries; entry = None })) (Err why.Word)) ≡ Some e → ⊥
opening-none true e h = absurd cc
opening-none false e h = absurd cc

given-says : (count : ℕ) (line : List ℕ) (r : Result (Option Entry) Why) (e : Entry) → line_says count line ≡ r → given_by (said_entry r) ≡ Some e → IsTextOf (line ++ 10 ∷ []) e
given-says count line (Ok (Some x)) e is gave =
    let same : x ≡ e = cc in
    let t = says-entry count line x is in
    subst (IsTextOf (line ++ 10 ∷ [])) same (record { text = ap (λ (l : List ℕ). l ++ 10 ∷ []) t.0; sound = t.1 })
given-says count line (Ok None) e is gave = absurd cc
given-says count line (Err d) e is gave = absurd cc

given-text : (x : Expected) (count : ℕ) (line : List ℕ) (e : Entry) → given_by (said_of x count line) ≡ Some e → IsTextOf (line ++ 10 ∷ []) e
given-text next.Opening count line e gave = absurd (opening-none (bytes_eq line (codes "history")) e gave)
given-text next.Entries count line e gave = given-says count line (line_says count line) e refl gave
given-text next.Nothing count line e gave = absurd cc

given-written : (given : Option Entry) (p : Place) (rest part : List ℕ) → given ≡ given_by (said_of p.next (length p.entries) (rest ++ part)) → IfSome given (IsTextOf (rest ++ (part ++ 10 ∷ [])))
given-written given p rest part gave =
    if_some (IsTextOf (rest ++ (part ++ 10 ∷ []))) given
    (λ e is. subst (λ (t : List ℕ). IsTextOf t e) (append_assoc rest part (10 ∷ [])) (given-text p.next (length p.entries) (rest ++ part) e (sym gave ∙ is)))

-- ---- what is fed

entry-last : (left : Result Place Fault) (rest last : List ℕ) → entry_ended left rest (last ∷ []) ≡ None
entry-last (Ok p) rest last = refl
entry-last (Err f) rest last = refl

pub fed-line : (old new : HistoryFeed) (given : Option Entry) (text piece part others : List ℕ) → lines_of piece ≡ part ∷ lines_of others → new.first ≡ old.first → old.fault ≡ None → StandsFor old text
    → ((p : Place) → Keeps old p (rest_behind text) → IsEnded new given p (said_of p.next (length p.entries) (rest_behind text ++ part))) → IsFed old new given text piece (part ++ 10 ∷ [])
fed-line old new given text piece part others cut first sound h step =
    let none = no-feed piece part others cut in
    let at = at-place old text sound h in
    let p = at.0 in
    let rest = rest_behind text in
    let said = said_of p.next (length p.entries) (rest ++ part) in
    let i = step p at.2 in
    let left : left_by old.first (text ++ (part ++ 10 ∷ [])) ≡ moved p said = line-place old.first text part p none at.1 in
    let entry : entry_ended (left_by old.first text) rest (lines_of piece) ≡ given_by said =
    ap (λ (l : Result Place Fault). entry_ended l rest (lines_of piece)) at.1 ∙ ap (entry_ended (place p) rest) cut ∙ entry_by rest part others p (lines_of others) refl in
    record {
      stands = stands-place new old.first (text ++ (part ++ 10 ∷ [])) (moved p said) [] first left (line-rest text part none) i.stands;
      entry = i.entry ∙ sym entry;
      written = given-written given p rest part i.entry;
      gives = gives-same given (left_by old.first text) (place p) (left_by old.first (text ++ (part ++ 10 ∷ []))) (moved p said) at.1 left (subst (λ (e : Option Entry). Gives e (place p) (moved p said)) (sym i.entry) (moved-gives p said));
    }

pub fed-part : (old new : HistoryFeed) (text part : List ℕ) → lines_of part ≡ part ∷ [] → 0 < length part → new.first ≡ old.first → old.fault ≡ None → StandsFor old text
    → ((p : Place) → Keeps old p (rest_behind text) → KeepsLeft new (one_byte p.next p) (rest_behind text ++ part)) → IsFed old new None text part part
fed-part old new text part none some first sound h step =
    let at = at-place old text sound h in
    let p = at.0 in
    let left : left_by old.first (text ++ part) ≡ one_byte p.next p = more-place old.first text part p none at.1 some in
    record {
      stands = stands-place new old.first (text ++ part) (one_byte p.next p) (rest_behind text ++ part) first left (more-rest text part none) (step p at.2);
      entry = sym (ap (entry_ended (left_by old.first text) (rest_behind text)) none ∙ entry-last (left_by old.first text) (rest_behind text) part);
      written = tt;
      gives = gives-same None (left_by old.first text) (place p) (left_by old.first (text ++ part)) (one_byte p.next p) at.1 left (one-gives p.next p);
    }

same-gives : (left : Result Place Fault) → Gives None left left
same-gives (Ok p) = sym (append-nil p.entries)
same-gives (Err d) = refl

pub fed-none : (f : HistoryFeed) (text piece : List ℕ) → eqb (length piece) 0 ≡ true → StandsFor f text → IsFed f f None text piece []
fed-none f text [] e h =
    let same : text ++ [] ≡ text = append-nil text in
    record {
      stands = subst (StandsFor f) (sym same) h;
      entry = sym (entry-last (left_by f.first text) (rest_behind text) []);
      written = tt;
      gives = subst (λ (t : List ℕ). Gives None (left_by f.first text) (left_by f.first t)) (sym same) (same-gives (left_by f.first text));
    }
fed-none f text (b ∷ bs) e h = let none : length (b ∷ bs) ≡ 0 = eqb-true _ _ e in absurd (omega arith)

pub fed-fault : (f : HistoryFeed) (text piece taken : List ℕ) (d : Fault) → f.fault ≡ Some d → StandsFor f text → IsFed f f None text piece taken
fed-fault f text piece taken d some h =
    let so = at-fault f text d some h in
    let left : left_by f.first (text ++ taken) ≡ Err d = left-fault f.first text taken d so in
    record {
      stands = keeps-fault f (left_by f.first (text ++ taken)) d (rest_behind (text ++ taken)) left some;
      entry = sym (ap (λ (l : Result Place Fault). entry_ended l (rest_behind text) (lines_of piece)) so);
      written = tt;
      gives = gives-none (left_by f.first text) (left_by f.first (text ++ taken)) d left;
    }

-- ---- the end

finish_place : (f : HistoryFeed) (text : List ℕ) (p : Place) → left_by f.first text ≡ Ok p → history_of f.first text ≡ whole_at p.next p
finish_place f text p is = whole-left f.first text ∙ ap whole_of is

pub finish-open : (f : HistoryFeed) (text : List ℕ) (x : Expected) → f.expected ≡ x → ((p : Place) → whole_at x p ≡ Err (p.line, why.NoEnd)) → f.fault ≡ None → StandsFor f text → count_of (history_of f.first text) ≡ Err (f.line, why.NoEnd)
finish-open f text x is open_end none h =
    let at = at-place f text none h in
    let p = at.0 in
    let k = at.2 in
    let ends : whole_at p.next p ≡ Err (p.line, why.NoEnd) = ap (λ (t : Expected). whole_at t p) (sym k.expected ∙ is) ∙ open_end p in
    ap count_of (finish_place f text p at.1 ∙ ends) ∙ ap (λ (n : ℕ). Err (n, why.NoEnd)) (sym k.line)

pub finish-end : (f : HistoryFeed) (text : List ℕ) → f.expected ≡ next.Nothing → f.fault ≡ None → StandsFor f text → count_of (history_of f.first text) ≡ Ok f.entries
finish-end f text is none h =
    let at = at-place f text none h in
    let p = at.0 in
    let k = at.2 in
    let ends : whole_at p.next p ≡ Ok p.entries = ap (λ (t : Expected). whole_at t p) (sym k.expected ∙ is) in
    ap count_of (finish_place f text p at.1 ∙ ends) ∙ ap (λ (n : ℕ). Ok n) (sym k.entries)

pub finish-fault : (f : HistoryFeed) (text : List ℕ) (d : Fault) → f.fault ≡ Some d → StandsFor f text → count_of (history_of f.first text) ≡ Err d
finish-fault f text d some h = ap count_of (whole-left f.first text ∙ ap whole_of (at-fault f text d some h))

-- ---- the start

pub begins : (f : HistoryFeed) (n : ℕ) → f.first ≡ n → Keeps f (begun n) [] → StandsFor f []
unfolding left_by over ended_of rest_of
begins f n first h = subst (λ (k : ℕ). Keeps f (begun k) []) (sym first) h
