-- What a line of more than 1,100 bytes says: by its first 1,100 bytes, and facts on the others.
use Rattle.std.proofs.Common.{◌≡◌, ℕ, ◌<◌, ◌^◌, Bool, true, false, cond, eqb, ltb, ◌&&◌, ◌||◌, List, [], ◌∷◌, ◌++◌, length, take, drop, Option, None, Result, Ok, Err, refl, sym, ap, ◌∙◌, arith}
use Rattle.std.specs.Prelude.{codes}
use Rattle.std.specs.List.{slice_split, onto_first, list_any, list_all}
use Rattle.std.specs.Char.{is_ascii_digit}
use Rattle.std.specs.Fmt.{decimal}
use Rattle.std.specs.Str.{bytes_eq}
use Rattle.std.proofs.lemmas.Bool.{ne_eqb, false_from_ne_true}
use Rattle.std.proofs.lemmas.Fmt.{length-decimal-le}
use Rattle.std.proofs.lemmas.List.{length-append, length-take-le, take-append-drop}
use Rattle.std.proofs.lemmas.List.Folds.{list_all-append}
use Rattle.std.proofs.lemmas.List.Splits.{join_with_byte-slice_split}
use Rattle.std.proofs.lemmas.Slice.Eq.{bytes_eq-Decides}
use Rattle.kern_ids.specs.declared.faults.Why.{Why}
use Rattle.kern_ids.specs.declared.faults.Why.TheVariants as why
use Rattle.kern_ids.specs.declared.entries.Entry.{Entry}
use Rattle.line_text.specs.Cut.{Word, words_of, line_of}
use Rattle.line_text.specs.Numbers.{is_plain}
use Rattle.line_text.proofs.CutLemmas.{some_part}
use Rattle.history_text.specs.EntryReading.{entry_of}
use Rattle.history_text.specs.HistoryReading.{closing_words, one_more, said_by, line_says}
use Rattle.history_feed.specs.Lines.{ended_of, rest_of}
use Rattle.history_feed.specs.LongLines.{long_done, long_fault}
use Rattle.history_feed.proofs.Splits.{joined_to, split-append}
use Rattle.history_feed.proofs.Lengths.{entry-short}

-- ---- words

pub other_length : (w v : Word) → (length w ≡ length v → ⊥) → bytes_eq w v ≡ false
other_length w v apart = false_from_ne_true (bytes_eq w v) (λ e. let d = bytes_eq-Decides w v in apart (ap length (d.0 e)))

-- one part where no byte passes the test, else two at least
abbrev Parts : Bool → List ℕ → List (List ℕ) → Type 0
Parts false xs parts = parts ≡ xs ∷ []
Parts true xs parts = (a : List ℕ) × (b : List ℕ) × (more : List (List ℕ)) × (parts ≡ a ∷ b ∷ more)

parts_two : (parts : List (List ℕ)) → (parts ≡ [] → ⊥) → (a : List ℕ) × (b : List ℕ) × (more : List (List ℕ)) × ([] ∷ parts ≡ a ∷ b ∷ more)
parts_two [] some = absurd (some refl)
parts_two (part ∷ parts) some = ([], part, parts, refl)

parts_more : (p : ℕ → Bool) (x : ℕ) (xs : List ℕ) (c d : Bool) → Parts d xs (slice_split p xs) → Parts (c || d) (x ∷ xs) (cond c ([] ∷ slice_split p xs) (onto_first x (slice_split p xs)))
parts_more p x xs true d h = parts_two (slice_split p xs) (some_part p xs)
parts_more p x xs false false h = ap (onto_first x) h
parts_more p x xs false true h = (x ∷ h.0, h.1, h.2, ap (onto_first x) h.3)

parts_by : (p : ℕ → Bool) (xs : List ℕ) → Parts (list_any p xs) xs (slice_split p xs)
parts_by p [] = refl
parts_by p (x ∷ xs) = parts_more p x xs (p x) (list_any p xs) (parts_by p xs)

-- ---- a number that goes on

regroup : (a b q : Bool) → ((a && b) && q) ≡ (b && (a && q))
regroup true true q = refl
regroup true false q = refl
regroup false true q = refl
regroup false false q = refl

plain-append : (v t : Word) → 1 < length v → is_plain (v ++ t) ≡ (list_all is_ascii_digit t && is_plain v)
plain-append [] t l = absurd (omega arith)
plain-append (a ∷ as') t l =
    let one : eqb (length (a ∷ (as' ++ t))) 1 ≡ false = ne_eqb (length (a ∷ (as' ++ t))) 1 (λ e. absurd (omega (arith, e, length-append as' t))) in
    let two : eqb (length (a ∷ as')) 1 ≡ false = ne_eqb (length (a ∷ as')) 1 (λ e. absurd (omega (arith, e))) in
    let all : list_all is_ascii_digit (a ∷ (as' ++ t)) ≡ (list_all is_ascii_digit (a ∷ as') && list_all is_ascii_digit t) = list_all-append is_ascii_digit (a ∷ as') t in
    ap (λ (b : Bool). b && (eqb (length (a ∷ (as' ++ t))) 1 || ltb 48 a)) all
    ∙ ap (λ (b : Bool). (list_all is_ascii_digit (a ∷ as') && list_all is_ascii_digit t) && (b || ltb 48 a)) (one ∙ sym two)
    ∙ regroup (list_all is_ascii_digit (a ∷ as')) (list_all is_ascii_digit t) (eqb (length (a ∷ as')) 1 || ltb 48 a)

no_count : (count : ℕ) (v t : Word) → count < 2 ^ 64 → 20 < length v → bytes_eq (v ++ t) (decimal count) ≡ false
no_count count v t small long =
    other_length (v ++ t) (decimal count) (λ e. absurd (omega (arith, e, length-append v t, length-decimal-le 20 count (omega arith) (omega arith) (omega arith))))

-- ---- a closing line

abbrev pub refused : Why → Result (Option Entry) Why
refused d = Err d

err_by : (b : Bool) (x y : Why) → cond b (Err x) (Err y) ≡ refused (cond b x y)
err_by true x y = refl
err_by false x y = refl

closing_two : (count : ℕ) (v : Word) (ws : List Word) → (ws ≡ [] → ⊥) → closing_words count (v ∷ ws) ≡ Err why.Word
unfolding closing_words
closing_two count v [] some = absurd (some refl)
closing_two count v (w ∷ ws) some = refl

closing_one : (count : ℕ) (v t : Word) → count < 2 ^ 64 → 20 < length v → closing_words count ((v ++ t) ∷ []) ≡ Err (cond (list_all is_ascii_digit t && is_plain v) why.Count why.Number)
unfolding closing_words
closing_one count v t small long =
    let inner : Bool → Bool → Result (Option Entry) Why = λ p b. cond p (cond b (Ok None) (Err why.Count)) (Err why.Number) in
    ap (λ (b : Bool). inner (is_plain (v ++ t)) b) (no_count count v t small long)
    ∙ ap (λ (p : Bool). inner p false) (plain-append v t (omega arith))
    ∙ err_by (list_all is_ascii_digit t && is_plain v) why.Count why.Number

joined-some : (front : List ℕ) (parts : List (List ℕ)) → joined_to front parts ≡ [] → ⊥
joined-some front [] e = absurd cc
joined-some front (part ∷ parts) e = absurd cc

append-some : (xs ys : List (List ℕ)) → (ys ≡ [] → ⊥) → xs ++ ys ≡ [] → ⊥
append-some [] ys some e = some e
append-some (x ∷ xs) ys some e = absurd cc

closing_last : (count : ℕ) (v tail : Word) (d : Bool) → count < 2 ^ 64 → 20 < length v → Parts d tail (words_of tail) → closing_words count (joined_to v (words_of tail)) ≡ Err (long_done (v ∷ []) d (list_all is_ascii_digit tail))
closing_last count v tail false small long h = ap (λ (t : List Word). closing_words count (joined_to v t)) h ∙ closing_one count v tail small long
closing_last count v tail true small long h = ap (λ (t : List Word). closing_words count (joined_to v t)) h.3 ∙ closing_two count (v ++ h.0) (h.1 ∷ h.2) (λ e. absurd cc)

closing_long : (count : ℕ) (tail v : Word) (ws : List Word) → count < 2 ^ 64 → (ws ≡ [] → 20 < length v)
    → closing_words count (ended_of (v ∷ ws) ++ joined_to (rest_of (v ∷ ws)) (words_of tail)) ≡ Err (long_done (v ∷ ws) (list_any (λ b. eqb b 32) tail) (list_all is_ascii_digit tail))
unfolding ended_of rest_of
closing_long count tail v [] small long = closing_last count v tail (list_any (λ b. eqb b 32) tail) small (long refl) (parts_by (λ b. eqb b 32) tail)
closing_long count tail v (w ∷ ws) small long =
    closing_two count v (ended_of (w ∷ ws) ++ joined_to (rest_of (w ∷ ws)) (words_of tail)) (append-some (ended_of (w ∷ ws)) (joined_to (rest_of (w ∷ ws)) (words_of tail)) (joined-some (rest_of (w ∷ ws)) (words_of tail)))

-- ---- a line

no_entry : (count : ℕ) (line : List ℕ) (r : Result Entry Why) → entry_of line ≡ r → 1100 < length line → one_more count r ≡ Err why.Entry
no_entry count line (Ok e) is long = absurd (omega (arith, entry-short line e is))
no_entry count line (Err d) is long = refl

other_word : (count : ℕ) (line : List ℕ) (w : Word) (ws : List Word) → bytes_eq w (codes "done") ≡ false → 1100 < length line → said_by count line (w ∷ ws) ≡ Err why.Entry
other_word count line w ws other long = ap (λ (b : Bool). cond b (closing_words count ws) (one_more count (entry_of line))) other ∙ no_entry count line (entry_of line) refl long

first_goes_on : (count : ℕ) (line : List ℕ) (w : Word) (parts : List Word) → 4 < length w → 1100 < length line → said_by count line (joined_to w parts) ≡ Err why.Entry
first_goes_on count line w [] some long = other_word count line w [] (other_length w (codes "done") (λ e. absurd (omega (arith, e)))) long
first_goes_on count line w (t ∷ ts) some long = other_word count line (w ++ t) ts (other_length (w ++ t) (codes "done") (λ e. absurd (omega (arith, e, length-append w t)))) long

said_when : (c : Bool) (count : ℕ) (line tail w v : Word) (ws : List Word) → bytes_eq w (codes "done") ≡ c → count < 2 ^ 64 → 1100 < length line → (ws ≡ [] → length w ≡ 4 → 20 < length v)
    → cond c (closing_words count (ended_of (v ∷ ws) ++ joined_to (rest_of (v ∷ ws)) (words_of tail))) (one_more count (entry_of line)) ≡ refused (cond c (long_done (v ∷ ws) (list_any (λ b. eqb b 32) tail) (list_all is_ascii_digit tail)) why.Entry)
said_when true count line tail w v ws is small long more =
    let four : length w ≡ 4 = let d = bytes_eq-Decides w (codes "done") in ap length (d.0 is) in
    closing_long count tail v ws small (λ e. more e four)
said_when false count line tail w v ws is small long more = no_entry count line (entry_of line) refl long

said_long : (count : ℕ) (line tail : List ℕ) (ws : List Word) → count < 2 ^ 64 → 1100 < length line → length (line_of ws) ≡ 1100 → (ws ≡ [] → ⊥)
    → said_by count line (ended_of ws ++ joined_to (rest_of ws) (words_of tail)) ≡ Err (long_fault ws (list_any (λ b. eqb b 32) tail) (list_all is_ascii_digit tail))
unfolding ended_of rest_of
said_long count line tail [] small long all some = absurd (some refl)
said_long count line tail (w ∷ []) small long all some =
    let other : bytes_eq w (codes "done") ≡ false = other_length w (codes "done") (λ e. absurd (omega (arith, all, e))) in
    first_goes_on count line w (words_of tail) (omega (arith, all)) long
    ∙ sym (ap (λ (b : Bool). refused (cond b (long_done [] (list_any (λ b. eqb b 32) tail) (list_all is_ascii_digit tail)) why.Entry)) other)
said_long count line tail (w ∷ v ∷ ws) small long all some =
    said_when (bytes_eq w (codes "done")) count line tail w v ws refl small long (λ e four. let whole : length (w ++ 32 ∷ v) ≡ 1100 = ap (λ (x : List Word). length (line_of (w ∷ v ∷ x))) (sym e) ∙ all in omega (arith, whole, four, length-append w (32 ∷ v)))

pub long-says : (count : ℕ) (line : List ℕ) → count < 2 ^ 64 → 1100 < length line
    → line_says count line ≡ Err (long_fault (words_of (take 1100 line)) (list_any (λ b. eqb b 32) (drop 1100 line)) (list_all is_ascii_digit (drop 1100 line)))
unfolding line_says
long-says count line small long =
    let head = take 1100 line in
    let tail = drop 1100 line in
    let cut : words_of line ≡ ended_of (words_of head) ++ joined_to (rest_of (words_of head)) (words_of tail) = ap words_of (sym (take-append-drop 1100 line)) ∙ split-append (λ b. eqb b 32) head tail in
    let all : length (line_of (words_of head)) ≡ 1100 = ap length (join_with_byte-slice_split 32 head) ∙ length-take-le 1100 line (omega arith) in
    ap (said_by count line) cut ∙ said_long count line tail (words_of head) small long all (some_part (λ b. eqb b 32) head)
