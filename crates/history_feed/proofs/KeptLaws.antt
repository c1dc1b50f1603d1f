-- What is kept of a line, and more of the line.
use Rattle.std.proofs.Common.{◌≡◌, ℕ, ◌+◌, ◌-◌, ◌<◌, ◌≤◌, ◌^◌, Bool, eqb, ◌&&◌, ◌||◌, List, ◌++◌, length, take, drop, min, inl, inr, Option, Result, Ok, Err, MatchResult, refl, sym, ap, ◌∙◌, arith, append-nil}
use Rattle.std.specs.Prelude.{codes}
use Rattle.std.specs.List.{list_any, list_all}
use Rattle.std.specs.Char.{is_ascii_digit}
use Rattle.std.specs.Str.{bytes_eq}
use Rattle.std.proofs.Math.Nat.{min-eq_left}
use Rattle.std.proofs.Math.ListN.{drop_of_length-le}
use Rattle.std.proofs.Math.Seq.{take-append-add, drop-append-add}
use Rattle.std.proofs.lemmas.Bool.{cases_lt}
use Rattle.std.proofs.lemmas.List.{length-append, length-take-le, take_all, take_min, take-append-le, drop-append-le}
use Rattle.std.proofs.lemmas.List.Folds.{list_any-append, list_all-append}
use Rattle.kern_ids.specs.declared.faults.Why.{Why}
use Rattle.kern_ids.specs.declared.entries.Entry.{Entry}
use Rattle.line_text.specs.Cut.{words_of}
use Rattle.history_text.specs.HistoryReading.{line_says}
use Rattle.history_feed.specs.declared.kept_line.KeptLine.{KeptLine}
use Rattle.history_feed.specs.Kept.{kept_of}
use Rattle.history_feed.specs.LongLines.{long_fault}
use Rattle.history_feed.proofs.LongLaws.{other_length, long-says}

abbrev kept : List ℕ → ℕ → Bool → Bool → KeptLine
kept head len spaced digits = record { head = head; len = len; spaced = spaced; digits = digits }

-- how much of what comes still belongs to the front
abbrev part_of : ℕ → List ℕ → List ℕ → ℕ
part_of n xs ys = min (n - length (take n xs)) (length ys)

drop_min : (n : ℕ) (xs : List ℕ) → drop (min n (length xs)) xs ≡ drop n xs
drop_min n xs = elim (cases_lt n (length xs)) [
  | inl less ↦ let le : n ≤ length xs = omega arith in ap (λ (k : ℕ). drop k xs) (min-eq_left le)
  | inr few ↦ drop_of_length-le xs (omega arith) ∙ sym (drop_of_length-le xs few)
]

front-append : (n : ℕ) (xs ys : List ℕ) (mid : ℕ) → mid ≡ part_of n xs ys → take n (xs ++ ys) ≡ take n xs ++ take mid ys
front-append n xs ys mid e = elim (cases_lt n (length xs)) [
  | inl more ↦
      let full : length (take n xs) ≡ n = length-take-le n xs (omega arith) in
      let none : mid ≡ 0 = omega (arith, e, full) in
      take-append-le n xs ys (omega arith) ∙ sym (append-nil (take n xs)) ∙ ap (λ (m : ℕ). take n xs ++ take m ys) (sym none)
  | inr few ↦
      let whole : take n xs ≡ xs = take_all n xs few in
      let left : n ≡ length xs + (n - length xs) = omega arith in
      let same : take mid ys ≡ take (n - length xs) ys = ap (λ (m : ℕ). take m ys) (e ∙ ap (λ (t : List ℕ). min (n - length t) (length ys)) whole) ∙ take_min (n - length xs) ys in
      ap (λ (m : ℕ). take m (xs ++ ys)) left ∙ take-append-add xs ys (n - length xs) ∙ ap (λ (t : List ℕ). xs ++ t) (sym same) ∙ ap (λ (t : List ℕ). t ++ take mid ys) (sym whole)
]

back-append : (n : ℕ) (xs ys : List ℕ) (mid : ℕ) → mid ≡ part_of n xs ys → drop n (xs ++ ys) ≡ drop n xs ++ drop mid ys
back-append n xs ys mid e = elim (cases_lt n (length xs)) [
  | inl more ↦
      let full : length (take n xs) ≡ n = length-take-le n xs (omega arith) in
      let none : mid ≡ 0 = omega (arith, e, full) in
      drop-append-le n xs ys (omega arith) ∙ ap (λ (m : ℕ). drop n xs ++ drop m ys) (sym none)
  | inr few ↦
      let whole : take n xs ≡ xs = take_all n xs few in
      let left : n ≡ length xs + (n - length xs) = omega arith in
      let same : drop mid ys ≡ drop (n - length xs) ys = ap (λ (m : ℕ). drop m ys) (e ∙ ap (λ (t : List ℕ). min (n - length t) (length ys)) whole) ∙ drop_min (n - length xs) ys in
      ap (λ (m : ℕ). drop m (xs ++ ys)) left ∙ drop-append-add xs ys (n - length xs) ∙ sym same ∙ ap (λ (t : List ℕ). t ++ drop mid ys) (sym (drop_of_length-le xs few))
]

pub kept-head : (k : KeptLine) (line : List ℕ) → k ≡ kept_of line → k.head ≡ take 1100 line
unfolding kept_of
kept-head k line e = ap (λ (k : KeptLine). k.head) e

pub kept-len : (k : KeptLine) (line : List ℕ) → k ≡ kept_of line → k.len ≡ length line
unfolding kept_of
kept-len k line e = ap (λ (k : KeptLine). k.len) e

kept-spaced : (k : KeptLine) (line : List ℕ) → k ≡ kept_of line → k.spaced ≡ list_any (λ b. eqb b 32) (drop 1100 line)
unfolding kept_of
kept-spaced k line e = ap (λ (k : KeptLine). k.spaced) e

kept-digits : (k : KeptLine) (line : List ℕ) → k ≡ kept_of line → k.digits ≡ list_all is_ascii_digit (drop 1100 line)
unfolding kept_of
kept-digits k line e = ap (λ (k : KeptLine). k.digits) e

kept_by : (h g : List ℕ) (n m : ℕ) (s r d c : Bool) → h ≡ g → n ≡ m → s ≡ r → d ≡ c → kept h n s d ≡ kept g m r c
kept_by h g n m s r d c e1 e2 e3 e4 =
    ap (λ (x : List ℕ). kept x n s d) e1 ∙ ap (λ (x : ℕ). kept g x s d) e2 ∙ ap (λ (x : Bool). kept g m x d) e3 ∙ ap (λ (x : Bool). kept g m r x) e4

pub kept-push : (k : KeptLine) (line part : List ℕ) (mid : ℕ) → k ≡ kept_of line → mid ≡ min (1100 - length k.head) (length part)
    → kept (k.head ++ take mid part) (k.len + length part) (k.spaced || list_any (λ b. eqb b 32) (drop mid part)) (k.digits && list_all is_ascii_digit (drop mid part)) ≡ kept_of (line ++ part)
unfolding kept_of
kept-push k line part mid e at =
    let head = kept-head k line e in
    let same : mid ≡ part_of 1100 line part = at ∙ ap (λ (t : List ℕ). min (1100 - length t) (length part)) head in
    kept_by _ _ _ _ _ _ _ _
    (ap (λ (t : List ℕ). t ++ take mid part) head ∙ sym (front-append 1100 line part mid same))
    (ap (λ (t : ℕ). t + length part) (kept-len k line e) ∙ sym (length-append line part))
    (ap (λ (t : Bool). t || list_any (λ b. eqb b 32) (drop mid part)) (kept-spaced k line e) ∙ sym (list_any-append (λ b. eqb b 32) (drop 1100 line) (drop mid part)) ∙ ap (list_any (λ b. eqb b 32)) (sym (back-append 1100 line part mid same)))
    (ap (λ (t : Bool). t && list_all is_ascii_digit (drop mid part)) (kept-digits k line e) ∙ sym (list_all-append is_ascii_digit (drop 1100 line) (drop mid part)) ∙ ap (list_all is_ascii_digit) (sym (back-append 1100 line part mid same)))

pub kept-pushed : (k : KeptLine) (line part head front back : List ℕ) (mid : ℕ) (spaced digits : Bool) → k ≡ kept_of line → mid ≡ min (1100 - length k.head) (length part) → front ≡ take mid part → back ≡ drop mid part
    → head ≡ k.head ++ front → spaced ≡ (k.spaced || list_any (λ b. eqb b 32) back) → digits ≡ (k.digits && list_all is_ascii_digit back) → kept head (k.len + length part) spaced digits ≡ kept_of (line ++ part)
kept-pushed k line part head front back mid spaced digits e at e1 e2 e3 e4 e5 =
    kept_by _ _ _ _ _ _ _ _
    (e3 ∙ ap (λ (t : List ℕ). k.head ++ t) e1)
    refl
    (e4 ∙ ap (λ (t : List ℕ). k.spaced || list_any (λ b. eqb b 32) t) e2)
    (e5 ∙ ap (λ (t : List ℕ). k.digits && list_all is_ascii_digit t) e2)
    ∙ kept-push k line part mid e at

-- ---- the whole line

-- what a reader answers is what is said
pub says-same : (said r : Result (Option Entry) Why) → MatchResult r (λ s. said ≡ Ok s) (λ d. said ≡ Err d) → said ≡ r
says-same said (Ok s) h = h
says-same said (Err d) h = h

opening_head : (line : List ℕ) → bytes_eq (take 1100 line) (codes "history") ≡ bytes_eq line (codes "history")
opening_head line = elim (cases_lt 1100 (length line)) [
  | inl more ↦
      let full : length (take 1100 line) ≡ 1100 = length-take-le 1100 line (omega arith) in
      other_length (take 1100 line) (codes "history") (λ e. absurd (omega (arith, e, full))) ∙ sym (other_length line (codes "history") (λ e. absurd (omega (arith, e))))
  | inr few ↦ ap (λ (t : List ℕ). bytes_eq t (codes "history")) (take_all 1100 line few)
]

pub kept-opening : (k : KeptLine) (line : List ℕ) → k ≡ kept_of line → bytes_eq k.head (codes "history") ≡ bytes_eq line (codes "history")
kept-opening k line e = ap (λ (t : List ℕ). bytes_eq t (codes "history")) (kept-head k line e) ∙ opening_head line

pub kept-short : (k : KeptLine) (line : List ℕ) → k ≡ kept_of line → k.len ≤ 1100 → k.head ≡ line
kept-short k line e short = kept-head k line e ∙ take_all 1100 line (let len = kept-len k line e in omega (arith, len))

pub kept-long : (k : KeptLine) (line : List ℕ) (count : ℕ) → k ≡ kept_of line → count < 2 ^ 32 → 1100 < k.len → line_says count line ≡ Err (long_fault (words_of k.head) k.spaced k.digits)
kept-long k line count e small long =
    let len = kept-len k line e in
    long-says count line (omega arith) (omega (arith, len))
    ∙ ap (λ (t : List ℕ). Err (long_fault (words_of t) (list_any (λ b. eqb b 32) (drop 1100 line)) (list_all is_ascii_digit (drop 1100 line)))) (sym (kept-head k line e))
    ∙ ap (λ (t : Bool). Err (long_fault (words_of k.head) t (list_all is_ascii_digit (drop 1100 line)))) (sym (kept-spaced k line e))
    ∙ ap (λ (t : Bool). Err (long_fault (words_of k.head) k.spaced t)) (sym (kept-digits k line e))
