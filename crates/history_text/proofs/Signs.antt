-- The words before the sign have none of its bytes, so a line is cut where it was put together.
use Rattle.std.proofs.Common.{◌≡◌, ℕ, ◌+◌, ◌<◌, ◌≤◌, ◌^◌, ◌/◌, ◌%◌, Bool, true, false, cond, eqb, leb, ltb, List, [], ◌∷◌, ◌++◌, drop, Option, Some, None, refl, ap, arith, subst}
use Rattle.std.specs.Prelude.{codes, not}
use Rattle.std.specs.List.{AllByRecursion, list_all, starts_with}
use Rattle.std.specs.Char.{is_ascii_digit}
use Rattle.std.specs.Fmt.{decimal}
use Rattle.std.specs.Str.{bytes_eq}
use Rattle.std.proofs.lemmas.Bool.{and_parts, leb-true, ne_eqb, eq-eqb, not-true, both_ways, false_from_ne_true, cond_both}
use Rattle.std.proofs.lemmas.Bool.Decides.{Decides-eqb}
use Rattle.std.proofs.lemmas.Fmt.{digits_decimal}
use Rattle.std.proofs.lemmas.Slice.Eq.{starts_is}
use Rattle.kern_ids.specs.declared.calls.Call.{Call}
use Rattle.kern_ids.specs.declared.calls.Call.TheVariants.{Map, Unmap, Write, Read, SetState, GetState, Active, Ledger, Exit, PurgeOne, Forced, Scan, Tick, Jetsam, SetBand, SetLimits, Info, Purgeables, Attach}
use Rattle.line_text.specs.declared.verb.Verb.{Verb}
use Rattle.line_text.specs.Cut.{Word, line_of}
use Rattle.line_text.specs.Hex.{glyph, hex_text}
use Rattle.line_text.specs.Verbs.{verb_text, verb_of_call, verbs}
use Rattle.line_text.specs.Calls.{flag_word, fatal_word, call_arguments, call_words, HasLine}
use Rattle.line_text.proofs.NumberLemmas.{own}
use Rattle.line_text.proofs.CallLaws.{verb_again}
use Rattle.history_text.specs.EntryReading.{Parts, with_first, sign_cut}
use Rattle.history_text.proofs.Found.{found}

-- ---- words with no such byte

abbrev pub IsUnsigned : List ℕ → Type 0
IsUnsigned word = AllByRecursion (λ b. eqb b 61 ≡ false) word

unsigned_by : (w : List ℕ) → list_all (λ b. not (eqb b 61)) w ≡ true → IsUnsigned w
unsigned_by [] e = tt
unsigned_by (b ∷ bs) e = let p = and_parts (not (eqb b 61)) (list_all (λ c. not (eqb c 61)) bs) e in (not-true (eqb b 61) p.0, unsigned_by bs p.1)

digits_unsigned : (ds : List ℕ) → list_all is_ascii_digit ds ≡ true → IsUnsigned ds
digits_unsigned [] e = tt
digits_unsigned (d ∷ ds) e =
    let p = and_parts (is_ascii_digit d) (list_all is_ascii_digit ds) e in
    let r = and_parts (leb 48 d) (leb d 57) p.0 in
    let hi : d ≤ 57 = leb-true _ _ r.1 in
    (ne_eqb d 61 (λ h. absurd (omega (arith, h))), digits_unsigned ds p.1)

pub decimal_unsigned : (n : ℕ) → n < 2 ^ 64 → IsUnsigned (decimal n)
decimal_unsigned n small = digits_unsigned (decimal n) (digits_decimal own n (omega arith))

glyph_not : (n : ℕ) → n < 16 → glyph n ≡ 61 → ⊥
glyph_not n small = cond_both (ltb n 10) (48 + n) (87 + n) (λ x. x ≡ 61 → ⊥) (λ e h. absurd (let l : n < 10 = Rattle.std.proofs.lemmas.Bool.ltb-true n 10 e in omega (arith, h))) (λ e h. absurd (omega (arith, h)))

hex_unsigned : (bs : List ℕ) → AllByRecursion (λ b. b < 256) bs → IsUnsigned (hex_text bs)
hex_unsigned [] all = tt
hex_unsigned (b ∷ bs) all =
    let small : b < 256 = all.0 in
    (ne_eqb (glyph (b / 16)) 61 (glyph_not (b / 16) (omega arith)), (ne_eqb (glyph (b % 16)) 61 (glyph_not (b % 16) (omega arith)), hex_unsigned bs all.1))

verb_unsigned : (v : Verb) → IsUnsigned (verb_text v)
verb_unsigned v = let f = found (λ x. bytes_eq (verb_text v) (verb_text x)) (λ x. list_all (λ b. not (eqb b 61)) (verb_text x)) verbs v refl (verb_again v) in unsigned_by (verb_text v) f.1

flag_unsigned : (on : Bool) → IsUnsigned (flag_word on)
flag_unsigned true = unsigned_by (codes "1") refl
flag_unsigned false = unsigned_by (codes "0") refl

fatal_unsigned : (fatal : Bool) → IsUnsigned (fatal_word fatal)
fatal_unsigned true = unsigned_by (codes "fatal") refl
fatal_unsigned false = unsigned_by (codes "soft") refl

arguments_unsigned : (c : Call) → HasLine 64 256 c → AllByRecursion IsUnsigned (call_arguments c)
arguments_unsigned (Map o) h = (decimal_unsigned o (omega arith), tt)
arguments_unsigned (Attach o) h = (decimal_unsigned o (omega arith), tt)
arguments_unsigned (Unmap o) h = (decimal_unsigned o (omega arith), tt)
arguments_unsigned (GetState o) h = (decimal_unsigned o (omega arith), tt)
arguments_unsigned (Write o off bytes) h = (decimal_unsigned o (omega arith), (decimal_unsigned off (omega arith), (let b = h.2 in hex_unsigned bytes b.2, tt)))
arguments_unsigned (Read o off len) h = (decimal_unsigned o (omega arith), (decimal_unsigned off (omega arith), (decimal_unsigned len (omega arith), tt)))
arguments_unsigned (SetState o word) h = (decimal_unsigned o (omega arith), (decimal_unsigned word (omega arith), tt))
arguments_unsigned (Active on) h = (flag_unsigned on, tt)
arguments_unsigned (SetBand t band) h = (decimal_unsigned t (omega arith), (decimal_unsigned band (omega arith), tt))
arguments_unsigned (SetLimits t a i) h =
    (decimal_unsigned t (omega arith), (decimal_unsigned a.pages (omega arith), (fatal_unsigned a.fatal, (decimal_unsigned i.pages (omega arith), (fatal_unsigned i.fatal, tt)))))
arguments_unsigned Ledger h = tt
arguments_unsigned Exit h = tt
arguments_unsigned PurgeOne h = tt
arguments_unsigned Forced h = tt
arguments_unsigned Scan h = tt
arguments_unsigned Tick h = tt
arguments_unsigned Jetsam h = tt
arguments_unsigned Info h = tt
arguments_unsigned Purgeables h = tt

pub call_unsigned : (c : Call) → HasLine 64 256 c → AllByRecursion IsUnsigned (call_words c)
call_unsigned c h = (verb_unsigned (verb_of_call c), arguments_unsigned c h)

unsigned_append : (word rest : List ℕ) → IsUnsigned word → IsUnsigned rest → IsUnsigned (word ++ rest)
unsigned_append [] rest u more = more
unsigned_append (b ∷ bs) rest u more = (u.0, unsigned_append bs rest u.1 more)

pub line_unsigned : (w : Word) (ws : List Word) → IsUnsigned w → AllByRecursion IsUnsigned ws → IsUnsigned (line_of (w ∷ ws))
line_unsigned w [] u us = u
line_unsigned w (v ∷ ws) u us = unsigned_append w (32 ∷ line_of (v ∷ ws)) u (refl, line_unsigned v ws us.0 us.1)

-- ---- the cut

starts : (s : List ℕ) → starts_with eqb s (codes " = ") ≡ true → s ≡ 32 ∷ 61 ∷ 32 ∷ drop 3 s
starts s e = let t = starts_is Decides-eqb s (codes " = ") (starts_with eqb s (codes " = ")) refl in t.0 e

abbrev second : List ℕ → ℕ
second (a ∷ b ∷ xs) = b
second _ = 0

no_sign : (b c : ℕ) (xs : List ℕ) → eqb c 61 ≡ false → starts_with eqb (b ∷ c ∷ xs) (codes " = ") ≡ false
no_sign b c xs u = false_from_ne_true _ (λ e. both_ways (eqb c 61) u (eq-eqb c 61 (ap second (starts (b ∷ c ∷ xs) e))))

pub sign_again : (front back : List ℕ) → IsUnsigned front → sign_cut (front ++ 32 ∷ 61 ∷ 32 ∷ back) ≡ Some (front, back)
sign_again [] back u = refl
sign_again (b ∷ []) back u =
    let no : starts_with eqb (b ∷ 32 ∷ 61 ∷ 32 ∷ back) (codes " = ") ≡ false = no_sign b 32 (61 ∷ 32 ∷ back) refl in
    rw no refl
sign_again (b ∷ c ∷ cs) back u =
    let no : starts_with eqb (b ∷ c ∷ (cs ++ 32 ∷ 61 ∷ 32 ∷ back)) (codes " = ") ≡ false = no_sign b c (cs ++ 32 ∷ 61 ∷ 32 ∷ back) u.1.0 in
    rw (no, sign_again (c ∷ cs) back u.1) refl

some_is : (x y : Parts) → Some x ≡ Some y → x ≡ y
some_is x y e = cc

first_takes : (b : ℕ) (o : Option Parts) (p : Parts) → with_first b o ≡ Some p → (q : Parts) × (o ≡ Some q) × ((b ∷ q.0, q.1) ≡ p)
first_takes b None p e = absurd cc
first_takes b (Some q) p e = (q, refl, some_is (b ∷ q.0, q.1) p e)

abbrev CutAt : List ℕ → Parts → Type 0
CutAt line p = line ≡ p.0 ++ 32 ∷ 61 ∷ 32 ∷ p.1

sign_by : (b : ℕ) (bs : List ℕ) (p : Parts) (here : Bool) → starts_with eqb (b ∷ bs) (codes " = ") ≡ here → cond here (Some ([], drop 2 bs)) (with_first b (sign_cut bs)) ≡ Some p → ((q : Parts) → sign_cut bs ≡ Some q → CutAt bs q) → CutAt (b ∷ bs) p
sign_by b bs p true is e more = subst (CutAt (b ∷ bs)) (some_is ([], drop 2 bs) p e) (starts (b ∷ bs) is)
sign_by b bs p false is e more =
    let f = first_takes b (sign_cut bs) p e in
    subst (CutAt (b ∷ bs)) f.2 (ap (λ (x : List ℕ). b ∷ x) (more f.0 f.1))

pub sign_takes : (line : List ℕ) (p : Parts) → sign_cut line ≡ Some p → line ≡ p.0 ++ 32 ∷ 61 ∷ 32 ∷ p.1
sign_takes [] p e = absurd cc
sign_takes (b ∷ bs) p e = sign_by b bs p (starts_with eqb (b ∷ bs) (codes " = ")) refl e (λ q h. sign_takes bs q h)
