-- A word that is to be a number.
use Rattle.std.proofs.Common.{◌≡◌, ◌≤◌, ℕ, true, false, leb, ltb, eqb, ◌||◌, List, [], ◌∷◌, length, get_or, Option, Some, None, Result, Ok, Err, refl, sym, ap, ◌∙◌, arith}
use Rattle.std.specs.List.{list_all}
use Rattle.std.specs.Char.{is_ascii_digit}
use Rattle.std.specs.Result.{result_ok}
use Rattle.std.proofs.lemmas.Bool.{ne_eqb, and_parts, leb-true}
use Rattle.kern_ids.specs.declared.faults.Why.{Why}
use Rattle.line_text.specs.Cut.{Word, words_of}
use Rattle.line_text.specs.Numbers.{is_plain, number_in}
use Rattle.line_text.specs.Words.{number, ◌>>=◌}
use Rattle.commands.specs.Commands.{number_to}

-- digits are one word
digits_alone : (w : Word) → list_all is_ascii_digit w ≡ true → words_of w ≡ w ∷ []
digits_alone [] digits = refl
digits_alone (b ∷ bs) digits =
    let p = and_parts (is_ascii_digit b) (list_all is_ascii_digit bs) digits in
    let least : 48 ≤ b = leb-true _ _ (and_parts (leb 48 b) (leb b 57) p.0).0 in
    let other : eqb b 32 ≡ false = ne_eqb b 32 (λ e. absurd (omega arith)) in
    rw (other, digits_alone bs p.1) refl

plain_alone : (w : Word) → is_plain w ≡ true → words_of w ≡ w ∷ []
plain_alone w plain = digits_alone w (and_parts (list_all is_ascii_digit w) ((eqb (length w) 1) || ltb 48 (get_or w 0 0)) plain).0

-- what is read of a line of one word
abbrev read_alone : Result ℕ Why → Result (ℕ × List Word) Why
read_alone r = ◌>>=◌ {B = ℕ × List Word} r (λ m. Ok (m, []))

-- the number that was read, if one was
abbrev first_read : Result (ℕ × List Word) Why → Option ℕ
first_read (Ok p) = Some p.0
first_read (Err f) = None

said : (r : Result ℕ Why) (x : Result (ℕ × List Word) Why) → read_alone r ≡ x → first_read x ≡ result_ok r
said (Ok m) x e = sym (ap first_read e)
said (Err f) x e = sym (ap first_read e)

number_alone : (high : ℕ) (w : Word) → is_plain w ≡ true → number 0 high (words_of w) ≡ read_alone (number_in 0 high w)
number_alone high w plain = ap (number 0 high) (plain_alone w plain)

-- what the reader of a line's words says of a plain decimal
pub number_read : (high n : ℕ) (w : Word) (rest : List Word) → is_plain w ≡ true → number 0 high (words_of w) ≡ Ok (n, rest) → Some n ≡ number_to high w
number_read high n w rest plain e = said (number_in 0 high w) (Ok (n, rest)) (sym (number_alone high w plain) ∙ e)

pub number_refused : (high : ℕ) (w : Word) (why : Why) → is_plain w ≡ true → number 0 high (words_of w) ≡ Err why → None ≡ number_to high w
number_refused high w why plain e = said (number_in 0 high w) (Err why) (sym (number_alone high w plain) ∙ e)

-- and what is no plain decimal is no number
pub number_not_plain : (high : ℕ) (w : Word) → is_plain w ≡ false → None ≡ number_to high w
unfolding number_in
number_not_plain high w other = rw other refl
