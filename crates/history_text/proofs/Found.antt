-- What is found by its word.
use Rattle.std.proofs.Common.{◌≡◌, Bool, true, false, cond, List, [], ◌∷◌, Option, Some, None, Ok, refl, sym, ap, ◌∙◌, find}
use Rattle.std.specs.List.{list_all}
use Rattle.std.specs.Str.{bytes_eq}
use Rattle.std.proofs.lemmas.Bool.{and_parts}
use Rattle.std.proofs.lemmas.Slice.Eq.{bytes_eq-Decides}
use Rattle.line_text.specs.Cut.{Word}
use Rattle.line_text.proofs.GrammarLemmas.{ok_is}
use Rattle.history_text.specs.ReplyReading.{named, one_of}

some_is : {A : Type 0} (x y : A) → Some x ≡ Some y → x ≡ y
some_is x y e = cc

found_at : {A : Type 0} (p q : A → Bool) (y x : A) (b : Bool) (rest : Option A) → p y ≡ b → q y ≡ true → cond b (Some y) rest ≡ Some x → (rest ≡ Some x → (p x ≡ true) × (q x ≡ true)) → (p x ≡ true) × (q x ≡ true)
found_at p q y x true rest h k e more = let same = sym (some_is y x e) in (ap p same ∙ h, ap q same ∙ k)
found_at p q y x false rest h k e more = more e

-- what is found passes, and whatever passes for all passes for it
pub found : {A : Type 0} (p q : A → Bool) (xs : List A) (x : A) → list_all q xs ≡ true → find p xs ≡ Some x → (p x ≡ true) × (q x ≡ true)
found p q [] x all e = absurd cc
found p q (y ∷ ys) x all e =
    let h = and_parts (q y) (list_all q ys) all in
    found_at p q y x (p y) (find p ys) refl h.0 e (found p q ys x h.1)

always : {A : Type 0} (xs : List A) → list_all (λ x. true) xs ≡ true
always [] = refl
always (x ∷ xs) = always xs

pub named_takes : {A : Type 0} (o : Option A) (ws : List Word) (r : A × List Word) → named o ws ≡ Ok r → (o ≡ Some r.0) × (ws ≡ r.1)
named_takes None ws r e = absurd cc
named_takes {A = A} (Some x) ws r e = let same : (x, ws) ≡ r = ok_is (x, ws) r e in (ap (λ (p : A × List Word). Some p.0) same, ap (λ (p : A × List Word). p.1) same)

-- what is read by its word is spelled so
pub one_of_takes : {A : Type 0} (text : A → Word) (q : A → Bool) (xs : List A) (ws : List Word) (r : A × List Word) → list_all q xs ≡ true → one_of text xs ws ≡ Ok r → (ws ≡ text r.0 ∷ r.1) × (q r.0 ≡ true)
one_of_takes text q xs [] r all e = absurd cc
one_of_takes text q xs (w ∷ ws) r all e =
    let n = named_takes (find (λ x. bytes_eq w (text x)) xs) ws r e in
    let f = found (λ x. bytes_eq w (text x)) q xs r.0 all n.0 in
    let d = bytes_eq-Decides w (text r.0) in
    (ap (λ (v : Word). v ∷ ws) (d.0 f.0) ∙ ap (λ (v : List Word). text r.0 ∷ v) n.1, f.1)

pub word_takes : {A : Type 0} (text : A → Word) (xs : List A) (ws : List Word) (r : A × List Word) → one_of text xs ws ≡ Ok r → ws ≡ text r.0 ∷ r.1
word_takes text xs ws r e = let t = one_of_takes text (λ x. true) xs ws r (always xs) e in t.0

-- and what is spelled so is read
pub word_again : {A : Type 0} (text : A → Word) (xs : List A) (x : A) (rest : List Word) → find (λ y. bytes_eq (text x) (text y)) xs ≡ Some x → one_of text xs (text x ∷ rest) ≡ Ok (x, rest)
word_again text xs x rest e = rw e refl
