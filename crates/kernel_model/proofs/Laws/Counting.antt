-- Sums and counts that change at one element.
use Rattle.std.proofs.Common.{◌≡◌, ℕ, zero, suc, ◌+◌, ◌<◌, ◌≤◌, List, [], ◌∷◌, map, refl, sym, ap, ap₂, ◌∙◌, Bool, true, false, not, cond, ◌&&◌, ◌||◌, count_by, nat_eq, if◌then◌else◌, arith, inl, inr, ◌⊎◌, zero-le}
use Rattle.std.specs.Prelude.{sum_by, flat_map}
use Rattle.std.specs.List.{range_with_len}
use Rattle.std.proofs.lemmas.List.Sums.{sum_by-cons, sum_by-append}
use Rattle.std.proofs.lemmas.List.Concat.{flat_map-cons}
use Rattle.std.proofs.lemmas.Bool.Decides.{eqb_tells, nat_tests}
use Rattle.std.proofs.lemmas.Bool.{cases_lt}
use Rattle.kernel_model.specs.Laws.Frames.{bit}
use Rattle.kernel_model.proofs.Laws.Agree.{count_by-cons}

bit_le : (b : Bool) → bit b ≤ 1
bit_le true = omega arith
bit_le false = omega arith

bit_weaker : (f g : Bool) → (f ≡ true → g ≡ true) → bit f ≤ bit g
bit_weaker true g h = rw (h refl) (omega arith)
bit_weaker false g h = zero-le

bit_either : (f g h : Bool) → (f ≡ true → (g || h) ≡ true) → bit f ≤ bit g + bit h
bit_either true true h k = omega arith
bit_either true false h k = rw (k refl) (omega arith)
bit_either false g h k = zero-le

both : (b : Bool) → (b ≡ true) ⊎ (b ≡ false)
both true = inl refl
both false = inr refl

-- a test that changes at one element, which stands once
module _ {A : Type 0} (same : A → Bool) (p : A) (f g : A → Bool) (only : (x : A) → same x ≡ true → x ≡ p) (apart : (x : A) → same x ≡ false → f x ≡ g x) where
  pub count_by-apart : (xs : List A) → count_by same xs ≡ 0 → count_by f xs ≡ count_by g xs
  count_by-apart [] n = refl
  count_by-apart (x ∷ xs) n =
      let c : cond (same x) 1 0 + count_by same xs ≡ 0 = sym (count_by-cons same x xs) ∙ n in
      count_by-cons f x xs ∙ elim (both (same x)) [
        | inl here ↦ absurd (let c' : 1 + count_by same xs ≡ 0 = rw here at c in omega arith)
        | inr off ↦
            let c' : 0 + count_by same xs ≡ 0 = rw off at c in
            rw (apart x off, count_by-apart xs (omega arith)) (sym (count_by-cons g x xs))
      ]

  pub count_by-once : (xs : List A) → count_by same xs ≡ 1 → count_by f xs + cond (g p) 1 0 ≡ count_by g xs + cond (f p) 1 0
  count_by-once [] n = absurd (omega arith)
  count_by-once (x ∷ xs) n =
      let c : cond (same x) 1 0 + count_by same xs ≡ 1 = sym (count_by-cons same x xs) ∙ n in
      let cf = count_by-cons f x xs in
      let cg = count_by-cons g x xs in
      elim (both (same x)) [
        | inl here ↦
            let c' : 1 + count_by same xs ≡ 1 = rw here at c in
            let rest = count_by-apart xs (omega arith) in
            let hf : bit (f x) ≡ bit (f p) = ap (λ y. bit (f y)) (only x here) in
            let hg : bit (g x) ≡ bit (g p) = ap (λ y. bit (g y)) (only x here) in
            omega arith
        | inr off ↦
            let c' : 0 + count_by same xs ≡ 1 = rw off at c in
            let rest = count_by-once xs (omega arith) in
            let h : bit (f x) ≡ bit (g x) = ap bit (apart x off) in
            omega arith
      ]

-- a count over lists joined end to end, and over a list that a map made
pub count_by-flat_map : {A B : Type 0} (f : B → Bool) (h : A → List B) (xs : List A) → count_by f (flat_map h xs) ≡ sum_by (λ x. count_by f (h x)) xs
count_by-flat_map f h [] = refl
count_by-flat_map f h (x ∷ xs) =
    ap (count_by f) (flat_map-cons h x xs) ∙ sum_by-append (λ y. cond (f y) 1 0) (h x) (flat_map h xs)
    ∙ rw (count_by-flat_map f h xs) (sym (sum_by-cons (λ x. count_by f (h x)) x xs))

pub count_by-map : {A B : Type 0} (f : B → Bool) (h : A → B) (xs : List A) → count_by f (map h xs) ≡ count_by (λ x. f (h x)) xs
count_by-map f h [] = refl
count_by-map f h (x ∷ xs) = count_by-cons f (h x) (map h xs) ∙ rw (count_by-map f h xs) (sym (count_by-cons (λ x. f (h x)) x xs))

pub sum_by-agree : {A : Type 0} (f g : A → ℕ) → ((x : A) → f x ≡ g x) → (xs : List A) → sum_by f xs ≡ sum_by g xs
sum_by-agree f g h [] = refl
sum_by-agree f g h (x ∷ xs) = sum_by-cons f x xs ∙ rw (h x, sum_by-agree f g h xs) (sym (sum_by-cons g x xs))

-- a sum over numbers in order that changes at one of them
module _ (f g : ℕ → ℕ) (o : ℕ) (apart : (x : ℕ) → nat_eq o x ≡ false → f x ≡ g x) where
  pub sum_by-before : (a n : ℕ) → o < a → sum_by f (range_with_len a n) ≡ sum_by g (range_with_len a n)
  sum_by-before a zero l = refl
  sum_by-before a (suc n) l =
      let off : nat_eq o a ≡ false = grind (arith, nat_tests) in
      sum_by-cons f a (range_with_len (a + 1) n) ∙ rw (apart a off, sum_by-before (a + 1) n (omega arith)) (sym (sum_by-cons g a (range_with_len (a + 1) n)))

  pub sum_by-once : (a n : ℕ) → a ≤ o → o < a + n → sum_by f (range_with_len a n) + g o ≡ sum_by g (range_with_len a n) + f o
  sum_by-once a zero l m = absurd (omega arith)
  sum_by-once a (suc n) l m =
      let cf = sum_by-cons f a (range_with_len (a + 1) n) in
      let cg = sum_by-cons g a (range_with_len (a + 1) n) in
      elim (eqb_tells o a) [
        | inl here ↦
            let rest = sum_by-before (a + 1) n (let e = here.1 in omega arith) in
            let hf : f a ≡ f o = ap f (sym here.1) in
            let hg : g a ≡ g o = ap g (sym here.1) in
            omega arith
        | inr other ↦
            let far = other.1 in
            let rest = sum_by-once (a + 1) n (omega arith) (omega arith) in
            let h : f a ≡ g a = apart a other.0 in
            omega arith
      ]

pub sum_by-none : (xs : List ℕ) → sum_by (λ x. 0) xs ≡ 0
sum_by-none [] = refl
sum_by-none (x ∷ xs) = sum_by-cons (λ x. 0) x xs ∙ rw (sum_by-none xs) (omega arith)

-- a count where nothing passes
pub count_by-none : {A : Type 0} (f : A → Bool) → ((x : A) → f x ≡ false) → (xs : List A) → count_by f xs ≡ 0
count_by-none f h [] = refl
count_by-none f h (x ∷ xs) = count_by-cons f x xs ∙ rw (h x, count_by-none f h xs) (omega arith)

-- a number stands once in a range that has it
pub count_by-range : (k n : ℕ) → k < n → count_by (nat_eq k) (range_with_len 0 n) ≡ 1
count_by-range k n l =
    let t : nat_eq k k ≡ true = grind (arith, nat_tests) in
    let here : bit (nat_eq k k) ≡ bit true = ap bit t in
    let below : k < 0 + n = omega arith in
    let z = sum_by-none (range_with_len 0 n) in
    let s = sum_by-once (λ x. bit (nat_eq k x)) (λ x. 0) k (λ x h. ap bit h) 0 n zero-le below in
    omega arith

-- a count with a test beside it that speaks of no element
pub count_by-and : {A : Type 0} (b : Bool) (f : A → Bool) (xs : List A) → count_by (λ x. b && f x) xs ≡ (if b then count_by f xs else 0)
count_by-and true f xs = refl
count_by-and false f xs = count_by-none (λ x. false) (λ x. refl) xs

-- a count is that of what passes a test and of what doesn't
count_parts : (b f : Bool) (m n : ℕ) → cond f 1 0 + (m + n) ≡ (cond (b && f) 1 0 + m) + (cond (not b && f) 1 0 + n)
count_parts true true m n = omega arith
count_parts true false m n = omega arith
count_parts false true m n = omega arith
count_parts false false m n = omega arith

pub count_by-parts : {A : Type 0} (b f : A → Bool) (xs : List A) → count_by f xs ≡ count_by (λ x. b x && f x) xs + count_by (λ x. not (b x) && f x) xs
count_by-parts b f [] = omega arith
count_by-parts b f (x ∷ xs) =
    count_by-cons f x xs ∙ rw (count_by-parts b f xs) (count_parts (b x) (f x) (count_by (λ x. b x && f x) xs) (count_by (λ x. not (b x) && f x) xs))
    ∙ sym (ap₂ (λ m n. m + n) (count_by-cons (λ x. b x && f x) x xs) (count_by-cons (λ x. not (b x) && f x) x xs))

-- where a number lies behind a range, nothing changes there
module _ (f g : ℕ → ℕ) (o : ℕ) (apart : (x : ℕ) → nat_eq o x ≡ false → f x ≡ g x) where
  pub sum_by-after : (a n : ℕ) → a + n ≤ o → sum_by f (range_with_len a n) ≡ sum_by g (range_with_len a n)
  sum_by-after a zero l = refl
  sum_by-after a (suc n) l =
      let off : nat_eq o a ≡ false = grind (arith, nat_tests) in
      sum_by-cons f a (range_with_len (a + 1) n) ∙ rw (apart a off, sum_by-after (a + 1) n (omega arith)) (sym (sum_by-cons g a (range_with_len (a + 1) n)))

-- a number stands at most once in a range, and a sum with one term is at most that term
pub sum_by-one : (f : ℕ → ℕ) (o n : ℕ) → ((x : ℕ) → nat_eq o x ≡ false → f x ≡ 0) → sum_by f (range_with_len 0 n) ≤ f o
sum_by-one f o n apart =
    let z = sum_by-none (range_with_len 0 n) in
    elim (cases_lt o n) [
      | inl l ↦ (let below : o < 0 + n = omega arith in let s = sum_by-once f (λ x. 0) o apart 0 n zero-le below in omega arith)
      | inr l ↦ (let past : 0 + n ≤ o = omega arith in let s = sum_by-after f (λ x. 0) o apart 0 n past in omega arith)
    ]

pub count_by-range_le : (k n : ℕ) → count_by (nat_eq k) (range_with_len 0 n) ≤ 1
count_by-range_le k n =
    let s = sum_by-one (λ x. bit (nat_eq k x)) k n (λ x h. ap bit h) in
    let b = bit_le (nat_eq k k) in
    omega arith

-- a weaker test counts no less
pub count_by-weaker : {A : Type 0} (f g : A → Bool) → ((x : A) → f x ≡ true → g x ≡ true) → (xs : List A) → count_by f xs ≤ count_by g xs
count_by-weaker f g h [] = zero-le
count_by-weaker f g h (x ∷ xs) =
    let cf = count_by-cons f x xs in
    let cg = count_by-cons g x xs in
    let b = bit_weaker (f x) (g x) (h x) in
    let r = count_by-weaker f g h xs in
    omega arith

-- and one of two tests no more than both together
pub count_by-either : {A : Type 0} (f g h : A → Bool) → ((x : A) → f x ≡ true → (g x || h x) ≡ true) → (xs : List A) → count_by f xs ≤ count_by g xs + count_by h xs
count_by-either f g h k [] = zero-le
count_by-either f g h k (x ∷ xs) =
    let cf = count_by-cons f x xs in
    let cg = count_by-cons g x xs in
    let ch = count_by-cons h x xs in
    let b = bit_either (f x) (g x) (h x) (k x) in
    let r = count_by-either f g h k xs in
    omega arith

-- two tests of which never both hold count together
pub count_by-both : {A : Type 0} (f g h : A → Bool) → ((x : A) → bit (f x) ≡ bit (g x) + bit (h x)) → (xs : List A) → count_by f xs ≡ count_by g xs + count_by h xs
count_by-both f g h k [] = omega arith
count_by-both f g h k (x ∷ xs) =
    let cf = count_by-cons f x xs in
    let cg = count_by-cons g x xs in
    let ch = count_by-cons h x xs in
    let b = k x in
    let r = count_by-both f g h k xs in
    omega arith
