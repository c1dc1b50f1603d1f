-- The total of one object, where there is one note more.
use Rattle.std.proofs.Common.{◌≡◌, ◌≢◌, ℕ, zero, suc, ◌+◌, ◌%◌, ◌^◌, cond, eqb, List, [], ◌∷◌, ◌++◌, ap, ◌∙◌, eq-eqb, ne_eqb, arith}
use Rattle.std.specs.List.{Contains}
use Rattle.turn_lock_uses.specs.declared.Note.{Note}
use Rattle.turn_lock_uses.specs.Jars.{total, sum_in}

total-snoc : (h : List Note) (e : Note) (i : ℕ) → total (h ++ e ∷ []) i ≡ total h i + cond (eqb e.object i) e.amount 0
total-snoc [] e i = omega arith
total-snoc (x ∷ xs) e i = let r = total-snoc xs e i in omega arith

pub sum_in-other : (h : List Note) (e : Note) (i : ℕ) → ¬ Contains (e.object ∷ []) i → sum_in (h ++ e ∷ []) i ≡ sum_in h i
sum_in-other h e i apart = let ne : e.object ≢ i = λ q. apart (0, omega arith, q) in
    ap (λ (n : ℕ). n % 2 ^ 64) (total-snoc h e i ∙ (ap (λ b. total h i + cond b e.amount 0) (ne_eqb e.object i ne) ∙ omega arith))

pub sum_in-same : (h : List Note) (e : Note) (i : ℕ) → e.object ≡ i → sum_in (h ++ e ∷ []) i ≡ (sum_in h i + e.amount) % 2 ^ 64
sum_in-same h e i same = let a : ℕ = total h i in let x : ℕ = e.amount in let is : (a + x) % 18446744073709551616 ≡ (a % 18446744073709551616 + x) % 18446744073709551616 = omega arith in
    ap (λ (n : ℕ). n % 2 ^ 64) (total-snoc h e i ∙ ap (λ b. total h i + cond b e.amount 0) (eq-eqb e.object i same)) ∙ is

pub contains_one : (x i : ℕ) → Contains (x ∷ []) i → x ≡ i
contains_one x i (zero, l, e) = e
contains_one x i (suc k, l, e) = absurd (omega arith)
