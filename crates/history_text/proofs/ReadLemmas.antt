-- The loops of reading: the sign of a line, and the tasks of a list.
use Rattle.std.proofs.Common.{◌≡◌, ℕ, zero, suc, ◌+◌, ◌-◌, ◌<◌, true, false, eqb, List, [], ◌∷◌, ◌++◌, length, take, drop, Some, None, Result, Ok, Err, refl, sym, ap, arith, append_assoc, append-nil}
use Rattle.std.specs.Prelude.{codes}
use Rattle.std.specs.List.{starts_with}
use Rattle.std.proofs.lemmas.List.{length-append}
use Rattle.kern_ids.specs.declared.faults.Why.{Why}
use Rattle.kern_ids.specs.declared.faults.Why.TheVariants as why
use Rattle.line_text.specs.Cut.{Word}
use Rattle.line_text.specs.Words.{◌>>=◌, reference}
use Rattle.history_text.specs.ReplyReading.{task_words}
use Rattle.history_text.specs.EntryReading.{sign_cut}

-- ---- the sign

pub sign_here : (line : List ℕ) (i : ℕ) → i < length line → ((k : ℕ) → k < i → starts_with eqb (drop k line) (codes " = ") ≡ false) → starts_with eqb (drop i line) (codes " = ") ≡ true → sign_cut line ≡ Some (take i line, drop (i + 3) line)
sign_here [] i lt before here = absurd (omega arith)
sign_here (x ∷ xs) zero lt before here = rw here refl
sign_here (x ∷ xs) (suc i) lt before here =
    let first : starts_with eqb (x ∷ xs) (codes " = ") ≡ false = before 0 (omega arith) in
    let later : suc i + 3 ≡ suc (i + 3) = omega arith in
    rw (first, sign_here xs i (omega arith) (λ k h. before (suc k) (omega arith)) here, later) refl

pub sign_none : (line : List ℕ) → ((k : ℕ) → k < length line → starts_with eqb (drop k line) (codes " = ") ≡ false) → sign_cut line ≡ None
sign_none [] before = refl
sign_none (x ∷ xs) before =
    let first : starts_with eqb (x ∷ xs) (codes " = ") ≡ false = before 0 (omega arith) in
    rw (first, sign_none xs (λ k h. before (suc k) (omega arith))) refl

-- ---- the tasks

-- tasks before those that are read
abbrev pub with_tasks : List ℕ → Result (List ℕ) Why → Result (List ℕ) Why
with_tasks front said = said >>= λ ts. Ok (front ++ ts)

abbrev room_of : List ℕ → ℕ
room_of front = 64 - length front

with_more : (front : List ℕ) (n : ℕ) (r : Result (List ℕ) Why) → with_tasks front (r >>= λ ts. Ok (n ∷ ts)) ≡ with_tasks (front ++ n ∷ []) r
with_more front n (Err e) = refl
with_more front n (Ok x) = ap (λ (ts : List ℕ). Ok ts) (sym (append_assoc front (n ∷ []) x))

more_by : (front : List ℕ) (room : ℕ) (w : Word) (ws : List Word) (x : ℕ × List Word) → reference 63 64 (w ∷ ws) ≡ Ok x → with_tasks front (task_words (suc room) (w ∷ ws)) ≡ with_tasks (front ++ x.0 ∷ []) (task_words room x.1)
unfolding task_words
more_by front room w ws x e = rw e (with_more front x.0 (task_words room x.1))

pub tasks_more : (front : List ℕ) (ws : List Word) (x : ℕ × List Word) → length front < 64 → reference 63 64 ws ≡ Ok x → with_tasks front (task_words (64 - length front) ws) ≡ with_tasks (front ++ x.0 ∷ []) (task_words (64 - length (front ++ x.0 ∷ [])) x.1)
tasks_more front [] x l e = absurd cc
tasks_more front (w ∷ ws) x l e =
    let before : 64 - length front ≡ suc (63 - length front) = omega arith in
    let after : 64 - length (front ++ x.0 ∷ []) ≡ 63 - length front = omega (arith, length-append front (x.0 ∷ [])) in
    rw (before, after) (more_by front (63 - length front) w ws x e)

bad_by : (room : ℕ) (w : Word) (ws : List Word) (e : Why) → reference 63 64 (w ∷ ws) ≡ Err e → task_words (suc room) (w ∷ ws) ≡ Err e
unfolding task_words
bad_by room w ws e r = rw r refl

pub tasks_bad : (front : List ℕ) (ws : List Word) (e : Why) → (ws ≡ [] → ⊥) → length front < 64 → reference 63 64 ws ≡ Err e → with_tasks front (task_words (64 - length front) ws) ≡ Err e
tasks_bad front [] e some l r = absurd (some refl)
tasks_bad front (w ∷ ws) e some l r =
    let before : 64 - length front ≡ suc (63 - length front) = omega arith in
    rw before (ap (with_tasks front) (bad_by (63 - length front) w ws e r))

full_by : (w : Word) (ws : List Word) → task_words 0 (w ∷ ws) ≡ Err why.Limit
unfolding task_words
full_by w ws = refl

pub tasks_full : (front : List ℕ) (ws : List Word) → (ws ≡ [] → ⊥) → length front ≡ 64 → with_tasks front (task_words (64 - length front) ws) ≡ Err why.Limit
tasks_full front [] some l = absurd (some refl)
tasks_full front (w ∷ ws) some l =
    let room : 64 - length front ≡ 0 = omega arith in
    rw room (ap (with_tasks front) (full_by w ws))

none_by : (room : ℕ) → task_words room [] ≡ Ok []
unfolding task_words
none_by zero = refl
none_by (suc room) = refl

pub tasks_none : (front : List ℕ) (ws : List Word) → ws ≡ [] → with_tasks front (task_words (64 - length front) ws) ≡ Ok front
tasks_none front ws e = rw (e, none_by (64 - length front)) (ap (λ (ts : List ℕ). Ok ts) (append-nil front))
