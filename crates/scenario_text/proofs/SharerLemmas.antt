-- The tasks of an object, one by one.
use Rattle.std.proofs.Common.{◌≡◌, ℕ, suc, ◌+◌, ◌<◌, ◌≤◌, Bool, true, false, cond, ltb, List, [], ◌∷◌, ◌++◌, Result, Ok, Err, refl, sym, ap, ◌∙◌, arith, append_assoc, All}
use Rattle.std.specs.Prelude.{codes, slice_get, Some, None}
use Rattle.std.specs.Str.{bytes_eq}
use Rattle.std.proofs.lemmas.Bool.{lt-ltb, le-ltb}
use Rattle.kern_ids.specs.declared.faults.Why.{Why}
use Rattle.kern_ids.specs.declared.faults.Why.TheVariants as why
use Rattle.kernel_model.specs.Valid.{IsRisingFrom}
use Rattle.line_text.specs.Cut.{Word}
use Rattle.line_text.specs.Numbers.{is_plain, number_in}
use Rattle.line_text.specs.Words.{◌>>=◌, reference}
use Rattle.scenario_text.specs.Grammar.{sharers, sharer_from}
use Rattle.scenario_text.specs.Gives.{front_sharers}

pub sharers_none : (tasks bound : ℕ) → sharers tasks bound [] ≡ Err why.Word
unfolding sharers
sharers_none tasks bound = refl

pub sharers_end : (tasks bound : ℕ) (w : Word) (ws : List Word) → bytes_eq w (codes "pages") ≡ true → sharers tasks bound (w ∷ ws) ≡ Ok ([], ws)
unfolding sharers
sharers_end tasks bound w ws h = rw h refl

pub sharers_odd : (tasks bound : ℕ) (w : Word) (ws : List Word) → bytes_eq w (codes "pages") ≡ false → is_plain w ≡ false → sharers tasks bound (w ∷ ws) ≡ Err why.Word
unfolding sharers
sharers_odd tasks bound w ws h p = rw (h, p) refl

abbrev took : ℕ → List Word → Result (ℕ × List Word) Why
took n ws = Ok (n, ws)

by_test : (b : Bool) (n tasks bound : ℕ) (ws : List Word) → cond b (sharer_from bound n (sharers tasks (n + 1) ws)) (Err why.Unknown)
    ≡ (cond b (took n ws) (Err why.Unknown) >>= λ n. sharer_from bound n.0 (sharers tasks (n.0 + 1) n.1))
by_test true n tasks bound ws = refl
by_test false n tasks bound ws = refl

by_number : (r : Result ℕ Why) (tasks bound : ℕ) (ws : List Word) → (r >>= λ n. cond (ltb n tasks) (sharer_from bound n (sharers tasks (n + 1) ws)) (Err why.Unknown))
    ≡ (((r >>= λ n. took n ws) >>= λ n. cond (ltb n.0 tasks) (took n.0 n.1) (Err why.Unknown)) >>= λ n. sharer_from bound n.0 (sharers tasks (n.0 + 1) n.1))
by_number (Err e) tasks bound ws = refl
by_number (Ok n) tasks bound ws = by_test (ltb n tasks) n tasks bound ws

-- a plain word is read as a reference
pub sharers_more : (tasks bound : ℕ) (w : Word) (ws : List Word) → bytes_eq w (codes "pages") ≡ false → is_plain w ≡ true → sharers tasks bound (w ∷ ws) ≡ (reference 63 tasks (w ∷ ws) >>= λ n. sharer_from bound n.0 (sharers tasks (n.0 + 1) n.1))
unfolding sharers
sharers_more tasks bound w ws h p = rw (h, p) (by_number (number_in 0 63 w) tasks bound ws)

pub sharer-below : (bound n : ℕ) (rest : Result (List ℕ × List Word) Why) → n < bound → sharer_from bound n rest ≡ Err why.Repeated
sharer-below bound n rest l = rw (lt-ltb n bound l) refl

pub sharer-above : (bound n : ℕ) (rest : Result (List ℕ × List Word) Why) → bound ≤ n → sharer_from bound n rest ≡ (rest >>= λ r. Ok (n ∷ r.0, r.1))
sharer-above bound n rest l = rw (le-ltb n bound l) refl

-- a task behind those in front
pub front-more : (front : List ℕ) (n : ℕ) (r : Result (List ℕ × List Word) Why) → front_sharers front (r >>= λ x. Ok (n ∷ x.0, x.1)) ≡ front_sharers (front ++ n ∷ []) r
front-more front n (Err e) = refl
front-more front n (Ok x) = ap (λ (ts : List ℕ). Ok (ts, x.1)) (sym (append_assoc front (n ∷ []) x.0))

-- one more at the end
pub rising-push : (bound : ℕ) (xs : List ℕ) (n : ℕ) → IsRisingFrom bound xs → All (λ x. x < n) xs → bound ≤ n → IsRisingFrom bound (xs ++ n ∷ [])
rising-push bound [] n r below l = (l, tt)
rising-push bound (x ∷ xs) n r below l = (r.0, rising-push (x + 1) xs n r.1 (λ k d m. below (suc k) d (omega arith)) (let h : x < n = below 0 0 (omega arith) in omega arith))

some_first : (w v : Word) (ws : List Word) → slice_get (v ∷ ws) 0 ≡ Some w → v ≡ w
some_first w v ws e = cc

pub sharers-nothing : (tasks bound : ℕ) (ws : List Word) → None ≡ slice_get ws 0 → sharers tasks bound ws ≡ Err why.Word
sharers-nothing tasks bound [] e = sharers_none tasks bound
sharers-nothing tasks bound (w ∷ ws) e = absurd cc

-- by the first word, as it is seen before it is taken
pub sharers-first : (tasks bound : ℕ) (ws : List Word) (w : Word) → Some w ≡ slice_get ws 0 → bytes_eq w (codes "pages") ≡ false → is_plain w ≡ false → sharers tasks bound ws ≡ Err why.Word
sharers-first tasks bound [] w e h p = absurd cc
sharers-first tasks bound (v ∷ ws) w e h p =
    let same : v ≡ w = some_first w v ws (sym e) in
    ap (λ (x : Word). sharers tasks bound (x ∷ ws)) same ∙ sharers_odd tasks bound w ws h p

pub front-err : (front : List ℕ) (r : Result (List ℕ × List Word) Why) (e : Why) → front_sharers front r ≡ Err e → r ≡ Err e
front-err front (Err d) e h = h
front-err front (Ok x) e h = absurd cc
