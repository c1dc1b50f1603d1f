-- The turns that are left once one is taken.
use Rattle.std.proofs.Common.{◌≡◌, ℕ, zero, suc, ◌+◌, ◌<◌, ◌≤◌, List, [], ◌∷◌, ◌++◌, length, map, drop, get_or, set, Option, Some, None, refl, sym, ap, ◌∙◌, arith, Bor, inl, inr}
use Rattle.std.specs.Prelude.{slice_get, MatchOption}
use Rattle.std.proofs.lemmas.Bool.Decides.{eqb_tells}
use Rattle.std.proofs.lemmas.List.{get_or-set_other}
use Rattle.kern_ids.specs.declared.calls.Call.{Call}
use Rattle.kernel_model.specs.Turns.{turns_from, rest_turns, next_call, after_turn}
use Rattle.kernel_model.specs.TurnsLeft.{calls_left, AreSpent}

some_is : (x y : Bor (List Call)) → Some x ≡ Some y → x ≡ y
some_is x y e = cc

some_call : (x y : Call) → Some x ≡ Some y → x ≡ y
some_call x y e = cc

pub left-set : (scripts : List (Bor (List Call))) (n : ℕ) (s : Bor (List Call)) → calls_left (set scripts n s) ≡ set (calls_left scripts) n s.now
left-set [] n s = refl
left-set (x ∷ xs) zero s = refl
left-set (x ∷ xs) (suc n) s = ap (λ (rest : List (List Call)). x.now ∷ rest) (left-set xs n s)

pub left-get : (scripts : List (Bor (List Call))) (n : ℕ) (s : Bor (List Call)) → slice_get scripts n ≡ Some s → get_or (calls_left scripts) n [] ≡ s.now
left-get [] n s e = absurd cc
left-get (x ∷ xs) zero s e = let same : x ≡ s = some_is x s e in ap (λ (y : Bor (List Call)). y.now) same
left-get (x ∷ xs) (suc n) s e = left-get xs n s e

pub left-none : (scripts : List (Bor (List Call))) (n : ℕ) → slice_get scripts n ≡ None → get_or (calls_left scripts) n [] ≡ []
left-none [] n e = refl
left-none (x ∷ xs) zero e = absurd cc
left-none (x ∷ xs) (suc n) e = left-none xs n e

-- a script with no next call is empty
pub nothing-next : (script : List Call) → slice_get script 0 ≡ None → script ≡ []
nothing-next [] e = refl
nothing-next (c ∷ cs) e = absurd cc

rest_zero : (n : ℕ) (script : List Call) (ss : List (List Call)) (call : Call) → slice_get script 0 ≡ Some call → rest_turns n (script ∷ ss) ≡ (n, call) ∷ rest_turns n (drop 1 script ∷ ss)
rest_zero n [] ss call e = absurd cc
rest_zero n (c ∷ cs) ss call e = ap (λ (x : Call). (n, x) ∷ (map (λ y. (n, y)) cs ++ rest_turns (n + 1) ss)) (some_call c call e)

-- behind spent scripts the next turn is the first call of the first script that is left
pub rest-first : (n k : ℕ) (scripts : List (List Call)) (call : Call) → AreSpent k scripts → next_call scripts k ≡ Some call → rest_turns n scripts ≡ (n + k, call) ∷ rest_turns n (after_turn scripts k)
rest-first n k [] call spent e = absurd cc
rest-first n zero (script ∷ ss) call spent e =
    let same : n ≡ n + 0 = omega arith in
    rest_zero n script ss call e ∙ ap (λ (m : ℕ). (m, call) ∷ rest_turns n (drop 1 script ∷ ss)) same
rest-first n (suc k) (script ∷ ss) call spent e =
    let none : script ≡ [] = spent 0 (omega arith) in
    let rest = rest-first (n + 1) k ss call (λ j l. spent (suc j) (omega arith)) e in
    let same : n + 1 + k ≡ n + suc k = omega arith in
    ap (λ (x : List Call). rest_turns n (x ∷ ss)) none
    ∙ rest
    ∙ ap (λ (m : ℕ). (m, call) ∷ rest_turns (n + 1) (after_turn ss k)) same
    ∙ ap (λ (x : List Call). (n + suc k, call) ∷ rest_turns n (x ∷ after_turn ss k)) (sym none)

pub rest-none : (n : ℕ) (scripts : List (List Call)) → AreSpent (length scripts) scripts → rest_turns n scripts ≡ []
rest-none n [] spent = refl
rest-none n (script ∷ ss) spent =
    let none : script ≡ [] = spent 0 (omega arith) in
    ap (λ (x : List Call). rest_turns n (x ∷ ss)) none ∙ rest-none (n + 1) ss (λ j l. spent (suc j) (omega arith))

drop_spent : (script : List Call) → script ≡ [] → drop 1 script ≡ []
drop_spent [] e = refl
drop_spent (c ∷ cs) e = absurd cc

set_spent : (scripts : List (List Call)) (n : ℕ) → get_or scripts n [] ≡ [] → get_or (after_turn scripts n) n [] ≡ []
set_spent [] n e = refl
set_spent (script ∷ ss) zero e = drop_spent script e
set_spent (script ∷ ss) (suc n) e = set_spent ss n e

spent_here : (k n : ℕ) (scripts : List (List Call)) → k ≡ n → get_or scripts k [] ≡ [] → get_or (after_turn scripts n) k [] ≡ []
spent_here k n scripts e none =
    ap (λ (j : ℕ). get_or (after_turn scripts n) j []) e ∙ set_spent scripts n (ap (λ (j : ℕ). get_or scripts j []) (sym e) ∙ none)

-- taking a call leaves spent scripts spent
pub spent-after : (from n : ℕ) (scripts : List (List Call)) → AreSpent from scripts → AreSpent from (after_turn scripts n)
spent-after from n scripts spent = λ k l. elim (eqb_tells k n) [
  | inl here ↦
      let e : k ≡ n = here.1 in
      spent_here k n scripts e (spent k l)
  | inr other ↦ get_or-set_other scripts n k (drop 1 (get_or scripts n [])) [] other.1 ∙ spent k l
]

pub spent-more : (from : ℕ) (scripts : List (List Call)) → AreSpent from scripts → get_or scripts from [] ≡ [] → AreSpent (from + 1) scripts
spent-more from scripts spent here = λ k l. elim (eqb_tells k from) [
  | inl same ↦ ap (λ (j : ℕ). get_or scripts j []) same.1 ∙ here
  | inr other ↦ let less : k < from = let differs = other.1 in omega arith in spent k less
]

-- the turn of a word of the order
pub turn-taken : (n : ℕ) (order : List ℕ) (scripts : List (List Call)) (call : Call) → next_call scripts n ≡ Some call → turns_from (n ∷ order) scripts ≡ (n, call) ∷ turns_from order (after_turn scripts n)
unfolding turns_from
turn-taken n order scripts call e = rw (e, turns_from) refl

pub turn-passed : (n : ℕ) (order : List ℕ) (scripts : List (List Call)) → next_call scripts n ≡ None → turns_from (n ∷ order) scripts ≡ turns_from order scripts
unfolding turns_from
turn-passed n order scripts e = rw (e, turns_from) refl

pub turns-rest : (order : List ℕ) (scripts : List (List Call)) → order ≡ [] → turns_from order scripts ≡ rest_turns 0 scripts
unfolding turns_from
turns-rest [] scripts e = refl
turns-rest (n ∷ order) scripts e = absurd cc

pub empty-by : {A : Type 0} (xs : List A) → length xs ≡ 0 → xs ≡ []
empty-by [] e = refl
empty-by (x ∷ xs) e = absurd (omega arith)

pub spent-all : (from : ℕ) (scripts : List (List Call)) → AreSpent from scripts → length scripts ≤ from → AreSpent (length scripts) scripts
spent-all from scripts spent l = λ k m. spent k (omega arith)

pub left-at : (scripts : List (Bor (List Call))) (n : ℕ) (s : Bor (List Call)) → n < length scripts → s ≡ get_or scripts n s → get_or (calls_left scripts) n [] ≡ s.now
left-at [] n s l e = absurd (omega arith)
left-at (x ∷ xs) zero s l e = ap (λ (y : Bor (List Call)). y.now) (sym e)
left-at (x ∷ xs) (suc n) s l e = left-at xs n s (omega arith) e

-- the first call of a script is taken off it
pub taken-left : (scripts : List (Bor (List Call))) (n : ℕ) (rest more : Bor (List Call)) (call : Call) → n < length scripts → rest ≡ get_or scripts n rest → rest.now ≡ call ∷ more.now
    → (next_call (calls_left scripts) n ≡ Some call) × (calls_left (set scripts n more) ≡ after_turn (calls_left scripts) n)
taken-left scripts n rest more call l e parts =
    let here : get_or (calls_left scripts) n [] ≡ call ∷ more.now = left-at scripts n rest l e ∙ parts in
    (ap (λ (s : List Call). slice_get s 0) here, left-set scripts n more ∙ ap (λ (s : List Call). set (calls_left scripts) n (drop 1 s)) (sym here))

-- a turn of what is left of the scripts, where the order is spent
pub left-turn : (r : Option (ℕ × Bor Call)) (old : List (ℕ × Call)) (order : List ℕ) (before after : List (Bor (List Call))) → old ≡ rest_turns 0 (calls_left before) → order ≡ []
    → MatchOption r ((rest_turns 0 (calls_left before) ≡ []) × (after ≡ before)) (λ t. rest_turns 0 (calls_left before) ≡ (t.0, t.1.now) ∷ rest_turns 0 (calls_left after))
    → MatchOption r ((old ≡ []) × (turns_from order (calls_left after) ≡ [])) (λ t. old ≡ (t.0, t.1.now) ∷ turns_from order (calls_left after))
left-turn None old order before after was none said =
    (was ∙ said.0, turns-rest order (calls_left after) none ∙ ap (λ (s : List (Bor (List Call))). rest_turns 0 (calls_left s)) said.1 ∙ said.0)
left-turn (Some t) old order before after was none said =
    was ∙ said ∙ ap (λ (rest : List (ℕ × Call)). (t.0, t.1.now) ∷ rest) (sym (turns-rest order (calls_left after) none))
