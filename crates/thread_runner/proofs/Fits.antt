-- The turns of a valid scenario fit.
use Rattle.std.proofs.Common.{◌≡◌, ℕ, zero, suc, ◌+◌, ◌<◌, ◌≤◌, ◌⊎◌, List, [], ◌∷◌, length, map, drop, get_or, Option, Some, None, IsTrue, All, refl, sym, subst, arith, inl, inr}
use Rattle.std.specs.Prelude.{slice_get}
use Rattle.std.proofs.lemmas.Bool.{cases_lt}
use Rattle.std.proofs.lemmas.Bool.Decides.{eqb_tells}
use Rattle.std.proofs.lemmas.List.{get_or-set_other}
use Rattle.std.proofs.lemmas.List.Elements.{All-append, All-map, All-tail}
use Rattle.kern_ids.specs.declared.calls.Call.{Call}
use Rattle.kernel_model.specs.Histories.{fits}
use Rattle.kernel_model.specs.Scenario.{Plan, IsValid, script}
use Rattle.kernel_model.specs.Turns.{turns_from, turns, rest_turns, next_call, after_turn, run_from, answered}
use Rattle.kernel_model.specs.System.{System}
use Rattle.kern_ids.specs.declared.entries.Entry.{Entry}
use Rattle.kernel_model.proofs.TurnLemmas.{turn-taken, turn-passed, turns-rest}

abbrev pub OfTurn : (ℕ → Call → Type 0) → ℕ × Call → Type 0
OfTurn P t = P t.0 t.1

-- what holds of each thread's calls, the threads numbered from n
abbrev pub OfEach : (ℕ → Call → Type 0) → ℕ → List (List Call) → Type 0
OfEach P n scripts = (k : ℕ) → All (P (n + k)) (get_or scripts k [])

of_rest : (P : ℕ → Call → Type 0) (n : ℕ) (scripts : List (List Call)) → OfEach P n scripts → All (OfTurn P) (rest_turns n scripts)
of_rest P n [] h = λ k d l. absurd (omega arith)
of_rest P n (script ∷ ss) h =
    let zero_n : n + 0 ≡ n = omega arith in
    All-append (OfTurn P) (map (λ c. (n, c)) script) (rest_turns (n + 1) ss)
    (All-map (OfTurn P) (λ (c : Call). (n, c)) script (subst (λ (m : ℕ). All (P m) script) zero_n (h 0)))
    (of_rest P (n + 1) ss (λ k. let e : n + suc k ≡ n + 1 + k = omega arith in subst (λ (m : ℕ). All (P m) (get_or ss k [])) e (h (suc k))))

of_drop : (P : Call → Type 0) (calls : List Call) → All P calls → All P (drop 1 calls)
of_drop P [] h = h
of_drop P (c ∷ cs) h = All-tail P c cs h

set_here : (P : Call → Type 0) (scripts : List (List Call)) (k : ℕ) → All P (get_or scripts k []) → All P (get_or (after_turn scripts k) k [])
set_here P [] k h = h
set_here P (s ∷ ss) zero h = of_drop P s h
set_here P (s ∷ ss) (suc k) h = set_here P ss k h

of_after : (P : ℕ → Call → Type 0) (scripts : List (List Call)) (n : ℕ) → OfEach P 0 scripts → OfEach P 0 (after_turn scripts n)
of_after P scripts n h = λ k. elim (eqb_tells k n) [
  | inl same ↦
      let e : k ≡ n = same.1 in
      subst (λ (j : ℕ). All (P (0 + j)) (get_or (after_turn scripts n) j [])) (sym e) (set_here (P (0 + n)) scripts n (h n))
  | inr other ↦ rw (get_or-set_other scripts n k (drop 1 (get_or scripts n [])) [] other.1) (h k)
]

some_call : (x y : Call) → Some x ≡ Some y → x ≡ y
some_call x y e = cc

first_of : (P : Call → Type 0) (calls : List Call) (c : Call) → slice_get calls 0 ≡ Some c → All P calls → P c
first_of P [] c e h = absurd cc
first_of P (x ∷ xs) c e h = subst P (some_call x c e) (h 0 x (omega arith))

at_cons : {A : Type 0} (P : A → Type 0) (x : A) (xs : List A) (k : ℕ) (d : A) → k < length (x ∷ xs) → P x → All P xs → P (get_or (x ∷ xs) k d)
at_cons P x xs zero d l p h = p
at_cons P x xs (suc k) d l p h = h k d (omega arith)

all_cons : {A : Type 0} (P : A → Type 0) (x : A) (xs ys : List A) → ys ≡ x ∷ xs → P x → All P xs → All P ys
all_cons P x xs ys e p h = subst (All P) (sym e) (λ k d l. at_cons P x xs k d l p h)

of_order : (P : ℕ → Call → Type 0) (n : ℕ) (order : List ℕ) (scripts : List (List Call)) (next : Option Call) → next_call scripts n ≡ next
    → ((rest : List (List Call)) → OfEach P 0 rest → All (OfTurn P) (turns_from order rest)) → OfEach P 0 scripts → All (OfTurn P) (turns_from (n ∷ order) scripts)
of_order P n order scripts None e more h = subst (All (OfTurn P)) (sym (turn-passed n order scripts e)) (more scripts h)
of_order P n order scripts (Some call) e more h =
    let z : 0 + n ≡ n = omega arith in
    all_cons (OfTurn P) (n, call) (turns_from order (after_turn scripts n)) (turns_from (n ∷ order) scripts) (turn-taken n order scripts call e)
    (subst (λ (m : ℕ). P m call) z (first_of (P (0 + n)) (get_or scripts n []) call e (h n)))
    (more (after_turn scripts n) (of_after P scripts n h))

pub of_turns : (P : ℕ → Call → Type 0) (order : List ℕ) (scripts : List (List Call)) → OfEach P 0 scripts → All (OfTurn P) (turns_from order scripts)
of_turns P [] scripts h = subst (All (OfTurn P)) (sym (turns-rest [] scripts refl)) (of_rest P 0 scripts h)
of_turns P (n ∷ order) scripts h = of_order P n order scripts (next_call scripts n) refl (λ rest g. of_turns P order rest g) h

past_end : {A : Type 0} (xs : List A) (k : ℕ) (d : A) → length xs ≤ k → get_or xs k d ≡ d
past_end [] k d l = refl
past_end (x ∷ xs) zero d l = absurd (omega arith)
past_end (x ∷ xs) (suc k) d l = past_end xs k d (omega arith)

split : (n m : ℕ) → (n < m) ⊎ (m ≤ n)
split n m = cases_lt n m

each_fits : (s : Plan) (v : IsValid s) (k : ℕ) → All (λ c. IsTrue (fits s.boot k c)) (get_or s.scripts k [])
each_fits s v k = elim (split k (length s.scripts)) [
  | inl within ↦ v.calls k within
  | inr past ↦ rw (past_end s.scripts k [] past) (λ j d l. absurd (omega arith))
]

-- each turn of a valid scenario fits
pub turns-fit : (s : Plan) → IsValid s → All (λ t. IsTrue (fits s.boot t.0 t.1)) (turns s)
turns-fit s v = of_turns (λ n c. IsTrue (fits s.boot n c)) s.order s.scripts (λ k. let z : k ≡ 0 + k = omega arith in
    subst (λ (m : ℕ). All (λ c. IsTrue (fits s.boot m c)) (get_or s.scripts k [])) z (each_fits s v k))

pub run-turn : (boot : System) (past : List Entry) (turn : ℕ × Call) (rest : List (ℕ × Call)) → run_from boot past (turn ∷ rest) ≡ run_from boot (answered boot past turn ∷ past) rest
unfolding run_from
run-turn boot past turn rest = refl

pub run-none : (boot : System) (past : List Entry) → run_from boot past [] ≡ past
unfolding run_from
run-none boot past = refl
