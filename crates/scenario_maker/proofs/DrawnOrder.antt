-- In the order of its turns a made scenario has the calls as they were drawn.
use Rattle.std.proofs.Common.{◌≡◌, ◌≢◌, ℕ, zero, suc, ◌<◌, List, [], ◌∷◌, ◌++◌, length, get_or, set, map, drop, refl, sym, ap, ap₂, ◌∙◌, arith, inl, inr}
use Rattle.std.proofs.lemmas.Bool.Decides.{eqb_tells}
use Rattle.std.proofs.lemmas.List.{length-set, get_or-set_same, get_or-set_other, set-set, set-get_or, map-append}
use Rattle.kern_ids.specs.declared.calls.Call.{Call}
use Rattle.kernel_model.specs.Turns.{turns_from, turns as turns_of}
use Rattle.scenario_maker.specs.Head.{head}
use Rattle.scenario_maker.specs.Made.{turn, turns, drawn_turns, made_plan}
use Rattle.scenario_maker.proofs.Turns.{turn_thread-below}

set-set_other : {A : Type 0} (l : List A) (i j : ℕ) (a b : A) → i ≢ j → set (set l i a) j b ≡ set (set l j b) i a
set-set_other [] i j a b other = refl
set-set_other (x ∷ xs) zero zero a b other = absurd (other refl)
set-set_other (x ∷ xs) zero (suc j) a b other = refl
set-set_other (x ∷ xs) (suc i) zero a b other = refl
set-set_other (x ∷ xs) (suc i) (suc j) a b other = ap (λ ys. x ∷ ys) (set-set_other xs i j a b (λ e. other (ap suc e)))

-- the scripts with these calls behind them, one after the other
abbrev placed : List (ℕ × Call) → List (List Call) → List (List Call)
placed [] scripts = scripts
placed (t ∷ ts) scripts = placed ts (set scripts t.0 (get_or scripts t.0 [] ++ t.1 ∷ []))

placed-append : (ts : List (ℕ × Call)) (t : ℕ × Call) (scripts : List (List Call)) → placed (ts ++ t ∷ []) scripts ≡ set (placed ts scripts) t.0 (get_or (placed ts scripts) t.0 [] ++ t.1 ∷ [])
placed-append [] t scripts = refl
placed-append (u ∷ ts) t scripts = placed-append ts t (set scripts u.0 (get_or scripts u.0 [] ++ u.1 ∷ []))

length-placed : (ts : List (ℕ × Call)) (scripts : List (List Call)) → length (placed ts scripts) ≡ length scripts
length-placed [] scripts = refl
length-placed (t ∷ ts) scripts =
    length-placed ts (set scripts t.0 (get_or scripts t.0 [] ++ t.1 ∷ [])) ∙ length-set scripts t.0 (get_or scripts t.0 [] ++ t.1 ∷ [])

-- a call before a script, and one behind the same script
both_ends : (scripts : List (List Call)) (n : ℕ) (c d : Call) → n < length scripts → set (set scripts n (c ∷ get_or scripts n [])) n (get_or (set scripts n (c ∷ get_or scripts n [])) n [] ++ d ∷ []) ≡ set (set scripts n (get_or scripts n [] ++ d ∷ [])) n (c ∷ get_or (set scripts n (get_or scripts n [] ++ d ∷ [])) n [])
both_ends scripts n c d l =
    let script = get_or scripts n [] in
    let front = set scripts n (c ∷ script) in
    let back = set scripts n (script ++ d ∷ []) in
    let whole = c ∷ (script ++ d ∷ []) in
    let left : set front n (get_or front n [] ++ d ∷ []) ≡ set scripts n whole =
    ap (λ (s : List Call). set front n (s ++ d ∷ [])) (get_or-set_same scripts n (c ∷ script) [] l) ∙ set-set scripts n (c ∷ script) whole in
    let right : set back n (c ∷ get_or back n []) ≡ set scripts n whole =
    ap (λ (s : List Call). set back n (c ∷ s)) (get_or-set_same scripts n (script ++ d ∷ []) [] l) ∙ set-set scripts n (script ++ d ∷ []) whole in
    left ∙ sym right

-- a call before a script, and one behind another
other_ends : (scripts : List (List Call)) (n m : ℕ) (c d : Call) → m ≢ n → set (set scripts n (c ∷ get_or scripts n [])) m (get_or (set scripts n (c ∷ get_or scripts n [])) m [] ++ d ∷ []) ≡ set (set scripts m (get_or scripts m [] ++ d ∷ [])) n (c ∷ get_or (set scripts m (get_or scripts m [] ++ d ∷ [])) n [])
other_ends scripts n m c d other =
    let front = set scripts n (c ∷ get_or scripts n []) in
    let back = set scripts m (get_or scripts m [] ++ d ∷ []) in
    let apart : n ≢ m = λ e. other (sym e) in
    ap (λ (s : List Call). set front m (s ++ d ∷ [])) (get_or-set_other scripts n m (c ∷ get_or scripts n []) [] other)
    ∙ set-set_other scripts n m (c ∷ get_or scripts n []) (get_or scripts m [] ++ d ∷ []) apart
    ∙ sym (ap (λ (s : List Call). set back n (c ∷ s)) (get_or-set_other scripts m n (get_or scripts m [] ++ d ∷ []) [] apart))

-- a call before a script stays there
placed-front : (ts : List (ℕ × Call)) (scripts : List (List Call)) (n : ℕ) (c : Call) → n < length scripts → placed ts (set scripts n (c ∷ get_or scripts n [])) ≡ set (placed ts scripts) n (c ∷ get_or (placed ts scripts) n [])
placed-front [] scripts n c l = refl
placed-front (t ∷ ts) scripts n c l =
    let back : List (List Call) = set scripts t.0 (get_or scripts t.0 [] ++ t.1 ∷ []) in
    let front : List (List Call) = set scripts n (c ∷ get_or scripts n []) in
    let long : n < length back = omega (arith, l, length-set scripts t.0 (get_or scripts t.0 [] ++ t.1 ∷ [])) in
    let step : set front t.0 (get_or front t.0 [] ++ t.1 ∷ []) ≡ set back n (c ∷ get_or back n []) =
    elim (eqb_tells t.0 n) [ inl here ↦ rw here.1 (both_ends scripts n c t.1 l) | inr other ↦ other_ends scripts n t.0 c t.1 other.1 ] in
    ap (placed ts) step ∙ placed-front ts back n c long

-- a thread whose script begins with a call makes it
turn-made : (n : ℕ) (call : Call) (rest : List Call) (order : List ℕ) (scripts : List (List Call)) → get_or scripts n [] ≡ call ∷ rest → turns_from (n ∷ order) scripts ≡ (n, call) ∷ turns_from order (set scripts n rest)
unfolding turns_from
turn-made n call rest order scripts begins =
    rw (begins, turns_from) (ap (λ (s : List Call). (n, call) ∷ turns_from order (set scripts n (drop 1 s))) begins)

turn-front : (t : ℕ × Call) (order : List ℕ) (scripts : List (List Call)) → t.0 < length scripts → turns_from (t.0 ∷ order) (set scripts t.0 (t.1 ∷ get_or scripts t.0 [])) ≡ t ∷ turns_from order scripts
turn-front t order scripts l =
    let script = get_or scripts t.0 [] in
    let now = set scripts t.0 (t.1 ∷ script) in
    turn-made t.0 t.1 script order now (get_or-set_same scripts t.0 (t.1 ∷ script) [] l)
    ∙ ap (λ (ss : List (List Call)). t ∷ turns_from order ss) (set-set scripts t.0 (t.1 ∷ script) script ∙ set-get_or scripts t.0 [])

-- each thread of the turns is below k
abbrev AreBelow : ℕ → List (ℕ × Call) → Type 0
AreBelow k [] = Unit {0}
AreBelow k (t ∷ ts) = (t.0 < k) × AreBelow k ts

below-append : (k : ℕ) (ts : List (ℕ × Call)) (t : ℕ × Call) → AreBelow k ts → t.0 < k → AreBelow k (ts ++ t ∷ [])
below-append k [] t all one = (one, tt)
below-append k (u ∷ ts) t all one = (all.0, below-append k ts t all.1 one)

-- calls that are placed into empty scripts are taken in their order
placed-taken : (ts : List (ℕ × Call)) (scripts : List (List Call)) → ((n : ℕ) → get_or scripts n [] ≡ []) → turns_from [] scripts ≡ [] → AreBelow (length scripts) ts → turns_from (map (λ t. t.0) ts) (placed ts scripts) ≡ ts
placed-taken [] scripts empty rest below = rest
placed-taken (t ∷ ts) scripts empty rest below =
    let later : List (List Call) = placed ts scripts in
    let long : t.0 < length later = omega (arith, below.0, length-placed ts scripts) in
    let first : get_or scripts t.0 [] ++ t.1 ∷ [] ≡ t.1 ∷ get_or scripts t.0 [] =
    ap (λ (s : List Call). s ++ t.1 ∷ []) (empty t.0) ∙ sym (ap (λ (s : List Call). t.1 ∷ s) (empty t.0)) in
    let front : placed (t ∷ ts) scripts ≡ set later t.0 (t.1 ∷ get_or later t.0 []) =
    ap (λ (s : List Call). placed ts (set scripts t.0 s)) first ∙ placed-front ts scripts t.0 t.1 below.0 in
    ap (turns_from (t.0 ∷ map (λ t. t.0) ts)) front ∙ turn-front t (map (λ t. t.0) ts) later long
    ∙ ap (λ (us : List (ℕ × Call)). t ∷ us) (placed-taken ts scripts empty rest below.1)

head-scripts : (n : ℕ) → get_or head.scripts n [] ≡ []
head-scripts zero = refl
head-scripts (suc zero) = refl
head-scripts (suc (suc zero)) = refl
head-scripts (suc (suc (suc zero))) = refl
head-scripts (suc (suc (suc (suc zero)))) = refl
head-scripts (suc (suc (suc (suc (suc zero))))) = refl
head-scripts (suc (suc (suc (suc (suc (suc n)))))) = refl

head-turns : turns_from [] head.scripts ≡ []
unfolding turns_from
head-turns = refl

drawn-scripts : (n x : ℕ) → (turns n x).0.scripts ≡ placed (drawn_turns n x) head.scripts
unfolding turns drawn_turns
drawn-scripts zero x = refl
drawn-scripts (suc n) x =
    let t = (turn n (turns n x).1).0 in
    ap (λ (ss : List (List Call)). set ss t.0 (get_or ss t.0 [] ++ t.1 ∷ [])) (drawn-scripts n x) ∙ sym (placed-append (drawn_turns n x) t head.scripts)

drawn-order : (n x : ℕ) → (turns n x).0.order ≡ map (λ t. t.0) (drawn_turns n x)
unfolding turns drawn_turns
drawn-order zero x = refl
drawn-order (suc n) x =
    let t = (turn n (turns n x).1).0 in
    ap (λ (o : List ℕ). o ++ t.0 ∷ []) (drawn-order n x) ∙ sym (map-append (λ t. t.0) (drawn_turns n x) (t ∷ []))

drawn-below : (n x : ℕ) → AreBelow 6 (drawn_turns n x)
unfolding drawn_turns
drawn-below zero x = tt
drawn-below (suc n) x = below-append 6 (drawn_turns n x) (turn n (turns n x).1).0 (drawn-below n x) (turn_thread-below n (turns n x).1)

pub turns-drawn : (seed n : ℕ) → turns_of (made_plan seed n) ≡ drawn_turns n seed
unfolding made_plan
turns-drawn seed n =
    ap₂ turns_from (drawn-order n seed) (drawn-scripts n seed)
    ∙ placed-taken (drawn_turns n seed) head.scripts head-scripts head-turns (drawn-below n seed)
