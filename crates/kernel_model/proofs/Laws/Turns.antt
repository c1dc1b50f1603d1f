-- The turns of a scenario: each is of a call of a script, and those of a thread are its script in order.
use Rattle.std.proofs.Common.{◌≡◌, ℕ, zero, suc, ◌+◌, ◌<◌, List, [], ◌∷◌, ◌++◌, length, map, drop, get_or, Option, Some, None, Bool, true, false, refl, sym, ap, ap₂, ◌∙◌, subst, arith, nat_eq, filter, append-nil, inl, inr}
use Rattle.std.specs.Prelude.{slice_get, IsTrue}
use Rattle.std.specs.List.{All}
use Rattle.std.proofs.lemmas.Bool.{cases_lt}
use Rattle.std.proofs.lemmas.Bool.Decides.{eqb_tells, nat_tests}
use Rattle.std.proofs.lemmas.List.{map-append, get_or-set_other, get_or_past}
use Rattle.std.proofs.lemmas.List.Elements.{All-append, All-map, All-nil, All-cons, All-head, All-drop, filter-append}
use Rattle.kern_ids.specs.declared.calls.Call.{Call}
use Rattle.kernel_model.specs.Histories.{fits}
use Rattle.kernel_model.specs.Scenario.{Plan, IsValid}
use Rattle.kernel_model.specs.Turns.{turns_from, turns, rest_turns, next_call, after_turn}

-- the turn of a word of the order
turn-taken : (n : ℕ) (order : List ℕ) (scripts : List (List Call)) (call : Call) → next_call scripts n ≡ Some call → turns_from (n ∷ order) scripts ≡ (n, call) ∷ turns_from order (after_turn scripts n)
unfolding turns_from
turn-taken n order scripts call e = rw (e, turns_from) refl

turn-passed : (n : ℕ) (order : List ℕ) (scripts : List (List Call)) → next_call scripts n ≡ None → turns_from (n ∷ order) scripts ≡ turns_from order scripts
unfolding turns_from
turn-passed n order scripts e = rw (e, turns_from) refl

turns-rest : (scripts : List (List Call)) → turns_from [] scripts ≡ rest_turns 0 scripts
unfolding turns_from
turns-rest scripts = refl

-- the scripts once a thread has made its next call
after-same : (scripts : List (List Call)) (n : ℕ) → get_or (after_turn scripts n) n [] ≡ drop 1 (get_or scripts n [])
after-same [] n = refl
after-same (s ∷ ss) zero = refl
after-same (s ∷ ss) (suc n) = after-same ss n

-- the next call is the first one
first-next : (calls : List Call) (call : Call) → slice_get calls 0 ≡ Some call → calls ≡ call ∷ drop 1 calls
first-next [] call e = absurd cc
first-next (c ∷ cs) call e = let same : c ≡ call = cc in ap (λ (x : Call). x ∷ cs) same

-- what holds of each call of each script holds of each turn
module _ (P : ℕ → Call → Type 0) where
  abbrev OfTurn : ℕ × Call → Type 0
  OfTurn t = P t.0 t.1

  abbrev OfEach : List (List Call) → Type 0
  OfEach scripts = (k : ℕ) → All (P k) (get_or scripts k [])

  -- the scripts are those of the threads from n on
  rest-all : (n : ℕ) (scripts : List (List Call)) → ((k : ℕ) → All (P (n + k)) (get_or scripts k [])) → All OfTurn (rest_turns n scripts)
  rest-all n [] h = All-nil OfTurn
  rest-all n (script ∷ ss) h =
      let here : n + 0 ≡ n = omega arith in
      All-append OfTurn (map (λ c. (n, c)) script) (rest_turns (n + 1) ss)
      (All-map OfTurn (λ (c : Call). (n, c)) script (subst (λ (m : ℕ). All (P m) script) here (h 0)))
      (rest-all (n + 1) ss (λ k. let e : n + suc k ≡ n + 1 + k = omega arith in subst (λ (m : ℕ). All (P m) (get_or ss k [])) e (h (suc k))))

  after-all : (scripts : List (List Call)) (n : ℕ) → OfEach scripts → OfEach (after_turn scripts n)
  after-all scripts n h = λ k. elim (eqb_tells k n) [
    | inl same ↦
        let e : k ≡ n = same.1 in
        subst (λ (j : ℕ). All (P j) (get_or (after_turn scripts n) j [])) (sym e)
        (subst (All (P n)) (sym (after-same scripts n)) (All-drop (P n) 1 (get_or scripts n []) (h n)))
    | inr other ↦ rw (get_or-set_other scripts n k (drop 1 (get_or scripts n [])) [] other.1) (h k)
  ]

  order-all : (n : ℕ) (order : List ℕ) (scripts : List (List Call)) (next : Option Call) → next_call scripts n ≡ next
      → ((rest : List (List Call)) → OfEach rest → All OfTurn (turns_from order rest)) → OfEach scripts → All OfTurn (turns_from (n ∷ order) scripts)
  order-all n order scripts None e more h = subst (All OfTurn) (sym (turn-passed n order scripts e)) (more scripts h)
  order-all n order scripts (Some call) e more h =
      let calls = get_or scripts n [] in
      subst (All OfTurn) (sym (turn-taken n order scripts call e))
      (All-cons OfTurn (n, call) (turns_from order (after_turn scripts n))
      (All-head (P n) call (drop 1 calls) (subst (All (P n)) (first-next calls call e) (h n)))
      (more (after_turn scripts n) (after-all scripts n h)))

  turns-all : (order : List ℕ) (scripts : List (List Call)) → OfEach scripts → All OfTurn (turns_from order scripts)
  turns-all [] scripts h =
      subst (All OfTurn) (sym (turns-rest scripts))
      (rest-all 0 scripts (λ k. let e : k ≡ 0 + k = omega arith in subst (λ (m : ℕ). All (P m) (get_or scripts k [])) e (h k)))
  turns-all (n ∷ order) scripts h = order-all n order scripts (next_call scripts n) refl (turns-all order) h

  -- a thread with no script has no call
  pub scripts-all : (order : List ℕ) (scripts : List (List Call)) → ((k : ℕ) → k < length scripts → All (P k) (get_or scripts k [])) → All OfTurn (turns_from order scripts)
  scripts-all order scripts h = turns-all order scripts (λ k. elim (cases_lt k (length scripts)) [
    | inl within ↦ h k within
    | inr past ↦ subst (All (P k)) (sym (get_or_past scripts k [] past)) (All-nil (P k))
  ])

-- each turn of a valid scenario fits
pub turns-fit : (s : Plan) → IsValid s → All (λ t. IsTrue (fits s.boot t.0 t.1)) (turns s)
turns-fit s v = scripts-all (λ n c. IsTrue (fits s.boot n c)) s.order s.scripts v.calls

-- each thread of the turns has a script
pub turns-declared : (s : Plan) → All (λ t. t.0 < length s.scripts) (turns s)
turns-declared s = scripts-all (λ n c. n < length s.scripts) s.order s.scripts (λ k l j d m. l)

-- the calls of a thread among some turns
abbrev pub calls_by : ℕ → List (ℕ × Call) → List Call
calls_by n ts = map (λ t. t.1) (filter (λ t. nat_eq t.0 n) ts)

by-own : (n m : ℕ) (call : Call) (ts : List (ℕ × Call)) → nat_eq m n ≡ true → calls_by n ((m, call) ∷ ts) ≡ call ∷ calls_by n ts
by-own n m call ts h = rw h refl

by-other : (n m : ℕ) (call : Call) (ts : List (ℕ × Call)) → nat_eq m n ≡ false → calls_by n ((m, call) ∷ ts) ≡ calls_by n ts
by-other n m call ts h = rw h refl

by-append : (n : ℕ) (ts us : List (ℕ × Call)) → calls_by n (ts ++ us) ≡ calls_by n ts ++ calls_by n us
by-append n ts us =
    let test : ℕ × Call → Bool = λ t. nat_eq t.0 n in
    ap (map (λ (t : ℕ × Call). t.1)) (filter-append test ts us) ∙ map-append (λ (t : ℕ × Call). t.1) (filter test ts) (filter test us)

-- the calls of one script
script-own : (n m : ℕ) (calls : List Call) → nat_eq m n ≡ true → calls_by n (map (λ c. (m, c)) calls) ≡ calls
script-own n m [] h = refl
script-own n m (c ∷ cs) h = by-own n m c (map (λ c. (m, c)) cs) h ∙ ap (λ (xs : List Call). c ∷ xs) (script-own n m cs h)

script-other : (n m : ℕ) (calls : List Call) → nat_eq m n ≡ false → calls_by n (map (λ c. (m, c)) calls) ≡ []
script-other n m [] h = refl
script-other n m (c ∷ cs) h = by-other n m c (map (λ c. (m, c)) cs) h ∙ script-other n m cs h

rest-before : (n m : ℕ) (scripts : List (List Call)) → n < m → calls_by n (rest_turns m scripts) ≡ []
rest-before n m [] l = refl
rest-before n m (script ∷ ss) l =
    let other : nat_eq m n ≡ false = grind (arith, nat_tests, l) in
    by-append n (map (λ c. (m, c)) script) (rest_turns (m + 1) ss)
    ∙ ap₂ (λ (xs ys : List Call). xs ++ ys) (script-other n m script other) (rest-before n (m + 1) ss (omega arith))

rest-by : (n k : ℕ) (scripts : List (List Call)) → calls_by (n + k) (rest_turns n scripts) ≡ get_or scripts k []
rest-by n k [] = refl
rest-by n zero (script ∷ ss) =
    let own : nat_eq n (n + 0) ≡ true = grind (arith, nat_tests) in
    by-append (n + 0) (map (λ c. (n, c)) script) (rest_turns (n + 1) ss)
    ∙ ap₂ (λ (xs ys : List Call). xs ++ ys) (script-own (n + 0) n script own) (rest-before (n + 0) (n + 1) ss (omega arith))
    ∙ append-nil script
rest-by n (suc k) (script ∷ ss) =
    let other : nat_eq n (n + suc k) ≡ false = grind (arith, nat_tests) in
    let e : n + suc k ≡ n + 1 + k = omega arith in
    by-append (n + suc k) (map (λ c. (n, c)) script) (rest_turns (n + 1) ss)
    ∙ ap₂ (λ (xs ys : List Call). xs ++ ys) (script-other (n + suc k) n script other) (ap (λ (m : ℕ). calls_by m (rest_turns (n + 1) ss)) e ∙ rest-by (n + 1) k ss)

taken-own : (m n : ℕ) (scripts : List (List Call)) (call : Call) → next_call scripts m ≡ Some call → m ≡ n → call ∷ get_or (after_turn scripts m) n [] ≡ get_or scripts n []
taken-own m n scripts call e same =
    subst (λ (j : ℕ). call ∷ get_or (after_turn scripts m) j [] ≡ get_or scripts j []) same
    (ap (λ (xs : List Call). call ∷ xs) (after-same scripts m) ∙ sym (first-next (get_or scripts m []) call e))

order-by : (n m : ℕ) (order : List ℕ) (scripts : List (List Call)) (next : Option Call) → next_call scripts m ≡ next
    → ((rest : List (List Call)) → calls_by n (turns_from order rest) ≡ get_or rest n []) → calls_by n (turns_from (m ∷ order) scripts) ≡ get_or scripts n []
order-by n m order scripts None e more = ap (calls_by n) (turn-passed m order scripts e) ∙ more scripts
order-by n m order scripts (Some call) e more =
    let after = after_turn scripts m in
    ap (calls_by n) (turn-taken m order scripts call e) ∙ elim (eqb_tells m n) [
      | inl same ↦ by-own n m call (turns_from order after) same.0 ∙ ap (λ (xs : List Call). call ∷ xs) (more after) ∙ taken-own m n scripts call e same.1
      | inr other ↦ by-other n m call (turns_from order after) other.0 ∙ more after ∙ get_or-set_other scripts m n (drop 1 (get_or scripts m [])) [] (λ q. other.1 (sym q))
    ]

-- the calls of a thread among all turns are its script
pub turns-by : (n : ℕ) (order : List ℕ) (scripts : List (List Call)) → calls_by n (turns_from order scripts) ≡ get_or scripts n []
turns-by n [] scripts =
    let e : n ≡ 0 + n = omega arith in
    ap (calls_by n) (turns-rest scripts) ∙ ap (λ (m : ℕ). calls_by m (rest_turns 0 scripts)) e ∙ rest-by 0 n scripts
turns-by n (m ∷ order) scripts = order-by n m order scripts (next_call scripts m) refl (turns-by n order)
