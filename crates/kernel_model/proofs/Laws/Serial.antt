-- The histories that have just the turns of a scenario.
use Rattle.std.proofs.Common.{◌≡◌, ℕ, ◌<◌, List, [], ◌∷◌, ◌++◌, length, reverse, Bool, true, false, refl, sym, ap, ◌∙◌, subst, append-nil, append_assoc, inl, inr}
use Rattle.std.specs.Prelude.{IsTrue, ◌↔◌}
use Rattle.std.specs.List.{All, AllByRecursion}
use Rattle.std.proofs.lemmas.Bool.Decides.{eqb_tells}
use Rattle.std.proofs.lemmas.List.{map-append, reverse-append, reverse-reverse}
use Rattle.std.proofs.lemmas.List.Elements.{All-head, All-tail, recursion_from_All}
use Rattle.kern_ids.specs.declared.calls.Call.{Call}
use Rattle.kern_ids.specs.declared.entries.Entry.{Entry}
use Rattle.kernel_model.specs.System.{System}
use Rattle.kernel_model.specs.Histories.{fits, IsLegal, Legal}
use Rattle.kernel_model.specs.Scenario.{Plan, IsValid, two}
use Rattle.kernel_model.specs.Turns.{turns, run_from, answered, serial}
use Rattle.kernel_model.specs.Whole.{of_thread, calls_of, turns_of, IsWhole, IsRunOf}
use Rattle.kernel_model.proofs.Laws.Turns.{turns-fit, turns-declared, turns-by, calls_by}

-- a history whose threads and calls are the turns is whole
thread-calls : (n : ℕ) (h : List Entry) → calls_of (of_thread n h) ≡ calls_by n (turns_of h)
thread-calls n [] = refl
thread-calls n (e ∷ h) = elim (eqb_tells e.who n) [
  | inl own ↦ rw own.0 (ap (λ (xs : List Call). e.call ∷ xs) (thread-calls n h))
  | inr other ↦ rw other.0 (thread-calls n h)
]

turns-all_threads : (P : ℕ → Type 0) (h : List Entry) → AllByRecursion (λ t. P t.0) (turns_of h) → AllByRecursion (λ e. P e.who) h
turns-all_threads P [] a = tt
turns-all_threads P (e ∷ h) a = (a.0, turns-all_threads P h a.1)

pub turns-whole : (s : Plan) (h : List Entry) → turns_of h ≡ turns s → IsWhole s h
turns-whole s h e =
    let declared = turns-declared s in
    record {
      declared = turns-all_threads (λ n. n < length s.scripts) h (recursion_from_All (λ t. t.0 < length s.scripts) (turns_of h) (subst (All (λ t. t.0 < length s.scripts)) (sym e) declared));
      scripts = λ n l. thread-calls n h ∙ ap (calls_by n) e ∙ turns-by n s.order s.scripts;
    }

-- the history once some turns are taken
pub run-turn : (boot : System) (past : List Entry) (turn : ℕ × Call) (rest : List (ℕ × Call)) → run_from boot past (turn ∷ rest) ≡ run_from boot (answered boot past turn ∷ past) rest
unfolding run_from
run-turn boot past turn rest = refl

pub run-none : (boot : System) (past : List Entry) → run_from boot past [] ≡ past
unfolding run_from
run-none boot past = refl

run-legal : (boot : System) (past : List Entry) (ts : List (ℕ × Call)) → IsLegal boot past → All (λ t. IsTrue (fits boot t.0 t.1)) ts → IsLegal boot (run_from boot past ts)
unfolding run_from
run-legal boot past [] l f = l
run-legal boot past (t ∷ ts) l f =
    run-legal boot (answered boot past t ∷ past) ts (All-head (λ t. IsTrue (fits boot t.0 t.1)) t ts f, refl, l) (All-tail (λ t. IsTrue (fits boot t.0 t.1)) t ts f)

turns-push : (past : List Entry) (e : Entry) → turns_of (reverse (e ∷ past)) ≡ turns_of (reverse past) ++ (e.who, e.call) ∷ []
turns-push past e = ap turns_of (reverse-append (e ∷ []) past) ∙ map-append (λ (x : Entry). (x.who, x.call)) (reverse past) (e ∷ [])

run-turns : (boot : System) (past : List Entry) (ts : List (ℕ × Call)) → turns_of (reverse (run_from boot past ts)) ≡ turns_of (reverse past) ++ ts
unfolding run_from
run-turns boot past [] = sym (append-nil (turns_of (reverse past)))
run-turns boot past (t ∷ ts) =
    run-turns boot (answered boot past t ∷ past) ts
    ∙ ap (λ (us : List (ℕ × Call)). us ++ ts) (turns-push past (answered boot past t))
    ∙ append_assoc (turns_of (reverse past)) (t ∷ []) ts

run-append : (boot : System) (past : List Entry) (ts us : List (ℕ × Call)) → run_from boot past (ts ++ us) ≡ run_from boot (run_from boot past ts) us
unfolding run_from
run-append boot past [] us = refl
run-append boot past (t ∷ ts) us = run-append boot (answered boot past t ∷ past) ts us

-- a legal history is the one that its turns give
legal-run : (boot : System) (past : List Entry) → IsLegal boot past → run_from boot [] (turns_of (reverse past)) ≡ past
unfolding run_from
legal-run boot [] l = refl
legal-run boot (e ∷ past) l =
    let turn : ℕ × Call = (e.who, e.call) in
    ap (run_from boot []) (turns-push past e)
    ∙ run-append boot [] (turns_of (reverse past)) (turn ∷ [])
    ∙ ap (λ (p : List Entry). answered boot p turn ∷ p) (legal-run boot past l.2)
    ∙ ap (λ r. record e { reply = r } ∷ past) (sym l.1)

pub serial-turns : (s : Plan) → turns_of (serial s) ≡ turns s
serial-turns s = run-turns s.boot [] (turns s)

pub serial-legal : (s : Plan) → IsValid s → Legal s.boot (serial s)
serial-legal s v =
    subst (IsLegal s.boot) (sym (reverse-reverse (run_from s.boot [] (turns s)))) (run-legal s.boot [] (turns s) tt (turns-fit s v))

pub legal-serial : (s : Plan) (h : List Entry) → Legal s.boot h → turns_of h ≡ turns s → h ≡ serial s
legal-serial s h l e =
    let run = legal-run s.boot (reverse h) l in
    let same : turns_of (reverse (reverse h)) ≡ turns s = ap turns_of (reverse-reverse h) ∙ e in
    sym (reverse-reverse h) ∙ ap reverse (sym run ∙ ap (run_from s.boot []) same)

pub serial-whole : (s : Plan) → IsWhole s (serial s)
serial-whole s = turns-whole s (serial s) (serial-turns s)

-- the second form has the same histories
pub run_of-two : (s : Plan) (h : List Entry) → IsRunOf s h ↔ IsRunOf (two s) h
run_of-two s h = (
  λ r. (r.0, record { declared = r.1.declared; scripts = r.1.scripts }),
  λ r. (r.0, record { declared = r.1.declared; scripts = r.1.scripts }),
)
