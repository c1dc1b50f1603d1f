-- What is due, from how an input was read.
use Rattle.std.proofs.Common.{◌≡◌, ◌≢◌, ◌∙◌, ◌≤◌, ◌<◌, ◌+◌, ◌⊎◌, inl, inr, ℕ, List, [], ◌∷◌, length, take, Option, Some, None, Result, Ok, Err, refl, sym, ap, subst, arith}
use Rattle.std.specs.Prelude.{Contains, replicate}
use Rattle.std.proofs.lemmas.List.{length-take-le, length-replicate}
use Rattle.edge.specs.Ends.{IsOver}
use Rattle.kern_ids.specs.declared.faults.Why.{Why}
use Rattle.kernel_model.specs.Scenario.{Plan}
use Rattle.scenario_text.specs.Grammar.{scenario_of}
use Rattle.commands.specs.Messages.{too_long}
use Rattle.commands.specs.Outcome.{Due}
use Rattle.commands.specs.RunOutcome.{run_limit, IsRunAnswer}
use Rattle.std.specs.Io.KnownBytes.{Appends}
use Rattle.commands.specs.RunCalls.{IsRunDue, IsRunOutcome, WritesRun}

-- an input that is too long
pub over-due : (old new : Option (List ℕ)) (before now : ℕ) → IsOver old new run_limit → IsRunDue old new before now (7, too_long run_limit)
over-due None new before now o =
    let x : List ℕ = replicate (run_limit + 1) 0 in
    let long : run_limit < length x = omega (arith, length-replicate {A = ℕ} (run_limit + 1) 0) in
    inl (x, tt, inr (long, refl))
over-due (Some left) new before now o =
    let lt : run_limit < length left = o.0 in
    let le : run_limit + 1 ≤ length left = omega (arith, lt) in
    let long : run_limit < length (take (run_limit + 1) left) = omega (arith, length-take-le (run_limit + 1) left le) in
    inl (take (run_limit + 1) left, inr (lt, refl, o.1), inr (long, refl))

pub over-due_named : (limit : ℕ) (old new : Option (List ℕ)) (before now : ℕ) → limit ≡ run_limit → IsOver old new limit → IsRunDue old new before now (7, too_long limit)
over-due_named limit old new before now l o = subst (λ (n : ℕ). IsRunDue old new before now (7, too_long n)) (sym l) (over-due old new before now (subst (λ (n : ℕ). IsOver old new n) l o))

abbrev Listed : ℕ → Type 0
Listed status = Contains (0 ∷ 3 ∷ 4 ∷ 5 ∷ 7 ∷ 9 ∷ []) status

answer_listed : (r : Result Plan (ℕ × Why)) (due : Due) → IsRunAnswer r due → Listed due.0
answer_listed (Ok s) due h = (0, omega arith, sym (ap (λ (d : Due). d.0) h.2))
answer_listed (Err fault) due h = (1, omega arith, sym (ap (λ (d : Due). d.0) h))

-- the status of what is due is one of those of `run`
due-listed : (old new : Option (List ℕ)) (before now : ℕ) (due : Due) (status : ℕ) → IsRunDue old new before now due → status ≡ due.0 → Listed status
due-listed old new before now due status (inl (x, taken, inl (le, a))) e = subst Listed (sym e) (answer_listed (scenario_of x) due a)
due-listed old new before now due status (inl (x, taken, inr (lt, d))) e = (4, omega arith, sym (e ∙ ap (λ (d : Due). d.0) d))
due-listed old new before now due status (inr (rose, d)) e = (2, omega arith, sym (e ∙ ap (λ (d : Due). d.0) d))

-- so is the status of its writing
pub written-listed : (old new : Option (List ℕ)) (before now : ℕ) (due : Due) (status : ℕ) → IsRunDue old new before now due → (status ≡ due.0) ⊎ ((status ≡ 5) ⊎ (status ≡ 9)) → Listed status
written-listed old new before now due status d (inl e) = due-listed old new before now due status d e
written-listed old new before now due status d (inr (inl e)) = (3, omega arith, sym e)
written-listed old new before now due status d (inr (inr e)) = (5, omega arith, sym e)

-- where no read failed what is due is an outcome
pub written_run : (old new : Option (List ℕ)) (before now : ℕ) (due : Due) (held holds : Option (List ℕ)) (status : ℕ) → IsRunDue old new before now due → status ≡ due.0 → Appends held holds due.1 → status ≢ 4 → WritesRun old new held holds status
written_run old new before now due held holds status (inl o) e wrote other = (due.1, subst (λ (n : ℕ). IsRunOutcome old new (n, due.1)) (sym e) o, wrote)
written_run old new before now due held holds status (inr f) e wrote other = absurd (other (e ∙ ap (λ (d : Due). d.0) f.1))
