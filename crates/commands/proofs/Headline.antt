-- What `run` wrote at status 0.
use Rattle.std.proofs.Common.{◌≡◌, ◌≢◌, ◌∙◌, ◌≤◌, ◌<◌, ◌+◌, inl, inr, ℕ, List, ◌++◌, length, take, Option, Some, None, Result, Ok, Err, refl, ap, subst, arith}
use Rattle.std.specs.Io.KnownBytes.{Appends}
use Rattle.std.proofs.lemmas.List.{length-take-le}
use Rattle.kern_ids.specs.declared.faults.Why.{Why}
use Rattle.kernel_model.specs.Scenario.{Plan}
use Rattle.scenario_text.specs.Grammar.{scenario_of}
use Rattle.scenario_text.specs.Text.{scenario_text}
use Rattle.scenario_text.proofs.RoundTrip.{scenario_of-takes}
use Rattle.history_text.specs.History.{history_text}
use Rattle.commands.specs.Outcome.{Due}
use Rattle.commands.specs.RunOutcome.{run_limit, IsRunAnswer}
use Rattle.commands.specs.RunCalls.{WritesRun}
use Rattle.commands.specs.Top.{WritesHistory}

abbrev pub due : ℕ → List ℕ → Due
due n text = (n, text)

pub ok_text : (text other : List ℕ) → due 0 text ≡ due 0 other → text ≡ other
ok_text text other e = ap (λ (d : Due). d.1) e

pub not_status : (n : ℕ) (text other : List ℕ) → 0 < n → due 0 text ≡ due n other → ⊥
not_status n text other l e = let z : 0 ≡ n = ap (λ (d : Due). d.0) e in omega arith

run_answer : (left text : List ℕ) (held holds : Option (List ℕ)) (r : Result Plan (ℕ × Why)) → scenario_of left ≡ r → IsRunAnswer r (0, text) → Appends held holds text → WritesHistory (Some left) held holds
run_answer left text held holds (Ok s) e a w =
    let told = scenario_of-takes left s e in
    (s, a.0, told.1, told.0, a.1, subst (Appends held holds) (ok_text text (scenario_text s ++ history_text a.0) a.2) w)
run_answer left text held holds (Err fault) e a w = absurd (not_status 3 text _ (omega arith) a)

past_limit : (left x : List ℕ) → run_limit < length left → x ≡ take (run_limit + 1) left → length x ≤ run_limit → ⊥
past_limit left x lt is le =
    let fits : run_limit + 1 ≤ length left = omega (arith, lt) in
    let long : length x ≡ run_limit + 1 = ap length is ∙ length-take-le (run_limit + 1) left fits in
    omega (arith, long, le)

-- it is the scenario that the source had left, and one of its histories
pub headline : (old new held holds : Option (List ℕ)) → WritesRun old new held holds 0 → WritesHistory old held holds
headline None new held holds w = tt {0}
headline (Some left) new held holds (text, (x, inl (le, is, rest), inl (le', a)), wrote) =
    run_answer left text held holds (scenario_of left) refl (subst (λ (y : List ℕ). IsRunAnswer (scenario_of y) (0, text)) is a) wrote
headline (Some left) new held holds (text, (x, inr (lt, is, rest), inl (le', a)), wrote) = absurd (past_limit left x lt is le')
headline (Some left) new held holds (text, (x, taken, inr (lt, is)), wrote) = absurd (not_status 7 text _ (omega arith) is)

pub headline-at : (old new held holds : Option (List ℕ)) (status : ℕ) → status ≡ 0 → (status ≢ 4 → status ≢ 5 → status ≢ 9 → WritesRun old new held holds status) → WritesHistory old held holds
headline-at old new held holds status zero said =
    headline old new held holds (subst (λ (n : ℕ). WritesRun old new held holds n) zero (said (λ (e : status ≡ 4). omega (arith, e, zero)) (λ (e : status ≡ 5). omega (arith, e, zero)) (λ (e : status ≡ 9). omega (arith, e, zero))))
