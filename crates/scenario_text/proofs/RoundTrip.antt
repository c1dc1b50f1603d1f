-- Reading and writing a scenario, one the inverse of the other.
use Rattle.std.proofs.Common.{◌≡◌, ℕ, List, Result, Ok, Err, ap, ◌∙◌, subst}
use Rattle.std.specs.Result.{IfOk}
use Rattle.kern_ids.specs.declared.faults.ReadFault.{ReadFault}
use Rattle.kernel_model.specs.Scenario.{Plan, two}
use Rattle.line_text.specs.Cut.{text_of}
use Rattle.scenario_text.specs.Grammar.{scenario_of}
use Rattle.scenario_text.specs.Gives.{ReadGives}
use Rattle.scenario_text.specs.Text.{scenario_lines, scenario_text, HasText}
use Rattle.scenario_text.proofs.Runs.{run-scenario, scenario-run}
use Rattle.scenario_text.proofs.Told.{run-lines}
use Rattle.scenario_text.proofs.Written.{scenario-lines-run}
use Rattle.scenario_text.proofs.Clean.{scenario-clean}

pub scenario_of-takes : (bytes : List ℕ) (s : Plan) → scenario_of bytes ≡ Ok s → (bytes ≡ scenario_text s) × HasText s
scenario_of-takes bytes s e =
    let r = scenario-run bytes s e in
    let t = run-lines s r.0 r.2 in
    (r.1 ∙ ap text_of t.0, t.1)

pub scenario_of-again : (s : Plan) → HasText s → scenario_of (scenario_text s) ≡ Ok s
scenario_of-again s h = run-scenario (scenario_lines s) s (scenario-clean s h) (scenario-lines-run s h)

-- the same of what a reader answers
pub read-written : (r : Result Plan ReadFault) (bytes : List ℕ) → ReadGives r (scenario_of bytes) → IfOk r (λ s. bytes ≡ scenario_text s)
read-written (Ok s) bytes g = let t = scenario_of-takes bytes s g in t.0
read-written (Err e) bytes g = tt

pub read-valid : (r : Result Plan ReadFault) (bytes : List ℕ) → ReadGives r (scenario_of bytes) → IfOk r (λ s. HasText s)
read-valid (Ok s) bytes g = let t = scenario_of-takes bytes s g in t.1
read-valid (Err e) bytes g = tt

pub read-again : (r : Result Plan ReadFault) (bytes : List ℕ) (s : Plan) → ReadGives r (scenario_of bytes) → HasText s → bytes ≡ scenario_text s → ReadGives r (Ok s)
read-again r bytes s g h e = subst (ReadGives r) (ap scenario_of e ∙ scenario_of-again s h) g

pub two-text : (s : Plan) → HasText s → HasText (two s)
two-text s h =
    let v = h.valid in
    record {
      valid = record { boot = v.boot; form = tt; tasks = λ k d l. tt; bands = v.bands; scripts = v.scripts; calls = v.calls; ranges = v.ranges; few_calls = v.few_calls; order = v.order; few_turns = v.few_turns };
      bands = h.bands;
      calls = h.calls;
    }
