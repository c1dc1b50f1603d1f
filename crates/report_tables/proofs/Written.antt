-- The text of a scenario with one of its histories, read again.
use Rattle.std.proofs.Common.{◌≡◌, ◌∙◌, ◌≤◌, ◌+◌, ◌-◌, ℕ, List, ◌++◌, length, drop, refl, ap}
use Rattle.std.specs.Prelude.{Result, Ok}
use Rattle.std.specs.List.{AllByRecursion}
use Rattle.std.proofs.Math.Seq.{drop-append_seam}
use Rattle.kern_ids.specs.declared.entries.Entry.{Entry}
use Rattle.kern_ids.specs.declared.faults.Why.{Why}
use Rattle.kernel_model.specs.Scenario.{Plan}
use Rattle.kernel_model.specs.Whole.{IsRunOf}
use Rattle.scenario_text.specs.Fronts.{Taken, front_taken}
use Rattle.scenario_text.specs.Text.{HasText, scenario_text, scenario_lines}
use Rattle.scenario_text.proofs.FrontLaws.{front-again, taken-is, taken-within}
use Rattle.history_text.specs.EntryReading.{HasText as HasLine}
use Rattle.history_text.specs.History.{history_text}
use Rattle.history_text.specs.HistoryReading.{history_of}
use Rattle.history_text.proofs.HistoryLaws.{history_again}
use Rattle.replay_check.specs.declared.verdicts.Verdict.{Verdict}
use Rattle.replay_check.specs.declared.verdicts.Verdict.TheVariants.{Legal}
use Rattle.replay_check.specs.Verdicts.{verdict_of}
use Rattle.replay_check.proofs.Begun.{legal-verdict}
use Rattle.report_tables.specs.declared.report.Judging.TheVariants.{Check}
use Rattle.report_tables.specs.Reports.{Told, input_of, report_of, told, told_by, verdict_text}

abbrev Fronts : Type 0
Fronts = Result Taken (ℕ × Why)

abbrev taken : Plan → ℕ → ℕ → Fronts
taken s n m = Ok (s, n, m)

-- the scenario is read at the front
front-written : (s : Plan) (rest : List ℕ) → HasText s → front_taken (scenario_text s ++ rest) ≡ taken s (length (scenario_text s)) (length (scenario_lines s))
front-written s rest t =
    let again = front-again s rest t in
    let within = taken-within (scenario_text s ++ rest) rest s (length (scenario_lines s) + 1) again in
    taken-is (scenario_text s ++ rest) rest s (length (scenario_lines s) + 1) again ∙ ap (λ n. taken s n (length (scenario_lines s) + 1 - 1)) within.2 ∙ ap (λ m. taken s (length (scenario_text s)) m) within.3

-- and the history after it
input-written : (s : Plan) (h : List Entry) → HasText s → AllByRecursion HasLine h → length h ≤ 200000 → input_of (scenario_text s ++ history_text h) ≡ Ok (s, h)
unfolding input_of
input-written s h t lines few =
    let f = front-written s (history_text h) t in
    let d : drop (length (scenario_text s)) (scenario_text s ++ history_text h) ≡ history_text h = drop-append_seam (scenario_text s) (history_text h) in
    let g = history_again (length (scenario_lines s) + 1) h lines few in
    rw (f, d, g) refl

abbrev checked : Plan → List Entry → Verdict → Result Told (ℕ × Why)
checked s h v = Ok (told_by Check s h v)

-- the check of what was written says legal
pub written-legal : (s : Plan) (h : List Entry) → HasText s → AllByRecursion HasLine h → length h ≤ 200000 → IsRunOf s h → report_of Check (scenario_text s ++ history_text h) ≡ Ok (0, verdict_text Legal)
written-legal s h t lines few r =
    ap (λ i. told Check i) (input-written s h t lines few) ∙ ap (λ v. checked s h v) (legal-verdict s h r.0 r.1)
