-- What is told of an input by its check is what is reported of it.
use Rattle.std.proofs.Common.{◌≡◌, ℕ, ◌+◌, List, drop, Result, Ok, Err, refl, ap}
use Rattle.kern_ids.specs.declared.entries.Entry.{Entry}
use Rattle.kern_ids.specs.declared.faults.Why.{Why}
use Rattle.kernel_model.specs.Scenario.{Plan}
use Rattle.history_text.specs.HistoryReading.{history_of}
use Rattle.scenario_text.specs.Fronts.{Taken, front_taken}
use Rattle.replay_check.specs.declared.verdicts.Verdict.{Verdict}
use Rattle.replay_check.specs.declared.verdicts.Verdict.TheVariants as verdict
use Rattle.replay_check.specs.Verdicts.{verdict_of}
use Rattle.replay_check.specs.Pieces.{end_of}
use Rattle.commands.specs.Checks.{ended_by, check_of}
use Rattle.report_tables.specs.declared.report.Judging.TheVariants.{Check}
use Rattle.report_tables.specs.Reports.{Told, told, told_by, verdict_told, with_plan, behind, input_of, report_of}
use Rattle.commands.specs.Outcome.{told_of_end}

verdict_by : (s : Plan) (h : List Entry) (v : Verdict) → told_by Check s h v ≡ verdict_told v
verdict_by s h verdict.Legal = refl
verdict_by s h (verdict.WrongReply place expected) = refl
verdict_by s h (verdict.WrongCall place) = refl
verdict_by s h (verdict.Missing thread) = refl

history_told : (s : Plan) (h : Result (List Entry) (ℕ × Why)) → told Check (with_plan s h) ≡ told_of_end (end_of s h)
history_told s (Ok es) = ap (λ (t : Told). Ok t) (verdict_by s es (verdict_of s es))
history_told s (Err f) = refl

front_told : (x : List ℕ) (front : Result Taken (ℕ × Why)) → told Check (behind x front) ≡ told_of_end (ended_by x front)
front_told x (Ok t) = history_told t.0 (history_of (t.2 + 1) (drop t.1 x))
front_told x (Err f) = refl

pub check_told : (x : List ℕ) → report_of Check x ≡ told_of_end (check_of x)
unfolding input_of
check_told x = front_told x (front_taken x)
