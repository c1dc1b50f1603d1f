-- A report has the status 0, 6 or 8.
use Rattle.std.proofs.Common.{◌≡◌, ℕ, List, [], ◌∷◌, length, Option, Some, None, Result, refl, sym, ap, subst, arith}
use Rattle.std.specs.Prelude.{Ok, Err, Contains}
use Rattle.kern_ids.specs.declared.entries.Entry.{Entry}
use Rattle.kern_ids.specs.declared.faults.Why.{Why}
use Rattle.kernel_model.specs.Scenario.{Plan}
use Rattle.replay_check.specs.declared.verdicts.Verdict.{Verdict}
use Rattle.replay_check.specs.declared.verdicts.Verdict.TheVariants as verdict
use Rattle.replay_check.specs.Verdicts.{verdict_of}
use Rattle.report_tables.specs.Reasons.{why_text}
use Rattle.report_tables.specs.declared.report.Judging.{Judging}
use Rattle.report_tables.specs.declared.report.Judging.TheVariants as judging
use Rattle.report_tables.specs.Reports.{Told, told, told_by, why_told, input_of, report_of}

abbrev IsStatus : ℕ → Type 0
IsStatus n = Contains (0 ∷ 6 ∷ 8 ∷ []) n

zero_is : IsStatus 0
zero_is = (0, omega arith, refl)

six_is : IsStatus 6
six_is = (1, omega arith, refl)

eight_is : IsStatus 8
eight_is = (2, omega arith, refl)

why_status : (n many : ℕ) (o : Option (List ℕ)) → IsStatus (why_told n many o).0
why_status n many None = eight_is
why_status n many (Some text) = zero_is

told_status : (j : Judging) (s : Plan) (h : List Entry) (v : Verdict) → IsStatus (told_by j s h v).0
told_status judging.Check s h verdict.Legal = zero_is
told_status judging.Table s h verdict.Legal = zero_is
told_status judging.Json s h verdict.Legal = zero_is
told_status (judging.Why n) s h verdict.Legal = why_status n (length h) (why_text s.boot h n)
told_status j s h (verdict.WrongReply place expected) = six_is
told_status j s h (verdict.WrongCall place) = six_is
told_status j s h (verdict.Missing thread) = six_is

-- the status where something is told
abbrev IsToldStatus : Result Told (ℕ × Why) → Type 0
IsToldStatus (Ok t) = IsStatus t.0
IsToldStatus (Err e) = Unit {0}

input_status : (j : Judging) (i : Result (Plan × List Entry) (ℕ × Why)) → IsToldStatus (told j i)
input_status j (Ok r) = told_status j r.0 r.1 (verdict_of r.0 r.1)
input_status j (Err e) = tt

pub report-status : (j : Judging) (x : List ℕ) (t : Told) → report_of j x ≡ Ok t → Contains (0 ∷ 6 ∷ 8 ∷ []) t.0
report-status j x t e = subst IsToldStatus e (input_status j (input_of x))
