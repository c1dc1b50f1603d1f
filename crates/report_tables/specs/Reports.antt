-- The report on a scenario with a history.
use Rattle.std.specs.Prelude.{◌≡◌, ℕ, ◌+◌, List, [], ◌∷◌, ◌++◌, codes, drop, length, reverse, Option, Some, None, Result, Ok, Err}
use Rattle.std.specs.Fmt.{decimal}
use Rattle.kern_ids.specs.declared.entries.Entry.{Entry}
use Rattle.kern_ids.specs.declared.faults.Why.{Why}
use Rattle.kern_ids.specs.declared.faults.ReadFault.{ReadFault}
use Rattle.kern_ids.specs.declared.faults.ReadFault.TheVariants as read
use Rattle.kern_ids.specs.Entries.{Entries}
use Rattle.kernel_model.specs.Scenario.{Plan}
use Rattle.line_text.specs.Cut.{line_of}
use Rattle.history_text.specs.Entries.{reply_words}
use Rattle.history_text.specs.HistoryReading.{history_of}
use Rattle.scenario_text.specs.Fronts.{Taken, front_taken}
use Rattle.replay_check.specs.declared.verdicts.Verdict.{Verdict}
use Rattle.replay_check.specs.declared.verdicts.Verdict.TheVariants as verdict
use Rattle.replay_check.specs.Verdicts.{verdict_of}
use Rattle.report_tables.specs.Facts.{facts_of}
use Rattle.report_tables.specs.Table.{table_text}
use Rattle.report_tables.specs.Json.{facts_data}
use Rattle.report_tables.specs.Reasons.{why_text}
use Rattle.serde_json.specs.Written.{compact_text}
use Rattle.report_tables.specs.declared.report.Judging.{Judging}
use Rattle.report_tables.specs.declared.report.Judging.TheVariants as judging
use Rattle.report_tables.specs.declared.report.Report.{Report}
use Rattle.report_tables.specs.declared.report.Report.TheVariants as report

-- a history and the scenario before it
abbrev pub with_plan : Plan → Result (List Entry) (ℕ × Why) → Result (Plan × List Entry) (ℕ × Why)
with_plan s (Ok h) = Ok (s, h)
with_plan s (Err e) = Err e

-- what comes after a scenario is read as a history, from the next line on
abbrev pub behind : List ℕ → Result Taken (ℕ × Why) → Result (Plan × List Entry) (ℕ × Why)
behind x (Ok t) = with_plan t.0 (history_of (t.2 + 1) (drop t.1 x))
behind x (Err e) = Err e

-- the scenario and the history that an input is, or its first fault
unfoldable pub input_of : List ℕ → Result (Plan × List Entry) (ℕ × Why)
input_of x = behind x (front_taken x)

-- the line on a verdict
abbrev pub verdict_text : Verdict → List ℕ
verdict_text verdict.Legal = codes "legal" ++ 10 ∷ []
verdict_text (verdict.WrongReply place expected) = codes "entry " ++ decimal place ++ codes ": expected " ++ line_of (reply_words expected) ++ 10 ∷ []
verdict_text (verdict.WrongCall place) = codes "entry " ++ decimal place ++ codes ": not the next call of its thread" ++ 10 ∷ []
verdict_text (verdict.Missing thread) = codes "thread " ++ decimal thread ++ codes ": calls missing" ++ 10 ∷ []

-- there are only so many entries
abbrev pub no_entry : ℕ → ℕ → List ℕ
no_entry n many = codes "jetlab: no entry " ++ decimal n ++ codes " of " ++ decimal many ++ 10 ∷ []

-- an exit status and a text
abbrev pub Told : Type 0
Told = ℕ × List ℕ

-- a report has its status: 0 where it is what was asked, 6 for another verdict than Legal, 8 where there is no such entry
abbrev pub told_of : Report → Told
told_of (report.Legal text) = (0, text.items)
told_of (report.Wrong text) = (6, text.items)
told_of (report.NoEntry text) = (8, text.items)

-- the entry and why it was answered so, or that there is none
abbrev pub why_told : ℕ → ℕ → Option (List ℕ) → Told
why_told n many (Some text) = (0, text)
why_told n many None = (8, no_entry n many)

-- a verdict, with its line
abbrev pub verdict_told : Verdict → Told
verdict_told verdict.Legal = (0, verdict_text verdict.Legal)
verdict_told (verdict.WrongReply place expected) = (6, verdict_text (verdict.WrongReply place expected))
verdict_told (verdict.WrongCall place) = (6, verdict_text (verdict.WrongCall place))
verdict_told (verdict.Missing thread) = (6, verdict_text (verdict.Missing thread))

-- of a history that is legal and whole
abbrev pub reported : Judging → Plan → List Entry → Told
reported judging.Check s h = verdict_told verdict.Legal
reported judging.Table s h = (0, table_text (facts_of s.boot (reverse h)))
reported judging.Json s h = (0, compact_text (facts_data (facts_of s.boot (reverse h))) ++ 10 ∷ [])
reported (judging.Why n) s h = why_told n (length h) (why_text s.boot h n)

-- by the verdict: where it is not Legal, the verdict alone is printed
abbrev pub told_by : Judging → Plan → List Entry → Verdict → Told
told_by j s h verdict.Legal = reported j s h
told_by j s h v = verdict_told v

abbrev pub told : Judging → Result (Plan × List Entry) (ℕ × Why) → Result Told (ℕ × Why)
told j (Ok r) = Ok (told_by j r.0 r.1 (verdict_of r.0 r.1))
told j (Err e) = Err e

-- the report on an input, or its first fault
abbrev pub report_of : Judging → List ℕ → Result Told (ℕ × Why)
report_of j x = told j (input_of x)

-- what a reader answers, against what the input says; or it is out of memory
abbrev pub Fails : {A : Type 0} → ReadFault → Result A (ℕ × Why) → Type 0
Fails read.NoMemory said = Unit {0}
Fails (read.Bad n d) said = said ≡ Err (n, d)

abbrev pub InputGives : Result (Plan × Entries) ReadFault → Result (Plan × List Entry) (ℕ × Why) → Type 0
InputGives (Ok r) said = said ≡ Ok (r.0, r.1.list)
InputGives (Err e) said = Fails e said

abbrev pub ReportGives : Result Report ReadFault → Result Told (ℕ × Why) → Type 0
ReportGives (Ok r) said = said ≡ Ok (told_of r)
ReportGives (Err e) said = Fails e said
