-- What is due, from how an input was read.
use Rattle.std.proofs.Common.{◌≡◌, ◌≢◌, ◌∙◌, ◌≤◌, ◌<◌, ◌+◌, ◌⊎◌, inl, inr, ℕ, zero, suc, List, [], ◌∷◌, length, take, Bool, true, false, Option, Some, None, Result, refl, sym, ap, subst, arith}
use Rattle.std.specs.Prelude.{OnErr, Contains, replicate, Ok, Err, nat_lt, if◌then◌else◌}
use Rattle.std.proofs.lemmas.Bool.{le-ltb, lt-ltb}
use Rattle.std.proofs.lemmas.List.{length-take-le, length-replicate}
use Rattle.std.specs.Io.KnownBytes.{Appends, Keeps}
use Rattle.edge.specs.Ends.{ReadWhole, IsOver, AppendsFront}
use Rattle.kern_ids.specs.declared.entries.Entry.{Entry}
use Rattle.report_tables.specs.Summary.{summary_text}
use Rattle.report_tables.specs.declared.report.Report.TheVariants as report
use Rattle.replay_check.specs.declared.end.PieceEnd.{PieceEnd}
use Rattle.commands.specs.Checks.{IsChecked}
use Rattle.commands.proofs.Checks.{check_told}
use Rattle.report_tables.specs.declared.report.Judging.{Judging}
use Rattle.report_tables.specs.declared.report.Judging.TheVariants.{Check}
use Rattle.report_tables.specs.Reports.{Told, report_of}
use Rattle.report_tables.proofs.Statuses.{report-status}
use Rattle.kernel_model.specs.Scenario.{Plan}
use Rattle.kern_ids.specs.declared.faults.Why.{Why}
use Rattle.scenario_text.specs.Grammar.{scenario_of}
use Rattle.commands.specs.declared.command.Rewriting.{Rewriting}
use Rattle.commands.specs.declared.command.Reading.TheVariants.{Rewrite, Judge}
use Rattle.line_text.specs.Cut.{Word}
use Rattle.commands.specs.declared.answer.Answer.{Answer}
use Rattle.commands.specs.declared.answer.Answer.TheVariants as answer
use Rattle.commands.specs.declared.command.Reading.{Reading}
use Rattle.commands.specs.declared.command.Making.{Making}
use Rattle.commands.specs.declared.command.Command.{Command}
use Rattle.commands.specs.declared.command.Command.TheVariants.{Read, Make}
use Rattle.commands.specs.Answers.{due_of}
use Rattle.commands.specs.Commands.{command_of, limit_of, reads}
use Rattle.commands.specs.Messages.{too_long, read_fault}
use Rattle.commands.specs.Outcome.{Due, answered, reported, told_of_end, read_outcome, outcome_of, outcome_by, made_outcome}
use Rattle.commands.specs.Calls.{IsInput, IsTakenBy, IsReadDue, IsReadFault, IsDue, IsOutcome, WritesOutcome}

-- a front of a text, and of one that equals it
pub front_of : {E : Type 0} (r : Result (Unit {0}) E) (held holds : Option (List ℕ)) (written due : List ℕ) → written ≡ due → OnErr r (AppendsFront held holds written) → OnErr r (AppendsFront held holds due)
front_of r held holds written due e f = subst (λ (t : List ℕ). OnErr r (AppendsFront held holds t)) e f

-- within the limit the input is read, past it it is not
pub outcome_of-within : (r : Reading) (x : List ℕ) → length x ≤ limit_of r → outcome_of r x ≡ read_outcome r x
outcome_of-within r x le = rw (le-ltb (limit_of r) (length x) le) refl

pub outcome_of-past : (r : Reading) (x : List ℕ) → limit_of r < length x → outcome_of r x ≡ (7, too_long (limit_of r))
outcome_of-past r x lt = rw (lt-ltb (limit_of r) (length x) lt) refl

read_whole : (limit : ℕ) (old new : Option (List ℕ)) (x : List ℕ) → length x ≤ limit → ReadWhole old new x → IsInput limit old new x
read_whole limit None new x le w = tt
read_whole limit (Some left) new x le w = inl (subst (λ (y : List ℕ). length y ≤ limit) w.0 le, w.0, w.1)

-- an input that was read to its end
pub whole_due : (r : Reading) (old new : Option (List ℕ)) (before now : ℕ) (x : List ℕ) (due : Due) → length x ≤ limit_of r → ReadWhole old new x → due ≡ read_outcome r x → IsReadDue r old new before now due
whole_due r old new before now x due le w d =
    inl (x, read_whole (limit_of r) old new x le w, d ∙ sym (outcome_of-within r x le))

-- an input that is too long
over_due : (r : Reading) (old new : Option (List ℕ)) (before now : ℕ) → IsOver old new (limit_of r) → IsReadDue r old new before now (7, too_long (limit_of r))
over_due r None new before now o =
    let x : List ℕ = replicate (limit_of r + 1) 0 in
    let long : limit_of r < length x = omega (arith, length-replicate {A = ℕ} (limit_of r + 1) 0) in
    inl (x, tt, sym (outcome_of-past r x long))
over_due r (Some left) new before now o =
    let x = take (limit_of r + 1) left in
    let lt : limit_of r < length left = o.0 in
    let le : limit_of r + 1 ≤ length left = omega (arith, lt) in
    let long : limit_of r < length x = omega (arith, length-take-le (limit_of r + 1) left le) in
    inl (x, inr (lt, refl, o.1), sym (outcome_of-past r x long))

-- the same where the limit has a name of its own
pub over_due-named : (r : Reading) (limit : ℕ) (old new : Option (List ℕ)) (before now : ℕ) → limit ≡ limit_of r → IsOver old new limit → IsReadDue r old new before now (7, too_long limit)
over_due-named r limit old new before now l o =
    subst (λ (n : ℕ). IsReadDue r old new before now (7, too_long n)) (sym l) (over_due r old new before now (subst (λ (n : ℕ). IsOver old new n) l o))

-- an input that was checked as it was read
pub checked_due : (limit : ℕ) (old new : Option (List ℕ)) (before now : ℕ) (end : PieceEnd) (due : Due) → limit ≡ limit_of (Judge Check) → IsChecked old new limit end → due ≡ reported (told_of_end end)
    → IsReadDue (Judge Check) old new before now due
checked_due limit old new before now end due l c d =
    let few : length c.bytes ≤ limit_of (Judge Check) = subst (λ (n : ℕ). length c.bytes ≤ n) l c.few in
    whole_due (Judge Check) old new before now c.bytes due few c.whole (d ∙ ap reported (ap told_of_end c.ends ∙ sym (check_told c.bytes)))

-- what is due for a command is due for its words
pub read_is_due : (words : List Word) (r : Reading) (old new : Option (List ℕ)) (before now : ℕ) (due : Due) → command_of words ≡ Some (Read r) → IsReadDue r old new before now due → IsDue words old new before now due
read_is_due words r old new before now due e (inl (x, taken, d)) =
    inl (x, subst (λ (o : Option Command). IsTakenBy o old new x) (sym e) taken, d ∙ sym (ap (λ (o : Option Command). outcome_by o x) e))
read_is_due words r old new before now due e (inr (rose, d)) = inr ((ap reads e, rose), d)

pub made_is_due : (words : List Word) (making : Making) (seed n : ℕ) (old new : Option (List ℕ)) (before now : ℕ) (due : Due) → command_of words ≡ Some (Make making seed n) → Keeps old new → due ≡ made_outcome making seed n → IsDue words old new before now due
made_is_due words making seed n old new before now due e kept d =
    inl ([], subst (λ (o : Option Command). IsTakenBy o old new []) (sym e) (kept, refl), d ∙ sym (ap (λ (o : Option Command). outcome_by o []) e))

-- the counts of a history
abbrev pub counted : List Entry → Due
counted h = (0, summary_text h)

pub keeps_same : (o : Option (List ℕ)) → Keeps o o
keeps_same None = tt
keeps_same (Some xs) = refl

-- where no read failed what is due is the outcome
pub written_outcome : (words : List Word) (old new : Option (List ℕ)) (before now : ℕ) (due : Due) (held holds : Option (List ℕ)) (status : ℕ) → IsDue words old new before now due → status ≡ due.0 → Appends held holds due.1 → status ≢ 4 → WritesOutcome words old new held holds status
written_outcome words old new before now due held holds status (inl o) e wrote other =
    (due.1, subst (λ (n : ℕ). IsOutcome words old new (n, due.1)) (sym e) o, wrote)
written_outcome words old new before now due held holds status (inr f) e wrote other = absurd (other (e ∙ ap (λ (d : Due). d.0) f.1))

-- the status of an answer is one of the program's
due_of-listed : (a : Answer) (status : ℕ) → status ≡ (due_of a).0 → Contains (0 ∷ 2 ∷ 3 ∷ 4 ∷ 5 ∷ 6 ∷ 7 ∷ 8 ∷ 9 ∷ []) status
due_of-listed (answer.Run s h) status e = (0, omega arith, rw e refl)
due_of-listed (answer.Rewritten s) status e = (0, omega arith, rw e refl)
due_of-listed (answer.Counted h) status e = (0, omega arith, rw e refl)
due_of-listed (answer.Reported (report.Legal text)) status e = (0, omega arith, rw e refl)
due_of-listed (answer.Reported (report.Wrong text)) status e = (5, omega arith, rw e refl)
due_of-listed (answer.Reported (report.NoEntry text)) status e = (7, omega arith, rw e refl)
due_of-listed answer.BadWords status e = (1, omega arith, rw e refl)
due_of-listed (answer.BadLine number why) status e = (2, omega arith, rw e refl)
due_of-listed answer.ReadFault status e = (3, omega arith, rw e refl)
due_of-listed (answer.TooLong limit) status e = (6, omega arith, rw e refl)

-- so is the status of its writing
pub written-listed : (a : Answer) (status : ℕ) → (status ≡ (due_of a).0) ⊎ ((status ≡ 5) ⊎ (status ≡ 9)) → Contains (0 ∷ 2 ∷ 3 ∷ 4 ∷ 5 ∷ 6 ∷ 7 ∷ 8 ∷ 9 ∷ []) status
written-listed a status (inl e) = due_of-listed a status e
written-listed a status (inr (inl e)) = (4, omega arith, sym e)
written-listed a status (inr (inr e)) = (8, omega arith, sym e)

-- no outcome has the status of a failed read
not_four : (n : ℕ) → Contains (0 ∷ 6 ∷ 8 ∷ []) n → n ≡ 4 → ⊥
not_four n (zero, l, e) four = absurd (cc)
not_four n (suc zero, l, e) four = absurd (cc)
not_four n (suc (suc zero), l, e) four = absurd (cc)
not_four n (suc (suc (suc i)), l, e) four = absurd (omega (arith, l))

reported_four : (j : Judging) (x : List ℕ) (r : Result Told (ℕ × Why)) → report_of j x ≡ r → (reported r).0 ≡ 4 → ⊥
reported_four j x (Ok t) e four = not_four t.0 (report-status j x t e) four
reported_four j x (Err fault) e four = absurd (cc)

answered_four : (r : Rewriting) (i : Result Plan (ℕ × Why)) → (answered r i).0 ≡ 4 → ⊥
answered_four r (Ok s) e = absurd (cc)
answered_four r (Err fault) e = absurd (cc)

read_four : (r : Reading) (x : List ℕ) → (read_outcome r x).0 ≡ 4 → ⊥
read_four (Rewrite r) x e = answered_four r (scenario_of x) e
read_four (Judge j) x e = reported_four j x (report_of j x) refl e

taken_four : (r : Reading) (x : List ℕ) (long : Bool) → (if long then (7, too_long (limit_of r)) else read_outcome r x).0 ≡ 4 → ⊥
taken_four r x true e = absurd (cc)
taken_four r x false e = read_four r x e

by_four : (o : Option Command) (x : List ℕ) → (outcome_by o x).0 ≡ 4 → ⊥
by_four None x e = absurd (cc)
by_four (Some (Read r)) x e = taken_four r x (nat_lt (limit_of r) (length x)) e
by_four (Some (Make making seed n)) x e = absurd (cc)

-- so with that status a read failed, and its line was written
pub read_told : (words : List Word) (old new : Option (List ℕ)) (before now : ℕ) (due : Due) (held holds : Option (List ℕ)) (status : ℕ) → IsDue words old new before now due → status ≡ due.0 → Appends held holds due.1 → status ≡ 4 → IsReadFault words before now × Appends held holds read_fault
read_told words old new before now due held holds status (inl (x, taken, d)) e wrote four =
    absurd (by_four (command_of words) x (sym (ap (λ (d : Due). d.0) d) ∙ sym e ∙ four))
read_told words old new before now due held holds status (inr (fault, d)) e wrote four =
    (fault, subst (λ (d : Due). Appends held holds d.1) d wrote)
