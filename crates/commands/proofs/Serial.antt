-- What `serial` wrote at status 0.
use Rattle.std.proofs.Common.{◌≡◌, ◌≢◌, ◌≤◌, ◌<◌, ◌+◌, inl, inr, ℕ, List, [], ◌∷◌, ◌++◌, length, take, true, Option, Some, None, Result, Ok, Err, refl, sym, ◌∙◌, ap, subst, arith}
use Rattle.std.specs.Io.KnownBytes.{Appends}
use Rattle.std.proofs.lemmas.List.{length-take-le}
use Rattle.kern_ids.specs.declared.faults.Why.{Why}
use Rattle.kernel_model.specs.Scenario.{Plan}
use Rattle.kernel_model.specs.Turns.{serial}
use Rattle.kernel_model.proofs.Laws.Serial.{serial-legal, serial-whole}
use Rattle.line_text.specs.Cut.{Word}
use Rattle.scenario_text.specs.Grammar.{scenario_of}
use Rattle.scenario_text.specs.Text.{scenario_text}
use Rattle.scenario_text.proofs.RoundTrip.{scenario_of-takes}
use Rattle.history_text.specs.History.{history_text}
use Rattle.commands.specs.declared.command.Rewriting.TheVariants.{Serial}
use Rattle.commands.specs.declared.command.Reading.TheVariants.{Rewrite}
use Rattle.commands.specs.declared.command.Command.{Command}
use Rattle.commands.specs.declared.command.Command.TheVariants.{Read}
use Rattle.commands.specs.Commands.{command_of, limit_of}
use Rattle.commands.specs.Outcome.{Due, answered, outcome_of, outcome_by}
use Rattle.commands.specs.Calls.{IsInput, IsTakenBy, IsOutcome, WritesOutcome}
use Rattle.commands.specs.Top.{asks_serial, WritesSerial}
use Rattle.commands.proofs.Due.{outcome_of-within, outcome_of-past}
use Rattle.commands.proofs.Headline.{due, ok_text, not_status}

asks-command : (words : List Word) → asks_serial words ≡ true → command_of words ≡ Some (Read (Rewrite Serial))
asks-command [] e = absurd (cc)
asks-command (word ∷ []) e = rw e refl
asks-command (word ∷ other ∷ words) e = absurd (cc)

answered-written : (left text : List ℕ) (held holds : Option (List ℕ)) (r : Result Plan (ℕ × Why)) → scenario_of left ≡ r → due 0 text ≡ answered Serial r → Appends held holds text → WritesSerial (Some left) held holds
answered-written left text held holds (Ok s) e d w =
    let read = scenario_of-takes left s e in
    (s, read.1, read.0, (serial-legal s read.1.valid, serial-whole s), subst (Appends held holds) (ok_text text (scenario_text s ++ history_text (serial s)) d) w)
answered-written left text held holds (Err fault) e d w = absurd (not_status 3 text _ (omega arith) d)

taken-written : (left x text : List ℕ) (new held holds : Option (List ℕ)) → IsInput (limit_of (Rewrite Serial)) (Some left) new x → due 0 text ≡ outcome_of (Rewrite Serial) x → Appends held holds text → WritesSerial (Some left) held holds
taken-written left x text new held holds (inl (le, is, rest)) d w =
    let same : due 0 text ≡ outcome_of (Rewrite Serial) left = d ∙ ap (λ (y : List ℕ). outcome_of (Rewrite Serial) y) is in
    answered-written left text held holds (scenario_of left) refl (same ∙ outcome_of-within (Rewrite Serial) left le) w
taken-written left x text new held holds (inr (lt, is, rest)) d w =
    let fits : limit_of (Rewrite Serial) + 1 ≤ length left = omega (arith, lt) in
    let size : length x ≡ limit_of (Rewrite Serial) + 1 = ap length is ∙ length-take-le (limit_of (Rewrite Serial) + 1) left fits in
    let long : limit_of (Rewrite Serial) < length x = omega (arith, size) in
    absurd (not_status 7 text _ (omega arith) (d ∙ outcome_of-past (Rewrite Serial) x long))

-- it is the scenario that the source had left, and its serial history
serial-written : (words : List Word) (old new held holds : Option (List ℕ)) → asks_serial words ≡ true → WritesOutcome words old new held holds 0 → WritesSerial old held holds
serial-written words None new held holds asks w = tt {0}
serial-written words (Some left) new held holds asks (text, (x, taken, d), wrote) =
    let command = asks-command words asks in
    taken-written left x text new held holds (subst (λ (o : Option Command). IsTakenBy o (Some left) new x) command taken) (d ∙ ap (λ (o : Option Command). outcome_by o x) command) wrote

pub serial-at : (words : List Word) (old new held holds : Option (List ℕ)) (status : ℕ) → (status ≢ 4 → status ≢ 5 → status ≢ 9 → WritesOutcome words old new held holds status) → asks_serial words ≡ true → status ≡ 0 → WritesSerial old held holds
serial-at words old new held holds status said asks zero =
    serial-written words old new held holds asks (subst (λ (n : ℕ). WritesOutcome words old new held holds n) zero (said (λ (e : status ≡ 4). omega (arith, e, zero)) (λ (e : status ≡ 5). omega (arith, e, zero)) (λ (e : status ≡ 9). omega (arith, e, zero))))
