use Rattle.std.proofs.Common.{◌≡◌, List, reverse, refl, sym, ap, ◌∙◌, subst}
use Rattle.std.specs.Prelude.{IfOk}
use Rattle.kern_ids.specs.declared.entries.Entry.{Entry}
use Rattle.kernel_model.specs.Scenario.{Plan}
use Rattle.report_tables.specs.Facts.{Tell}
use Rattle.replay_check.specs.declared.verdicts.Verdict.{Verdict}
use Rattle.replay_check.specs.declared.verdicts.Verdict.TheVariants.{Legal, WrongReply, WrongCall, Missing}
use Rattle.replay_check.specs.Verdicts.{verdict_of}
use Rattle.report_tables.specs.declared.report.Judging.{Judging}
use Rattle.report_tables.specs.Reports.{Told, told_of, told_by, verdict_told}
use Rattle.report_tables.proofs.report.report_on.Goals as goal

-- of a verdict that isn't Legal the verdict alone is told
wrong-told : (j : Judging) (s : Plan) (h : List Entry) (v : Verdict) → (v ≡ Legal → ⊥) → told_by j s h v ≡ verdict_told v
wrong-told j s h Legal wrong = absurd (wrong refl)
wrong-told j s h (WrongReply place expected) wrong = refl
wrong-told j s h (WrongCall place) wrong = refl
wrong-told j s h (Missing thread) wrong = refl

pub report_whole-requires-clause-tell : goal.report_whole-requires-clause-tell
unfolding Tell
report_whole-requires-clause-tell c =
    let h = c.args.history.now.list in
    let seen : c.in_ok-replay.replay.history ≡ h = c.verdict.ensures.history h c.in_ok-replay.ensures c.in-Legal.is in
    subst (λ (es : List Entry). Tell c.tables.result.now (reverse es)) (c.kernel.ensures.history ∙ seen) c.tables.ensures.stands

pub report_whole-requires-clause-boot : goal.report_whole-requires-clause-boot
report_whole-requires-clause-boot c = let stands = c.in_ok-replay.ensures in c.tables.ensures.boot ∙ c.kernel.ensures.boot ∙ stands.boot

pub returns-in-Legal : goal.returns-in-Legal
returns-in-Legal c =
    let j = c.args.judging in
    let s = c.args.scenario.now in
    let h = c.args.history.now.list in
    let legal : verdict_of s h ≡ Legal = sym (c.verdict.ensures.verdict h c.in_ok-replay.ensures) ∙ c.in-Legal.is in
    subst (λ (v : Verdict). IfOk c.report_whole.result (λ r. told_of r ≡ told_by j s h v)) (sym legal) c.report_whole.ensures

pub returns : goal.returns
returns c =
    let j = c.args.judging in
    let s = c.args.scenario.now in
    let h = c.args.history.now.list in
    let verdict : c.verdict.result ≡ verdict_of s h = c.verdict.ensures.verdict h c.in_ok-replay.ensures in
    let told : told_by j s h c.verdict.result ≡ verdict_told c.verdict.result = wrong-told j s h c.verdict.result c.in_default.not-Legal in
    subst (λ (t : Told). IfOk c.verdict_report.result (λ r. told_of r ≡ t)) (sym told ∙ ap (told_by j s h) verdict) c.verdict_report.ensures
