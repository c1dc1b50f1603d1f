use Rattle.std.proofs.Common.{◌≡◌, ℕ, List, [], get_or, sym, ap, ◌∙◌, subst}
use Rattle.std.specs.List.{All}
use Rattle.kern_ids.specs.declared.calls.Call.{Call}
use Rattle.kernel_model.specs.Scenario.{script}
use Rattle.thread_runner.specs.Runs.{FitsBy}
use Rattle.thread_runner.proofs.Runs.{same-item}
use Rattle.thread_runner.proofs.script.run_script.Goals as goal

pub run_calls-requires-clause-fit : goal.run_calls-requires-clause-fit
run_calls-requires-clause-fit g c =
    let s = c.args.s.now in
    let n = c.args.pass.now.number in
    let item = c.index-scripts-number.result in
    let at : item ≡ get_or s.scripts n item = c.index-scripts-number.is ∙ (ap (λ (xs : List (List Call)). get_or xs c.number.result item) c.scripts.ensures ∙ ap (λ (k : ℕ). get_or s.scripts k item) c.number.ensures.number) in
    let is : c.calls-calls.result.now ≡ script s n = c.calls-calls.ensures ∙ (at ∙ same-item s.scripts n item [] c.requires.thread) in
    let fit = c.valid.ensures.calls n c.requires.thread in
    subst (All (FitsBy c.args.kernel.now.base n)) (sym is) (subst (λ b. All (FitsBy b n) (script s n)) (sym c.requires.kernel) fit)
