use Rattle.std.proofs.Common.{◌≡◌, ◌∙◌, sym, ap₂, arith, ℕ, List, ◌++◌, ◌∷◌, Some}
use Rattle.std.specs.Prelude.{slice_get}
use Rattle.std.specs.Fmt.{decimal}
use Rattle.line_text.proofs.Lines.{spaced-take}
use Rattle.scenario_text.proofs.writing.push_sharers.Goals as goal

pub sharers-preserved : goal.sharers-preserved
sharers-preserved c =
    let i = c.sharers.i in
    let t : ℕ = c.in-Some.t in
    let here : slice_get c.args.tasks.now i ≡ Some t = sym c.get.ensures ∙ c.in-Some.is in
    record {
      text = c.push_field.ensures.bytes
          ∙ ap₂ (λ (x : List ℕ) (n : ℕ). x ++ 32 ∷ decimal n) c.sharers.invariant.text c.get-in-Some.ensures.value
          ∙ spaced-take c.args.line.now c.args.tasks.now i t here;
      room = let before = c.sharers.invariant.room in omega (arith, c.push_field.ensures.room);
    }
