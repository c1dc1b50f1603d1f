use Rattle.std.proofs.Common.{◌≡◌, ℕ, get_or, ◌∙◌, subst, arith, rules, inl, inr}
use Rattle.std.proofs.lemmas.Bool.{cases_lt}
use Rattle.std.proofs.lemmas.List.{get_or_default}
use Rattle.kernel_core.specs.Runs.{FitsIn}
use Rattle.program_uses.proofs.kernels_tests.listed.Goals as goal

pub loop-turn-preserved : goal.loop-turn-preserved
loop-turn-preserved g c =
    let i = c.loop-turn.turn-index in
    let calls = c.args.calls.now in
    let turn = c.turn-item.result in
    let here : FitsIn c.args.boot.now turn = search rules in
    λ k d l. elim (cases_lt k i) [
      | inl below ↦ c.loop-turn.invariant k d below
      | inr at ↦
          let e : i ≡ k = omega arith in
          subst (λ (j : ℕ). FitsIn c.args.boot.now (get_or calls j d)) e (subst (FitsIn c.args.boot.now) (c.turn-item.is ∙ get_or_default calls i turn d c.loop-turn-test.true) here)
    ]
