use Rattle.std.proofs.Common.{ℕ, ◌<◌, length, reverse, sym, ◌∙◌, subst}
use Rattle.kernel_core.proofs.Needs.{needed-declared}
use Rattle.kernel_core.specs.Touches.{number_of, IsDeclared}
use Rattle.kernel_core.proofs.effect.needed_number.Goals as goal

pub returns-in-Bytes-clause-declared : goal.returns-in-Bytes-clause-declared
returns-in-Bytes-clause-declared g c =
    let boot = c.args.kernel.now.boot in
    let d = subst (λ n. IsDeclared boot (number_of n)) (sym c.need.ensures ∙ c.in-Bytes.is) (needed-declared boot (reverse c.args.kernel.now.history) c.args.who c.args.call.now c.requires) in
    subst (λ (n : ℕ). n < length boot.objects) (sym c.get.ensures.value) d
