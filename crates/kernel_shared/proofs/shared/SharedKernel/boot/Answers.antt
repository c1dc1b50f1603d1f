use Rattle.std.proofs.Common.{◌≡◌, length, sym, ◌∙◌, subst, rules}
use Rattle.kernel_model.specs.Valid.{IsValidBoot}
use Rattle.kernel_shared.specs.Calls.{pass_count}
use Rattle.kernel_shared.proofs.Passing.{nothing-first}
use Rattle.kernel_shared.proofs.shared.SharedKernel.boot.Goals as goal

pub new-requires-2-clause-bodies : goal.new-requires-2-clause-bodies
new-requires-2-clause-bodies c = nothing-first c.in_ok-bodies.bodies.items c.in_ok-bodies.ensures.empty

pub invariant_of-result : goal.invariant_of-result
invariant_of-result c =
    let base : c.in_ok-table.table.base ≡ c.in_ok-boot-2.boot = search rules in
    let objects : c.in_ok-table.table.objects ≡ length c.in_ok-boot-2.boot.objects = search rules in
    let passes : c.in_ok-table.table.passes ≡ pass_count c.in_ok-boot-2.boot.sides = search rules in
    (subst IsValidBoot (sym c.in_ok-boot-2.ensures) c.valid.ensures, base, objects, passes)
