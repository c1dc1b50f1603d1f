use Rattle.std.proofs.Common.{◌≡◌, length, sym, subst, rules}
use Rattle.kernel_core.specs.OneThreads.{HasBodies}
use Rattle.kernel_core.proofs.Kept.{first-bodies}
use Rattle.kernel_core.proofs.one_thread.OneThread.boot.Goals as goal

pub invariant_of-result : goal.invariant_of-result
invariant_of-result g c =
    let kernel = c.in_ok-boot.field-0 in
    let bodies = c.in_ok-empty_bodies.field-0.items in
    let boot : kernel.boot ≡ c.in_ok-copy.field-0 = search rules in
    let count : length bodies ≡ length kernel.boot.objects = search rules in
    (boot, subst (λ h. HasBodies kernel.boot h bodies) (sym c.in_ok-boot.ensures.empty) (first-bodies kernel.boot bodies count c.in_ok-empty_bodies.ensures.empty))
