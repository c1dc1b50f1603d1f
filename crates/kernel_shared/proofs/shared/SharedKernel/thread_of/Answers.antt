use Rattle.std.proofs.Common.{ℕ, ◌<◌, sym, subst}
use Rattle.kernel_shared.proofs.Passing.{who-below}
use Rattle.kernel_shared.proofs.shared.SharedKernel.thread_of.Goals as goal

pub unreachable-requires : goal.unreachable-requires
unreachable-requires c =
    c.in-None.ensures (subst (λ (n : ℕ). n < 32) (sym c.number.ensures.number) (who-below c.args.self.now.base c.args.pass.now.number c.args.call.now c.valid.ensures c.requires))
