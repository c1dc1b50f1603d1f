use Rattle.std.proofs.Common.{◌≡◌, sym, subst}
use Rattle.kernel_shared.specs.Calls.{KernelPass, IsIdleOf}
use Rattle.run_uses.proofs.own_threads.closed.Goals as goal

pub close-requires-clause-idle : goal.close-requires-clause-idle
close-requires-clause-idle g c =
    subst (λ (p : KernelPass). IsIdleOf c.args.kernel p) (sym c.join.ensures.same) c.requires.first
