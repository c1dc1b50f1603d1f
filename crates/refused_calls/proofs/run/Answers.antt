use Rattle.std.proofs.lemmas.List.Elements.{All-from_recursion}
use Rattle.turn_lock.specs.Passes.{IsNewPassOf}
use Rattle.kernel_shared.specs.Calls.{KernelPass}
use Rattle.refused_calls.proofs.run.Goals as goal

pub take_pass-requires : goal.take_pass-requires
take_pass-requires g c = All-from_recursion (λ (p : KernelPass). IsNewPassOf c.in_ok-kernel.kernel p) c.in_ok-kernel.list c.in_ok-kernel.ensures.passes.1
