use Rattle.std.proofs.Common.{◌≡◌}
use Rattle.kernel_shared.specs.Calls.{IsSamePass}
use Rattle.kernel_shared.specs.Steps.{IsWanted}
use Rattle.kernel_shared.proofs.shared.SharedKernel.make_call.Given as goal

abbrev pub invariant-loop : goal.invariant-loop
invariant-loop g l = record {
  same : IsSamePass l.self l.fn.pass l.pass;
  mine : l.pass.mine ≡ l.fn.pass.mine;
  wanted : IsWanted l.self.base l.call l.wanted;
}
