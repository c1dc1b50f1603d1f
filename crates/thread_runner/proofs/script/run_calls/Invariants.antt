use Rattle.std.proofs.Common.{take}
use Rattle.kernel_shared.specs.Calls.{IsSamePass}
use Rattle.thread_runner.specs.Runs.{HasRun}
use Rattle.thread_runner.proofs.script.run_calls.Given as goal

abbrev pub invariant-loop-call : goal.invariant-loop-call
invariant-loop-call g l = record {
  same : IsSamePass l.kernel l.fn.pass l.pass;
  ran : HasRun l.fn.pass l.pass (take l.call-index l.calls);
}
