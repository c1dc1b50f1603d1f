use Rattle.kernel_shared.proofs.Passing.{same-on}
use Rattle.thread_runner.proofs.Runs.{on-err, ran-more, ran-some}
use Rattle.thread_runner.proofs.script.run_calls.Goals as goal

pub returns-in_err-call-clause-stopped : goal.returns-in_err-call-clause-stopped
returns-in_err-call-clause-stopped g c =
    on-err c.from_residual.result _ (ran-some c.args.pass.now c.loop-call.pass c.call.new.pass c.args.calls.now c.loop-call.call-index c.loop-call.invariant.ran c.in_err-call.ensures.none)

pub loop-call-preserved : goal.loop-call-preserved
loop-call-preserved g c = record {
  same = same-on c.args.kernel.now c.args.pass.now c.loop-call.pass c.call.new.pass c.loop-call.invariant.same c.call.ensures.kept;
  ran = ran-more c.args.kernel.now c.args.pass.now c.loop-call.pass c.call.new.pass c.args.calls.now c.loop-call.call-index c.call-item.result c.in_ok-call.field-0 c.loop-call.invariant.ran (rw c.get.ensures at c.in_ok-call.ensures.made) c.loop-call-test.true c.call-item.is;
}
