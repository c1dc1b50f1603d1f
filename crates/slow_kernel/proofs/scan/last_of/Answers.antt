use Rattle.std.proofs.Common.{sym}
use Rattle.slow_kernel.proofs.ScanTables.{last_more}
use Rattle.slow_kernel.proofs.scan.last_of.Goals as goal

pub loop-d-preserved : goal.loop-d-preserved
loop-d-preserved c = sym (last_more c.args.list.now c.loop-d.d-index 0 0 c.loop-d-test.true)
