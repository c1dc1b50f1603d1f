use Rattle.std.proofs.Common.{arith}
use Rattle.slow_kernel.proofs.Refused.{range-bound}
use Rattle.slow_kernel.proofs.answers.read.Goals as goal

pub bytes-requires-clause-fits : goal.bytes-requires-clause-fits
bytes-requires-clause-fits c =
    let b = range-bound c.args.boot.now c.args.o c.args.off c.args.len c.requires in
    let b' = rw (← c.pages_in.ensures.value) at b in
    omega arith
