use Rattle.std.proofs.Common.{sym}
use Rattle.slow_kernel.proofs.Loops.{state_none}
use Rattle.slow_kernel.proofs.pages.look_through.Goals as goal

pub loop-i-init : goal.loop-i-init
loop-i-init c = record { state = sym (state_none c.args.o); mappers = c.in_ok-start_mappers.ensures; pages = c.in_ok-start_pages.ensures }
