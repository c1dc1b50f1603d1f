use Rattle.std.proofs.Common.{◌∙◌, sym, arith}
use Rattle.slow_kernel.proofs.TaskTables.{task_pass_none}
use Rattle.slow_kernel.proofs.tasks.task_pass.Goals as goal

pub loop-i-init : goal.loop-i-init
loop-i-init c = record { value = c.start_pass-pass.ensures.value ∙ sym (task_pass_none c.args.boot.now c.args.t); bound = omega (arith, c.start_pass-pass.ensures.ticks) }
