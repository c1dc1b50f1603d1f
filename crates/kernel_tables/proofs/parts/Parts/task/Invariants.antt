use Rattle.kernel_tables.proofs.parts.Parts.task.Given as goal

abbrev pub ghost-live_task : goal.ghost-live_task
ghost-live_task g a = g.past
