use Rattle.kernel_tables.proofs.tables.Tables.task.Given as goal

abbrev pub ghost-task : goal.ghost-task
ghost-task g a = g.past
