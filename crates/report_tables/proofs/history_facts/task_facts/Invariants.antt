use Rattle.report_tables.proofs.history_facts.task_facts.Given as goal

abbrev pub ghost-task : goal.ghost-task
ghost-task g a = g.past
