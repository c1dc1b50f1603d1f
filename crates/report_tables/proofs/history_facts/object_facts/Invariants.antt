use Rattle.report_tables.proofs.history_facts.object_facts.Given as goal

abbrev pub ghost-object : goal.ghost-object
ghost-object g a = g.past
