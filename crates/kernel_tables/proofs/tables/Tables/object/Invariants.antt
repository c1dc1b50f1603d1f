use Rattle.kernel_tables.proofs.tables.Tables.object.Given as goal

abbrev pub ghost-object : goal.ghost-object
ghost-object g a = g.past
