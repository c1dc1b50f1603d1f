use Rattle.kernel_tables.proofs.tables.Tables.free.Given as goal

abbrev pub ghost-free : goal.ghost-free
ghost-free g a = g.past
