use Rattle.kernel_tables.proofs.tables.Tables.purged.Given as goal

abbrev pub ghost-purged : goal.ghost-purged
ghost-purged g a = g.past
