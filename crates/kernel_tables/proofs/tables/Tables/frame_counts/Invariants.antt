use Rattle.kernel_tables.proofs.tables.Tables.frame_counts.Given as goal

abbrev pub ghost-frame_counts : goal.ghost-frame_counts
ghost-frame_counts g a = g.past
