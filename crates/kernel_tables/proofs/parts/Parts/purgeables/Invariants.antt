use Rattle.kernel_tables.proofs.parts.Parts.purgeables.Given as goal

abbrev pub ghost-token_counts : goal.ghost-token_counts
ghost-token_counts g a = g.past
