use Rattle.kernel_tables.proofs.parts.Parts.info.Given as goal

abbrev pub ghost-frame_counts : goal.ghost-frame_counts
ghost-frame_counts g a = g.past
