use Rattle.report_tables.proofs.history_facts.frame_counts.Given as goal

abbrev pub ghost-frame_counts : goal.ghost-frame_counts
ghost-frame_counts g a = g.past
