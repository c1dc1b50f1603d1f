use Rattle.report_tables.proofs.history_facts.token_counts.Given as goal

abbrev pub ghost-token_counts : goal.ghost-token_counts
ghost-token_counts g a = g.past
