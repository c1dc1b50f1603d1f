use Rattle.kernel_tables.proofs.parts.Parts.short_of.Given as goal

abbrev pub ghost-needed : goal.ghost-needed
ghost-needed g a = g.past
