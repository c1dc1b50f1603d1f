use Rattle.kernel_tables.proofs.parts.Parts.needed.Given as goal

abbrev pub ghost-is_needed : goal.ghost-is_needed
ghost-is_needed g a = g.past
