use Rattle.kernel_tables.proofs.parts.Parts.out_of_range.Given as goal

abbrev pub ghost-bad_range : goal.ghost-bad_range
ghost-bad_range g a = g.past
