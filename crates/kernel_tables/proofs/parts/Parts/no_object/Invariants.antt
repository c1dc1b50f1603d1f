use Rattle.kernel_tables.proofs.parts.Parts.no_object.Given as goal

abbrev pub ghost-is_mapped : goal.ghost-is_mapped
ghost-is_mapped g a = g.past

abbrev pub ghost-maps : goal.ghost-maps
ghost-maps g a = g.past
