use Rattle.kernel_tables.proofs.parts.Parts.object.Given as goal

abbrev pub ghost-is_mapped : goal.ghost-is_mapped
ghost-is_mapped g a = g.past

abbrev pub ghost-mapped_object : goal.ghost-mapped_object
ghost-mapped_object g a = g.past
