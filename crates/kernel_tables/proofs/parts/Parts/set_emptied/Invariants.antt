use Rattle.kernel_tables.proofs.parts.Parts.set_emptied.Given as goal

abbrev pub ghost-empty_object : goal.ghost-empty_object
ghost-empty_object g a = g.past
