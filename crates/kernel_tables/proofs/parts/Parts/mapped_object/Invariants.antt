use Rattle.kernel_tables.proofs.parts.Parts.mapped_object.Given as goal

abbrev pub ghost-state : goal.ghost-state
ghost-state g a = g.past
