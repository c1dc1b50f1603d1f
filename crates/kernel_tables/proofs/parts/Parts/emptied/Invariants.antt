use Rattle.kernel_tables.proofs.parts.Parts.emptied.Given as goal

abbrev pub ghost-state : goal.ghost-state
ghost-state g a = g.past
