use Rattle.kernel_tables.proofs.parts.Parts.set_state.Given as goal

abbrev pub ghost-set_emptied : goal.ghost-set_emptied
ghost-set_emptied g a = g.past

abbrev pub ghost-set_kept : goal.ghost-set_kept
ghost-set_kept g a = g.past
