use Rattle.kernel_tables.proofs.parts.Parts.purge_one.Given as goal

abbrev pub ghost-pick : goal.ghost-pick
ghost-pick g a = g.past

abbrev pub ghost-take_picked : goal.ghost-take_picked
ghost-take_picked g a = g.past
