use Rattle.kernel_tables.proofs.parts.Parts.forced.Given as goal

abbrev pub ghost-take_forced : goal.ghost-take_forced
ghost-take_forced g a = g.past
