use Rattle.kernel_tables.proofs.parts.Parts.scan_purge.Given as goal

abbrev pub ghost-take_picked : goal.ghost-take_picked
ghost-take_picked g a = g.past
