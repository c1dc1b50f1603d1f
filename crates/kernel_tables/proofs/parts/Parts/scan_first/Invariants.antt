use Rattle.kernel_tables.proofs.parts.Parts.scan_first.Given as goal

abbrev pub ghost-scan_move : goal.ghost-scan_move
ghost-scan_move g a = g.past
