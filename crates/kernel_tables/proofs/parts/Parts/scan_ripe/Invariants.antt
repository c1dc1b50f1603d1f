use Rattle.kernel_tables.proofs.parts.Parts.scan_ripe.Given as goal

abbrev pub ghost-pick : goal.ghost-pick
ghost-pick g a = g.past

abbrev pub ghost-scan_purge : goal.ghost-scan_purge
ghost-scan_purge g a = g.past
