use Rattle.kernel_tables.proofs.parts.Parts.scan.Given as goal

abbrev pub ghost-scan_plan : goal.ghost-scan_plan
ghost-scan_plan g a = g.past

abbrev pub ghost-scan_first : goal.ghost-scan_first
ghost-scan_first g a = g.past

abbrev pub ghost-scan_ripe : goal.ghost-scan_ripe
ghost-scan_ripe g a = g.past
