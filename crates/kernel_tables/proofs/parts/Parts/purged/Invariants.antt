use Rattle.kernel_tables.proofs.parts.Parts.purged.Given as goal

abbrev pub ghost-scan_plan : goal.ghost-scan_plan
ghost-scan_plan g a = g.past
