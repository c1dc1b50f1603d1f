use Rattle.kernel_tables.proofs.parts.Parts.kill.Given as goal

abbrev pub ghost-end : goal.ghost-end
ghost-end g a = g.past
