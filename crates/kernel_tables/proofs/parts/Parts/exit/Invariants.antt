use Rattle.kernel_tables.proofs.parts.Parts.exit.Given as goal

abbrev pub ghost-end : goal.ghost-end
ghost-end g a = g.past
