use Rattle.kernel_tables.proofs.parts.Parts.end.Given as goal

abbrev pub ghost-leave_all : goal.ghost-leave_all
ghost-leave_all g a = g.past
