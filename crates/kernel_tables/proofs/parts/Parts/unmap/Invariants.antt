use Rattle.kernel_tables.proofs.parts.Parts.unmap.Given as goal

abbrev pub ghost-leave : goal.ghost-leave
ghost-leave g a = g.past
