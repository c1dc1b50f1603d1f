use Rattle.kernel_tables.proofs.parts.Parts.is_stranger.Given as goal

abbrev pub ghost-shares : goal.ghost-shares
ghost-shares g a = g.past
