use Rattle.kernel_tables.proofs.parts.Parts.shortage.Given as goal

abbrev pub ghost-short_of : goal.ghost-short_of
ghost-short_of g a = g.past

abbrev pub ghost-state : goal.ghost-state
ghost-state g a = g.past
