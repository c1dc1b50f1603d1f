use Rattle.kernel_tables.proofs.parts.Parts.refusal.Given as goal

abbrev pub ghost-is_dead : goal.ghost-is_dead
ghost-is_dead g a = g.past

abbrev pub ghost-is_stranger : goal.ghost-is_stranger
ghost-is_stranger g a = g.past

abbrev pub ghost-no_object : goal.ghost-no_object
ghost-no_object g a = g.past

abbrev pub ghost-already : goal.ghost-already
ghost-already g a = g.past

abbrev pub ghost-out_of_range : goal.ghost-out_of_range
ghost-out_of_range g a = g.past

abbrev pub ghost-emptied : goal.ghost-emptied
ghost-emptied g a = g.past

abbrev pub ghost-shortage : goal.ghost-shortage
ghost-shortage g a = g.past
