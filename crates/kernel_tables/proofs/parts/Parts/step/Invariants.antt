use Rattle.kernel_tables.proofs.parts.Parts.step.Given as goal

abbrev pub ghost-refusal : goal.ghost-refusal
ghost-refusal g a = g.past

abbrev pub ghost-refused : goal.ghost-refused
ghost-refused g a = g.past

abbrev pub ghost-accepted : goal.ghost-accepted
ghost-accepted g a = g.past
