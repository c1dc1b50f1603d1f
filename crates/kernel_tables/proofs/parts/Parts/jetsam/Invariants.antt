use Rattle.kernel_tables.proofs.parts.Parts.jetsam.Given as goal

abbrev pub ghost-verdict : goal.ghost-verdict
ghost-verdict g a = g.past

abbrev pub ghost-stay_quiet : goal.ghost-stay_quiet
ghost-stay_quiet g a = g.past

abbrev pub ghost-kill : goal.ghost-kill
ghost-kill g a = g.past

abbrev pub ghost-find_no_victim : goal.ghost-find_no_victim
ghost-find_no_victim g a = g.past
