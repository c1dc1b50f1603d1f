use Rattle.kernel_tables.proofs.parts.Parts.accepted.Given as goal

abbrev pub ghost-map : goal.ghost-map
ghost-map g a = g.past

abbrev pub ghost-attach : goal.ghost-attach
ghost-attach g a = g.past

abbrev pub ghost-unmap : goal.ghost-unmap
ghost-unmap g a = g.past

abbrev pub ghost-write : goal.ghost-write
ghost-write g a = g.past

abbrev pub ghost-read : goal.ghost-read
ghost-read g a = g.past

abbrev pub ghost-set_state : goal.ghost-set_state
ghost-set_state g a = g.past

abbrev pub ghost-get_state : goal.ghost-get_state
ghost-get_state g a = g.past

abbrev pub ghost-set_active : goal.ghost-set_active
ghost-set_active g a = g.past

abbrev pub ghost-ledger : goal.ghost-ledger
ghost-ledger g a = g.past

abbrev pub ghost-exit : goal.ghost-exit
ghost-exit g a = g.past

abbrev pub ghost-purge_one : goal.ghost-purge_one
ghost-purge_one g a = g.past

abbrev pub ghost-forced : goal.ghost-forced
ghost-forced g a = g.past

abbrev pub ghost-scan : goal.ghost-scan
ghost-scan g a = g.past

abbrev pub ghost-tick : goal.ghost-tick
ghost-tick g a = g.past

abbrev pub ghost-jetsam : goal.ghost-jetsam
ghost-jetsam g a = g.past

abbrev pub ghost-set_band : goal.ghost-set_band
ghost-set_band g a = g.past

abbrev pub ghost-set_limits : goal.ghost-set_limits
ghost-set_limits g a = g.past

abbrev pub ghost-info : goal.ghost-info
ghost-info g a = g.past

abbrev pub ghost-purgeables : goal.ghost-purgeables
ghost-purgeables g a = g.past
