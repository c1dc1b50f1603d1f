use Rattle.kernel_tables.proofs.tables.Tables.step.Given as goal

abbrev pub ghost-step : goal.ghost-step
ghost-step g a = g.past
