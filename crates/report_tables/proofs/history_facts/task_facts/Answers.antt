use Rattle.report_tables.specs.Facts.{Tell}
use Rattle.report_tables.proofs.history_facts.task_facts.Goals as goal

pub task-requires : goal.task-requires
unfolding Tell
task-requires g c = (c.requires.0, c.requires.1)
