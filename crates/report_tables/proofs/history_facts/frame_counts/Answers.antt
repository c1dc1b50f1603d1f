use Rattle.report_tables.specs.Facts.{Tell}
use Rattle.report_tables.proofs.history_facts.frame_counts.Goals as goal

pub frame_counts-requires : goal.frame_counts-requires
unfolding Tell
frame_counts-requires g c = c.requires
