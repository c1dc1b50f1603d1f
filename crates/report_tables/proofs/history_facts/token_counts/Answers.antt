use Rattle.report_tables.specs.Facts.{Tell}
use Rattle.report_tables.proofs.history_facts.token_counts.Goals as goal

pub token_counts-requires : goal.token_counts-requires
unfolding Tell
token_counts-requires g c = c.requires
