use Rattle.std.proofs.Common.{reverse}
use Rattle.report_tables.proofs.history_facts.told_facts.Given as goal

abbrev pub ghost-frame_counts : goal.ghost-frame_counts
ghost-frame_counts a = reverse a._entries.now

abbrev pub ghost-token_counts : goal.ghost-token_counts
ghost-token_counts a = reverse a._entries.now
