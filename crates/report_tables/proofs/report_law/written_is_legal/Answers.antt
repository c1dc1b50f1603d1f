use Rattle.report_tables.proofs.Written.{written-legal}
use Rattle.report_tables.proofs.report_law.written_is_legal.Goals as goal

pub returns : goal.returns
returns c = written-legal
