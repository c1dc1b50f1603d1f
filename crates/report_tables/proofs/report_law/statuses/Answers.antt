use Rattle.report_tables.proofs.Statuses.{report-status}
use Rattle.report_tables.proofs.report_law.statuses.Goals as goal

pub returns : goal.returns
returns c = report-status
