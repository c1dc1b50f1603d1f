use Rattle.report_tables.proofs.Explained.{legal-explained}
use Rattle.report_tables.proofs.law.explained.Goals as goal

pub returns : goal.returns
returns c = legal-explained
