use Rattle.kernel_tables.proofs.Kept.{unchanged-stands}
use Rattle.kernel_tables.proofs.law.unchanged.Goals as goal

pub returns : goal.returns
returns c = unchanged-stands
