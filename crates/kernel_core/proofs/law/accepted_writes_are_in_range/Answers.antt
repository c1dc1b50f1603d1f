use Rattle.kernel_core.proofs.Seen.{write-in_range}
use Rattle.kernel_core.proofs.law.accepted_writes_are_in_range.Goals as goal

pub returns : goal.returns
returns c = write-in_range
