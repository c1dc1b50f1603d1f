use Rattle.kernel_shared.proofs.Own.{own-seen}
use Rattle.kernel_shared.proofs.shared.SharedKernel.call.Goals as goal

pub returns-clause-own : goal.returns-clause-own
returns-clause-own g c = own-seen c.make_call-made.new.pass c.number-number.ensures.lists
