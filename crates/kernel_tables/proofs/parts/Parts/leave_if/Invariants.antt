use Rattle.kernel_tables.specs.Ends.{parted}
use Rattle.kernel_tables.proofs.parts.Parts.leave_if.Given as goal

abbrev pub ghost-leave : goal.ghost-leave
ghost-leave g a = parted a.self.now.boot g.past a.t a.o
