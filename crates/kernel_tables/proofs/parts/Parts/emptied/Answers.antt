use Rattle.kernel_tables.proofs.Refused.{write-maps}
use Rattle.kernel_tables.proofs.parts.Parts.emptied.Goals as goal

pub state-requires : goal.state-requires
state-requires g c =
    (c.requires.0, write-maps c.args.self.now.boot g.past c.args.t c.args.call.now c.in-Write.obj c.in-Write.off c.in-Write.bytes c.in-Write.is c.requires.1.0 c.requires.1.1)
