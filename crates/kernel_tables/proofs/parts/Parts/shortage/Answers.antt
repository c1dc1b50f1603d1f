use Rattle.kernel_tables.proofs.Refused.{read-maps}
use Rattle.kernel_tables.proofs.parts.Parts.shortage.Goals as goal

pub state-requires : goal.state-requires
state-requires g c =
    (c.requires.0, read-maps c.args.self.now.boot g.past c.args.t c.args.call.now c.in-Read.obj c.in-Read.off c.in-Read.len c.in-Read.is c.requires.1.0 c.requires.1.1.0)
