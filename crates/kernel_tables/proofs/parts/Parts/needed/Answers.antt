use Rattle.kernel_tables.proofs.Refused.{needed-is}
use Rattle.kernel_tables.proofs.parts.Parts.needed.Goals as goal

pub returns : goal.returns
returns g c =
    needed-is c.args.self.now.boot g.past c.args.o c.args.off c.args.len c.one_if.result c.one_if-2.result c.requires.1.1
    (rw (← c.is_needed.ensures) c.one_if.ensures.value)
    (rw (← c.is_needed-2.ensures) c.one_if-2.ensures.value)
