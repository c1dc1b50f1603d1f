use Rattle.kern_ids.specs.declared.calls.Call.TheVariants.{Read, Scan}
use Rattle.kernel_tables.specs.Values.{values}
use Rattle.kernel_tables.proofs.StepCalls.{asked-as, read-sees, entered-room}
use Rattle.kernel_tables.proofs.parts.Parts.accepted.Goals as goal

pub read-requires : goal.read-requires
read-requires g c =
    let call = c.args.call.now in
    let asked = asked-as (values c.args.self.now) g.past c.args.who call (Read c.in-Read.obj c.in-Read.off c.in-Read.len) c.in-Read.is c.requires.0 c.requires.1.0 c.requires.1.1.0 in
    (asked.0, (asked.1.0, (asked.1.1, read-sees c.args.self.now.boot g.past c.args.who call c.in-Read.obj c.in-Read.off c.in-Read.len c.args.seen c.in-Read.is c.requires.1.1.0 c.requires.1.1.1.0)))

pub scan-requires : goal.scan-requires
scan-requires g c =
    let asked = asked-as (values c.args.self.now) g.past c.args.who c.args.call.now Scan c.in-Scan.is c.requires.0 c.requires.1.0 c.requires.1.1.0 in
    (asked.0, (asked.1.0, (asked.1.1, entered-room (values c.args.self.now) g.past c.requires.0 c.requires.1.1.1.1)))
