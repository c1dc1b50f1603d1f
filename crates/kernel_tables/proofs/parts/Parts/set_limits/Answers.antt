use Rattle.kernel_tables.specs.Values.{values}
use Rattle.kernel_tables.proofs.LimitsCall.{limits-task, limits-reply, limits-stand}
use Rattle.kernel_tables.proofs.parts.Parts.set_limits.Goals as goal

pub set_limits-requires : goal.set_limits-requires
set_limits-requires g c = record { task = limits-task (values c.args.self.now) g.past c.args.who c.args.t c.args.active c.args.inactive c.requires.1.0 c.requires.0 }

pub returns-clause-reply : goal.returns-clause-reply
returns-clause-reply g c = limits-reply c.args.self.now.boot g.past c.args.who c.args.t c.args.active c.args.inactive c.requires.1.1

pub returns-clause-stands : goal.returns-clause-stands
returns-clause-stands g c = limits-stand (values c.args.self.now) g.past c.args.who c.args.t c.args.active c.args.inactive _ c.set_limits.ensures c.requires.1.0 c.requires.1.1 c.requires.0
