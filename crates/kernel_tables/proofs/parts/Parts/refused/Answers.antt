use Rattle.kernel_tables.specs.Values.{values}
use Rattle.kernel_tables.proofs.AskLemmas.{refused-is, refused-stands}
use Rattle.kernel_tables.proofs.parts.Parts.refused.Goals as goal

pub returns-clause-reply : goal.returns-clause-reply
returns-clause-reply g c = refused-is c.args.self.now.boot g.past c.args.who c.args.call.now c.args.why c.requires.1.1

pub returns-clause-stands : goal.returns-clause-stands
returns-clause-stands g c = refused-stands (values c.args.self.now) g.past c.args.who c.args.call.now c.args.why c.requires.1.0 c.requires.1.1 c.requires.0
