use Rattle.std.proofs.Common.{refl, sym}
use Rattle.kernel_tables.specs.Values.{values}
use Rattle.kernel_tables.proofs.VerdictCall.{jetsam-reply, spared-stands}
use Rattle.kernel_tables.proofs.parts.Parts.find_no_victim.Goals as goal

pub returns-clause-reply : goal.returns-clause-reply
returns-clause-reply g c = jetsam-reply c.args.self.now.boot g.past c.args.who _ c.requires.1.1.0 (sym c.requires.1.1.1)

pub returns-clause-stands : goal.returns-clause-stands
returns-clause-stands g c = spared-stands (values c.args.self.now) g.past c.args.who _ c.requires.1.0 c.requires.1.1.0 (sym c.requires.1.1.1) refl c.requires.0
