use Rattle.kernel_tables.specs.Values.{values}
use Rattle.kernel_tables.proofs.AskLemmas.{purgeables-is, purgeables-stands}
use Rattle.kernel_tables.proofs.parts.Parts.purgeables.Goals as goal

pub returns-clause-reply : goal.returns-clause-reply
returns-clause-reply g c = purgeables-is c.args.self.now.boot g.past c.args.who c.token_counts.result c.requires.1 c.token_counts.ensures

pub returns-clause-stands : goal.returns-clause-stands
returns-clause-stands g c =
    purgeables-stands (values c.args.self.now) g.past c.args.who _ c.requires.1
    (purgeables-is c.args.self.now.boot g.past c.args.who c.token_counts.result c.requires.1 c.token_counts.ensures) c.requires.0
