use Rattle.kernel_tables.specs.Values.{values}
use Rattle.kernel_tables.proofs.AskLemmas.{info-is, info-stands}
use Rattle.kernel_tables.proofs.parts.Parts.info.Goals as goal

pub returns-clause-reply : goal.returns-clause-reply
returns-clause-reply g c = info-is c.args.self.now.boot g.past c.args.who c.frame_counts.result c.requires.1 c.frame_counts.ensures

pub returns-clause-stands : goal.returns-clause-stands
returns-clause-stands g c =
    info-stands (values c.args.self.now) g.past c.args.who _ c.requires.1 (info-is c.args.self.now.boot g.past c.args.who c.frame_counts.result c.requires.1 c.frame_counts.ensures) c.requires.0
