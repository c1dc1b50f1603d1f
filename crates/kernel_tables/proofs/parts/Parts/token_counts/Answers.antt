use Rattle.kernel_tables.specs.Values.{values}
use Rattle.kernel_tables.proofs.AskLemmas.{purgeables-told}
use Rattle.kernel_tables.proofs.parts.Parts.token_counts.Goals as goal

pub returns : goal.returns
returns g c = purgeables-told (values c.args.self.now) g.past c.counts.result c.counts.ensures.obsolete c.counts.ensures.lifo c.counts.ensures.fifo c.requires
