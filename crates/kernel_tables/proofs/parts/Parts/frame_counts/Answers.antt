use Rattle.kernel_tables.specs.Values.{values}
use Rattle.kernel_tables.proofs.AskLemmas.{info-told}
use Rattle.kernel_tables.proofs.parts.Parts.frame_counts.Goals as goal

pub returns : goal.returns
returns g c = rw (c.saturating_sub.ensures, c.from.ensures, c.counts-counts.ensures) (info-told (values c.args.self.now) g.past c.requires)
