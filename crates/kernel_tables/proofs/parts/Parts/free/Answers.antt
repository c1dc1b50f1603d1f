use Rattle.std.proofs.Common.{ap, ◌∙◌}
use Rattle.kernel_tables.specs.Values.{values}
use Rattle.kernel_tables.proofs.Refused.{free-is}
use Rattle.kernel_tables.proofs.parts.Parts.free.Goals as goal

pub returns : goal.returns
returns g c = ap (λ x. x.free) c.counts.ensures ∙ free-is (values c.args.self.now) g.past c.requires
