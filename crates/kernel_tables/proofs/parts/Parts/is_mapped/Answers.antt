use Rattle.std.proofs.Common.{◌∙◌}
use Rattle.kernel_tables.proofs.Objects.{mapped-stands}
use Rattle.kernel_tables.proofs.parts.Parts.is_mapped.Goals as goal

pub returns : goal.returns
returns g c =
    c.is_mapped.ensures ∙ mapped-stands c.args.self.now.boot g.past c.args.self.now.objects.table c.valid.ensures (c.requires.0).objects.mappers c.args.o c.requires.1
