use Rattle.std.proofs.Common.{◌≡◌, subst}
use Rattle.kernel_model.specs.Lists.{some_if}
use Rattle.kernel_model.specs.Mapping.{mapped}
use Rattle.kernel_tables.specs.Standing.{mapped_object}
use Rattle.kernel_tables.specs.Values.{TableValues}
use Rattle.kernel_tables.proofs.tables.Tables.object.Goals as goal

pub returns : goal.returns
returns g c = subst (λ (v : TableValues). c.object.result ≡ some_if (mapped v.boot g.past c.args.o) (mapped_object v.boot g.past c.args.o)) c.self.view_is c.object.ensures
