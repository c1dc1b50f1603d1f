use Rattle.std.proofs.Common.{◌≡◌, subst}
use Rattle.kernel_model.specs.Lists.{some_if}
use Rattle.kernel_model.specs.Mapping.{live}
use Rattle.kernel_tables.specs.Standing.{live_task}
use Rattle.kernel_tables.specs.Values.{TableValues}
use Rattle.kernel_tables.proofs.tables.Tables.task.Goals as goal

pub returns : goal.returns
returns g c = subst (λ (v : TableValues). c.task.result ≡ some_if (live v.boot g.past c.args.t) (live_task v.boot g.past c.args.t)) c.self.view_is c.task.ensures
