use Rattle.std.proofs.Common.{reverse, ◌∙◌}
use Rattle.slow_kernel.proofs.ObjectTables.{first_rows}
use Rattle.slow_kernel.proofs.groups.first.Goals as goal

pub returns : goal.returns
returns c = c.first_in.ensures ∙ first_rows c.args.boot.now (reverse c.args.entries.now) c.args.queue c.args.group c.args.rows.now c.requires
