use Rattle.std.proofs.Common.{◌∙◌, sym, ap, reverse, option_map}
use Rattle.std.specs.Option.{option_copied}
use Rattle.slow_kernel.specs.declared.pages.PageRow.{PageRow}
use Rattle.slow_kernel.proofs.ScanTables.{first_active_rows}
use Rattle.slow_kernel.proofs.scan.first_active.Goals as goal

pub returns-in-Some : goal.returns-in-Some
returns-in-Some c =
    sym (ap (option_map (λ (row : PageRow). row.page)) (sym c.oldest_in.ensures ∙ ap option_copied c.in-Some.is))
    ∙ first_active_rows c.args.boot.now (reverse c.args.entries.now) c.args.rows.now c.requires

pub returns-in-None : goal.returns-in-None
returns-in-None c =
    sym (ap (option_map (λ (row : PageRow). row.page)) (sym c.oldest_in.ensures ∙ ap option_copied c.in-None.is))
    ∙ first_active_rows c.args.boot.now (reverse c.args.entries.now) c.args.rows.now c.requires
