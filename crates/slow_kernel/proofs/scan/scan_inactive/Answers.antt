use Rattle.std.proofs.Common.{◌∙◌, sym, ap, reverse, nat_lt}
use Rattle.std.specs.Option.{option_copied, option_map_or}
use Rattle.kern_ids.specs.declared.replies.Reply.TheVariants.{Idle}
use Rattle.kernel_model.specs.Pages.{stored_pages}
use Rattle.slow_kernel.specs.declared.pages.PageRow.{PageRow}
use Rattle.slow_kernel.specs.ScanTables.{row_moved}
use Rattle.slow_kernel.proofs.ScanTables.{scan_inactive_rows}
use Rattle.slow_kernel.proofs.scan.scan_inactive.Goals as goal

pub returns-in-Some : goal.returns-in-Some
returns-in-Some c =
    c.moved.ensures
    ∙ ap (row_moved c.in-Some.row.now) c.has_room.ensures
    ∙ sym (ap (λ o. option_map_or (λ (row : PageRow). row_moved row (nat_lt (stored_pages c.args.boot.now (reverse c.args.entries.now)) c.args.boot.now.params.store)) o Idle) (sym c.oldest_in.ensures ∙ ap option_copied c.in-Some.is))
    ∙ scan_inactive_rows c.args.boot.now (reverse c.args.entries.now) c.args.rows.now c.requires

pub returns-in-None : goal.returns-in-None
returns-in-None c =
    sym (ap (λ o. option_map_or (λ (row : PageRow). row_moved row (nat_lt (stored_pages c.args.boot.now (reverse c.args.entries.now)) c.args.boot.now.params.store)) o Idle) (sym c.oldest_in.ensures ∙ ap option_copied c.in-None.is))
    ∙ scan_inactive_rows c.args.boot.now (reverse c.args.entries.now) c.args.rows.now c.requires
