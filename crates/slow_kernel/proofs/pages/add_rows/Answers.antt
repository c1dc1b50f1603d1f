use Rattle.std.proofs.Common.{◌∙◌, reverse, sym, arith}
use Rattle.kernel_model.specs.Pages.{pages_in}
use Rattle.slow_kernel.specs.Tables.{IsKnown, facts, page, page_row}
use Rattle.slow_kernel.proofs.Mappers.{owner_from}
use Rattle.slow_kernel.proofs.PageTables.{known_all, row_from, rows_more, rows_none}
use Rattle.slow_kernel.proofs.Tables.{table_at, table_length}
use Rattle.std.proofs.Common.{ap, option_map, find}
use Rattle.slow_kernel.specs.Tables.{is_mapping}
use Rattle.slow_kernel.proofs.pages.add_rows.Goals as goal
use Rattle.slow_kernel.proofs.pages.add_rows.Goals.{In_ok-pass}

known : (c : In_ok-pass) → IsKnown c.args.boot.now (reverse c.args.entries.now) c.args.o c.in_ok-pass.pass
known c = known_all c.args.boot.now c.args.entries.now c.args.o c.in_ok-pass.pass c.in_ok-pass.ensures

pub loop-k-init : goal.loop-k-init
loop-k-init c = rows_none (page_row c.args.boot.now (reverse c.args.entries.now)) c.args.o c.args.rows.now.items

pub row_at-page-requires : goal.row_at-page-requires
row_at-page-requires c =
    let k = known (goal.at.row_at-page-requires c).In_ok-pass in
    let l = table_length (λ k. facts c.args.boot.now (reverse c.args.entries.now) (page c.args.o k)) (pages_in c.args.boot.now c.args.o) c.in_ok-pass.pass.pages.items k.pages in
    omega arith

pub loop-k-preserved : goal.loop-k-preserved
loop-k-preserved c =
    let k = known (goal.at.loop-k-preserved c).In_ok-pass in
    rows_more (page_row c.args.boot.now (reverse c.args.entries.now)) c.args.o c.loop-k.k c.args.rows.now.items c.loop-k.rows.items _ _ c.row_at-page.result c.loop-k.invariant c.reserve.ensures.items c.push_reserved.ensures.items
    (row_from c.args.boot.now (reverse c.args.entries.now) c.args.o c.loop-k.k c.row_at-page.result
    c.row_at-page.ensures.page
    (table_at (λ k. facts c.args.boot.now (reverse c.args.entries.now) (page c.args.o k)) (pages_in c.args.boot.now c.args.o) c.loop-k.k c.in_ok-pass.pass.pages.items c.row_at-page.result.facts k.pages (omega arith) c.row_at-page.ensures.facts)
    (c.row_at-page.ensures.state ∙ k.state)
    (c.row_at-page.ensures.owner ∙ ap (λ ms. option_map (λ m. m.task) (find is_mapping ms)) k.mappers ∙ sym (owner_from c.args.boot.now (reverse c.args.entries.now) c.args.o)))
