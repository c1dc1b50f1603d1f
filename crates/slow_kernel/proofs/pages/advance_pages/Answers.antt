use Rattle.std.proofs.Common.{sym, ◌∙◌, ap₂}
use Rattle.slow_kernel.specs.Tables.{tells_pages}
use Rattle.slow_kernel.proofs.PageTables.{pages_quiet}
use Rattle.slow_kernel.proofs.pages.advance_pages.Goals as goal

pub returns-else-tells_pages : goal.returns-else-tells_pages
returns-else-tells_pages c =
    c.requires.before
    ∙ sym (pages_quiet c.args.boot.now c.args.entries.now c.args.i c.index-entries-i.result c.args.o c.requires.at c.index-entries-i.is
    (ap₂ (λ s u. tells_pages s u c.args.o c.index-entries-i.result) (sym c.requires.state) (sym c.requires.unmapped) ∙ sym c.tells_pages.ensures ∙ c.if-tells_pages.false))
