use Rattle.std.proofs.Common.{sym, ◌∙◌}
use Rattle.kernel_model.specs.Events.{reaches_page}
use Rattle.kernel_tables.specs.Values.{values}
use Rattle.kernel_tables.proofs.Refused.{page-needed, page-declared}
use Rattle.kernel_tables.proofs.parts.Parts.is_needed.Goals as goal

pub returns-then-reaches : goal.returns-then-reaches
returns-then-reaches g c =
    page-needed (values c.args.self.now) g.past c.args.o c.args.k (reaches_page c.args.off c.args.len c.args.k) c.is_out.result c.requires.0 c.requires.1.0 (rw (← c.pages.ensures) c.if-pages-k.false)
    (sym c.reaches.ensures ∙ c.if-reaches.true)
    (rw (← c.place.ensures) c.is_out.ensures)
