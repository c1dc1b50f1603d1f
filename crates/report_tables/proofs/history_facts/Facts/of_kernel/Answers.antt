use Rattle.std.proofs.Common.{◌≡◌, List, reverse, sym, ◌∙◌, subst}
use Rattle.std.specs.Prelude.{IfOk}
use Rattle.kern_ids.specs.declared.entries.Entry.{Entry}
use Rattle.report_tables.specs.Facts.{Tell}
use Rattle.report_tables.proofs.history_facts.Facts.of_kernel.Goals as goal

pub of_tables-requires-clause-tell : goal.of_tables-requires-clause-tell
unfolding Tell
of_tables-requires-clause-tell c = subst (λ (h : List Entry). Tell c.tables.result.now (reverse h)) (sym c.log.ensures) c.tables.ensures.stands

pub of_tables-requires-clause-boot : goal.of_tables-requires-clause-boot
of_tables-requires-clause-boot c = c.tables.ensures.boot ∙ c.requires
