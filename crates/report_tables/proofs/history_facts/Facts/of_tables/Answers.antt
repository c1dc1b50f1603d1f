use Rattle.std.proofs.Common.{◌≡◌, List, reverse, sym, subst}
use Rattle.std.specs.Prelude.{IfOk}
use Rattle.kern_ids.specs.declared.entries.Entry.{Entry}
use Rattle.report_tables.specs.Facts.{Tell}
use Rattle.report_tables.proofs.history_facts.Facts.of_tables.Goals as goal

pub told_facts-requires-clause-tell : goal.told_facts-requires-clause-tell
told_facts-requires-clause-tell c = subst (λ (h : List Entry). Tell c.args.tables.now (reverse h)) (sym c.as_slice.ensures) c.requires.tell
