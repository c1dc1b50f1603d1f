use Rattle.std.proofs.Common.{◌∙◌, ◌++◌, ◌∷◌, [], List, reverse, sym, ap, ap₂}
use Rattle.slow_kernel.proofs.Tables.{table_more}
use Rattle.report_tables.specs.Facts.{object_facts}
use Rattle.report_tables.specs.declared.rows.ObjectFacts.{ObjectFacts}
use Rattle.report_tables.proofs.history_facts.object_table.Goals as goal

pub loop-k-preserved : goal.loop-k-preserved
loop-k-preserved c =
    c.push_reserved.ensures.items
    ∙ ap₂ (λ (rows : List ObjectFacts) (row : ObjectFacts). rows ++ row ∷ []) (c.reserve.ensures.items ∙ c.loop-k.invariant)
    (c.object_facts-facts.ensures ∙ ap (object_facts c.args.boot.now (reverse c.args.entries.now)) c.object_id.ensures)
    ∙ sym (table_more (object_facts c.args.boot.now (reverse c.args.entries.now)) c.loop-k.k)
