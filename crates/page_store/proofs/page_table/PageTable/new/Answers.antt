use Rattle.page_store.proofs.TableLemmas.{kept_none}
use Rattle.page_store.proofs.page_table.PageTable.new.Goals as goal

pub invariant_of-result : goal.invariant_of-result
invariant_of-result c = kept_none c.new.result c.in_ok-no_keys.field-0.items c.new.ensures.empty c.in_ok-no_keys.ensures
