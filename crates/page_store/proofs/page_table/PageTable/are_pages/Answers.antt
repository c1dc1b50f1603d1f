use Rattle.std.proofs.Common.{subst}
use Rattle.page_store.specs.Tables.{ArePages}
use Rattle.page_store.proofs.TableLemmas.{kept_pages}
use Rattle.page_store.proofs.page_table.PageTable.are_pages.Goals as goal

pub returns : goal.returns
returns c = subst ArePages c.self.view_is (kept_pages c.self.inside.slab c.self.inside.keys.items c.self.invariant)
