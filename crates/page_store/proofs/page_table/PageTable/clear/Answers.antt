use Rattle.std.proofs.Common.{◌≡◌, List, replicate, None, Option, ℕ, rules}
use Rattle.page_store.proofs.TableLemmas.{kept_none}
use Rattle.page_store.proofs.page_table.PageTable.clear.Goals as goal

abbrev none_of : ℕ → List (Option ℕ)
none_of n = replicate n None

pub invariant_of-self : goal.invariant_of-self
invariant_of-self c =
    let none : c.fill.new.self.items ≡ replicate 256 None = search rules in
    kept_none _ c.fill.new.self.items (search rules) none
