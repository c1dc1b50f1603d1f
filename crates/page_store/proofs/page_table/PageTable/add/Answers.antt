use Rattle.std.proofs.Common.{List, Option, ℕ, IsNone, subst, sym, ap, ◌∙◌, replicate}
use Rattle.std.proofs.lemmas.List.{length-replicate}
use Rattle.page_store.specs.Tables.{pages_in, page_at}
use Rattle.page_store.proofs.TableLemmas.{pages_in-added, kept_added}
use Rattle.page_store.proofs.page_table.PageTable.add.Goals as goal

pub returns-in-Ok-clause-ok : goal.returns-in-Ok-clause-ok
returns-in-Ok-clause-ok c =
    rw (← c.self.view_is) (pages_in-added c.self.inside.slab c.insert.new.self c.self.inside.keys.items c.args.page c.in-Ok.key (replicate 4096 0) c.self.invariant c.requires.page c.in-Ok.ensures.was_vacant c.in-Ok.ensures.updates)

pub returns-in-Err-clause-err : goal.returns-in-Err-clause-err
returns-in-Err-clause-err c = ap (λ s. pages_in s c.self.inside.keys.items) c.in-Err.ensures.err ∙ c.self.view_is

pub invariant_of-self : goal.invariant_of-self
invariant_of-self c =
    let absent = subst (λ (pages : List (Option (List ℕ))). IsNone (page_at pages c.args.page)) (sym c.self.view_is) c.requires.absent in
    kept_added c.self.inside.slab c.insert.new.self c.self.inside.keys.items c.args.page c.in-Ok.key (replicate 4096 0) c.self.invariant c.requires.page absent c.in-Ok.ensures.was_vacant c.in-Ok.ensures.updates (length-replicate {A = ℕ} 4096 0) c.in-Ok.ensures.len
