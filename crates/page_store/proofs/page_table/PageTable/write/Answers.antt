use Rattle.std.proofs.Common.{◌<◌, length, arith}
use Rattle.page_store.specs.Tables.{page_with}
use Rattle.page_store.proofs.TableLemmas.{key_read, pages_in-changed}
use Rattle.page_store.proofs.page_table.PageTable.write.Goals as goal

pub returns-in-Some : goal.returns-in-Some
returns-in-Some c =
    let keys = c.self.inside.keys.items in
    let inside : c.args.page < length keys = omega (arith, c.self.invariant.count, c.requires.page) in
    let is = key_read keys c.args.page c.in-Some.key c.index.result.now inside c.index.ensures c.in-Some.is in
    rw (← c.self.view_is) (pages_in-changed c.self.inside.slab c.overwrite.new.slab keys c.args.page c.in-Some.key (λ old. page_with old c.args.at c.args.bytes.now) c.self.invariant c.requires.page is c.overwrite.ensures.page)
