use Rattle.std.proofs.Common.{◌≡◌, sym, ◌∙◌, ap, ◌/◌, ◌%◌, true, is_some}
use Rattle.page_store.specs.Contents.{Contents, is_prepared}
use Rattle.page_store.specs.Tables.{page_at, page_with}
use Rattle.page_store.proofs.BodyLemmas.{prepared-there, bytes_of-changed, there-changed}
use Rattle.page_store.proofs.Body.write_in_page.Goals as goal

pub returns-clause-bytes : goal.returns-clause-bytes
returns-clause-bytes c =
    let pages = c.self.inside.pages in
    let there : is_some (page_at pages (c.args.place / 4096)) ≡ true = sym (prepared-there pages (c.args.place / 4096)) ∙ ap (λ (s : Contents). is_prepared s c.args.place) c.self.view_is ∙ c.requires.prepared in
    rw (← c.self.view_is) (bytes_of-changed pages c.write.new.self c.args.place c.args.bytes.now c.are_pages.ensures c.requires.inside there c.write.ensures)

pub returns-clause-prepared : goal.returns-clause-prepared
returns-clause-prepared c = rw (← c.self.view_is) (there-changed c.self.inside.pages c.write.new.self (c.args.place / 4096) (λ old. page_with old (c.args.place % 4096) c.args.bytes.now) c.write.ensures)
