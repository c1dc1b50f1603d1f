use Rattle.std.proofs.Common.{◌≡◌, ◌<◌, false, None, length, get_or, sym, ap, ◌∙◌, arith}
use Rattle.page_store.specs.Contents.{Contents}
use Rattle.page_store.specs.Tables.{page_at}
use Rattle.page_store.proofs.BodyLemmas.{prepared-there, absent_page, set_there, bytes_of-added, there-added}
use Rattle.page_store.proofs.Body.prepare_page.Goals as goal

pub returns-then-has-clause-ok : goal.returns-then-has-clause-ok
returns-then-has-clause-ok c =
    let there = sym (ap (λ (s : Contents). get_or s.prepared c.args.page false) c.self.view_is) ∙ prepared-there c.self.inside.pages c.args.page ∙ sym c.has.ensures ∙ c.if-has.true in
    set_there c.args.self.now.prepared c.args.page there

pub returns-clause-bytes : goal.returns-clause-bytes
returns-clause-bytes c =
    let pages = c.self.inside.pages in
    let inside : c.args.page < length pages = omega (arith, c.are_pages.ensures.count, c.requires) in
    let none : page_at pages c.args.page ≡ None = absent_page (page_at pages c.args.page) (sym c.has.ensures ∙ c.if-has.false) in
    rw (← c.self.view_is, c.in_ok-add.ensures.ok) (bytes_of-added pages c.args.page inside none)

pub returns-clause-ok : goal.returns-clause-ok
returns-clause-ok c = rw (← c.self.view_is) (there-added c.self.inside.pages c.add.new.self c.args.page _ c.in_ok-add.ensures.ok)
