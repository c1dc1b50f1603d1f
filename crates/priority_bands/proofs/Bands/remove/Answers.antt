use Rattle.std.proofs.Common.{sym, ap, ◌∙◌}
use Rattle.link_list.specs.KeyLists.{place_of}
use Rattle.link_list.proofs.Places.{without_nowhere}
use Rattle.priority_bands.proofs.Rests.{none_if}
use Rattle.priority_bands.proofs.Bands.remove.Goals as goal

pub returns-else-is_some : goal.returns-else-is_some
returns-else-is_some c = sym (without_nowhere c.args.t c.args.self.now (
    ap (λ i. place_of i c.args.self.now) (sym c.get-key.ensures.value)
    ∙ ap (place_of c.get-key.result) (sym c.self.view_is)
    ∙ sym c.list_of.ensures.place
    ∙ none_if c.list_of.result (sym c.is_some.ensures ∙ c.if-is_some.false)))
