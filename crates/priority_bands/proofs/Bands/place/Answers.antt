use Rattle.std.proofs.Common.{sym, refl, ◌≡◌, ◌∙◌, arith, None, IsNone, subst, rules, ap}
use Rattle.link_list.specs.KeyLists.{place_of}
use Rattle.link_list.proofs.Places.{place_of-removed}
use Rattle.priority_bands.proofs.Bands.place.Goals as goal

pub push_back-requires : goal.push_back-requires
push_back-requires c =
    let gone : place_of c.get-2.result c.self.inside.lists.lists ≡ None = ap (λ i. place_of i c.self.inside.lists.lists) c.get-2.ensures.value ∙ ap (place_of c.args.t) (c.self.view_is ∙ c.remove.ensures) ∙ place_of-removed c.args.t c.args.self.now in
    (search rules, (search rules, (omega (arith, c.self.invariant.cap), subst IsNone (sym gone) refl)))
