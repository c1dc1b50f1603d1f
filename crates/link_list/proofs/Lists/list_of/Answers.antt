use Rattle.std.proofs.Common.{ℕ, ◌<◌, List, subst, ap, sym, ◌∙◌, arith, Some}
use Rattle.link_list.specs.Linked.{IsLinked}
use Rattle.link_list.proofs.LinkedSteps.{place_of_owner, place_of_free, owner_read}
use Rattle.link_list.proofs.Lists.list_of.Goals as goal

pub returns-then-l-clause-place : goal.returns-then-l-clause-place
returns-then-l-clause-place g c =
    let h = subst (λ (ls : List (List ℕ)). IsLinked g.row.N c.self.inside.cap c.self.inside.next.items c.self.inside.prev.items c.self.inside.owner.items ls) (ap (λ v. v.lists) c.self.view_is) c.self.invariant in
    let key_in : c.args.key < c.self.inside.cap = rw (ap (λ v. v.cap) c.self.view_is) c.requires.key in
    let is = owner_read h c.args.key _ (omega arith) c.index-l.ensures in
    ap Some is ∙ sym (place_of_owner h c.args.key key_in (omega arith))

pub returns-else-l-clause-place : goal.returns-else-l-clause-place
returns-else-l-clause-place g c =
    let h = subst (λ (ls : List (List ℕ)). IsLinked g.row.N c.self.inside.cap c.self.inside.next.items c.self.inside.prev.items c.self.inside.owner.items ls) (ap (λ v. v.lists) c.self.view_is) c.self.invariant in
    let key_in : c.args.key < c.self.inside.cap = rw (ap (λ v. v.cap) c.self.view_is) c.requires.key in
    let is = owner_read h c.args.key _ (omega arith) c.index-l.ensures in
    sym (place_of_free h c.args.key key_in (omega arith))
