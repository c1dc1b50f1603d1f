use Rattle.std.proofs.Common.{ℕ, ◌<◌, List, subst, ap}
use Rattle.link_list.specs.Linked.{IsLinked}
use Rattle.link_list.proofs.LinkedSteps.{once_each, all_below}
use Rattle.link_list.proofs.Lists.each_once.Goals as goal

pub returns-clause-once : goal.returns-clause-once
returns-clause-once g c =
    let h = subst (λ (ls : List (List ℕ)). IsLinked g.row.N c.self.inside.cap c.self.inside.next.items c.self.inside.prev.items c.self.inside.owner.items ls) (ap (λ v. v.lists) c.self.view_is) c.self.invariant in
    once_each h

pub returns-clause-below : goal.returns-clause-below
returns-clause-below g c = λ l key m.
    let h = subst (λ (ls : List (List ℕ)). IsLinked g.row.N c.self.inside.cap c.self.inside.next.items c.self.inside.prev.items c.self.inside.owner.items ls) (ap (λ v. v.lists) c.self.view_is) c.self.invariant in
    subst (λ i. key < i) (ap (λ v. v.cap) c.self.view_is) (all_below h l key m)
