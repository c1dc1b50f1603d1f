use Rattle.std.proofs.Common.{ℕ, ◌+◌, ◌<◌, List, subst, ap, arith}
use Rattle.link_list.specs.Linked.{IsLinked}
use Rattle.link_list.proofs.LinkedSteps.{lists_of_linked, linked_walks, free_from_none, first_is_of, linked_push_front, next_read}
use Rattle.link_list.proofs.Lists.push_front.Goals as goal

pub index_mut-requires-4 : goal.index_mut-requires-4
index_mut-requires-4 g c =
    let h = subst (λ (ls : List (List ℕ)). IsLinked g.row.N c.self.inside.cap c.self.inside.next.items c.self.inside.prev.items c.self.inside.owner.items ls) (ap (λ v. v.lists) c.self.view_is) c.self.invariant in
    let is = next_read h (c.self.inside.cap + c.args.l) _ (omega arith) c.index-first.ensures in
    let of = first_is_of h c.args.l c.requires.list in
    omega (arith, h.nexts, h.prevs, is, of.0)

pub invariant_of-self : goal.invariant_of-self
invariant_of-self g c =
    let h = subst (λ (ls : List (List ℕ)). IsLinked g.row.N c.self.inside.cap c.self.inside.next.items c.self.inside.prev.items c.self.inside.owner.items ls) (ap (λ v. v.lists) c.self.view_is) c.self.invariant in
    let key_in : c.args.key < c.self.inside.cap = rw (ap (λ v. v.cap) c.self.view_is) c.requires.key in
    let is = next_read h (c.self.inside.cap + c.args.l) _ (omega arith) c.index-first.ensures in
    linked_walks (linked_push_front h c.args.key c.args.l key_in c.requires.list (free_from_none h c.args.key key_in c.requires.absent) _ is)

pub returns-clause-lists : goal.returns-clause-lists
returns-clause-lists g c =
    let h = subst (λ (ls : List (List ℕ)). IsLinked g.row.N c.self.inside.cap c.self.inside.next.items c.self.inside.prev.items c.self.inside.owner.items ls) (ap (λ v. v.lists) c.self.view_is) c.self.invariant in
    let key_in : c.args.key < c.self.inside.cap = rw (ap (λ v. v.cap) c.self.view_is) c.requires.key in
    let is = next_read h (c.self.inside.cap + c.args.l) _ (omega arith) c.index-first.ensures in
    lists_of_linked (linked_push_front h c.args.key c.args.l key_in c.requires.list (free_from_none h c.args.key key_in c.requires.absent) _ is)
