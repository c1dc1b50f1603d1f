use Rattle.std.proofs.Common.{ℕ, ◌<◌, List, subst, ap, arith}
use Rattle.link_list.specs.Linked.{IsLinked}
use Rattle.link_list.proofs.LinkedSteps.{lists_of_linked, linked_walks, owned_from_some, before_is_of, behind_is_of, linked_remove, next_read, prev_read}
use Rattle.link_list.proofs.Lists.remove.Goals as goal

pub index_mut-requires : goal.index_mut-requires
index_mut-requires g c =
    let h = subst (λ (ls : List (List ℕ)). IsLinked g.row.N c.self.inside.cap c.self.inside.next.items c.self.inside.prev.items c.self.inside.owner.items ls) (ap (λ v. v.lists) c.self.view_is) c.self.invariant in
    let key_in : c.args.key < c.self.inside.cap = rw (ap (λ v. v.cap) c.self.view_is) c.requires.key in
    let before = prev_read h c.args.key _ (omega arith) c.index-before.ensures in
    let behind = next_read h c.args.key _ (omega arith) c.index-behind.ensures in
    let own = owned_from_some h c.args.key key_in c.requires.present in
    omega (arith, h.nexts, before, (before_is_of h c.args.key key_in own).0)

pub index_mut-requires-2 : goal.index_mut-requires-2
index_mut-requires-2 g c =
    let h = subst (λ (ls : List (List ℕ)). IsLinked g.row.N c.self.inside.cap c.self.inside.next.items c.self.inside.prev.items c.self.inside.owner.items ls) (ap (λ v. v.lists) c.self.view_is) c.self.invariant in
    let key_in : c.args.key < c.self.inside.cap = rw (ap (λ v. v.cap) c.self.view_is) c.requires.key in
    let before = prev_read h c.args.key _ (omega arith) c.index-before.ensures in
    let behind = next_read h c.args.key _ (omega arith) c.index-behind.ensures in
    let own = owned_from_some h c.args.key key_in c.requires.present in
    omega (arith, h.prevs, behind, (behind_is_of h c.args.key key_in own).0)

pub invariant_of-self : goal.invariant_of-self
invariant_of-self g c =
    let h = subst (λ (ls : List (List ℕ)). IsLinked g.row.N c.self.inside.cap c.self.inside.next.items c.self.inside.prev.items c.self.inside.owner.items ls) (ap (λ v. v.lists) c.self.view_is) c.self.invariant in
    let key_in : c.args.key < c.self.inside.cap = rw (ap (λ v. v.cap) c.self.view_is) c.requires.key in
    let before = prev_read h c.args.key _ (omega arith) c.index-before.ensures in
    let behind = next_read h c.args.key _ (omega arith) c.index-behind.ensures in
    let own = owned_from_some h c.args.key key_in c.requires.present in
    linked_walks (linked_remove h c.args.key _ _ key_in own before behind)

pub returns-clause-lists : goal.returns-clause-lists
returns-clause-lists g c =
    let h = subst (λ (ls : List (List ℕ)). IsLinked g.row.N c.self.inside.cap c.self.inside.next.items c.self.inside.prev.items c.self.inside.owner.items ls) (ap (λ v. v.lists) c.self.view_is) c.self.invariant in
    let key_in : c.args.key < c.self.inside.cap = rw (ap (λ v. v.cap) c.self.view_is) c.requires.key in
    let before = prev_read h c.args.key _ (omega arith) c.index-before.ensures in
    let behind = next_read h c.args.key _ (omega arith) c.index-behind.ensures in
    let own = owned_from_some h c.args.key key_in c.requires.present in
    lists_of_linked (linked_remove h c.args.key _ _ key_in own before behind)
