use Rattle.std.proofs.Common.{ℕ, ◌<◌, List, subst, ap, sym, refl, ◌∙◌, arith}
use Rattle.std.proofs.lemmas.Bool.{lt-ltb, le-ltb}
use Rattle.link_list.specs.Linked.{IsLinked}
use Rattle.link_list.proofs.LinkedSteps.{none_behind, behind_is, next_read, owner_read}
use Rattle.link_list.proofs.Lists.next.Goals as goal

pub returns-then-index-clause-behind : goal.returns-then-index-clause-behind
returns-then-index-clause-behind g c =
    let h = subst (λ (ls : List (List ℕ)). IsLinked g.row.N c.self.inside.cap c.self.inside.next.items c.self.inside.prev.items c.self.inside.owner.items ls) (ap (λ v. v.lists) c.self.view_is) c.self.invariant in
    let key_in : c.args.key < c.self.inside.cap = rw (ap (λ v. v.cap) c.self.view_is) c.requires.key in
    let is = owner_read h c.args.key _ (omega arith) c.index.ensures in
    sym (none_behind h c.args.key key_in (omega arith))

pub returns-then-behind-self-clause-behind : goal.returns-then-behind-self-clause-behind
returns-then-behind-self-clause-behind g c =
    let h = subst (λ (ls : List (List ℕ)). IsLinked g.row.N c.self.inside.cap c.self.inside.next.items c.self.inside.prev.items c.self.inside.owner.items ls) (ap (λ v. v.lists) c.self.view_is) c.self.invariant in
    let key_in : c.args.key < c.self.inside.cap = rw (ap (λ v. v.cap) c.self.view_is) c.requires.key in
    let own = owner_read h c.args.key _ (omega arith) c.index.ensures in
    let is = next_read h c.args.key _ (omega arith) c.index-behind.ensures in
    sym (behind_is h c.args.key key_in (omega (arith, h.bound c.args.key key_in)) ∙ rw (← is, lt-ltb _ _ c.if-behind-self.true) refl)

pub returns-else-behind-self-clause-behind : goal.returns-else-behind-self-clause-behind
returns-else-behind-self-clause-behind g c =
    let h = subst (λ (ls : List (List ℕ)). IsLinked g.row.N c.self.inside.cap c.self.inside.next.items c.self.inside.prev.items c.self.inside.owner.items ls) (ap (λ v. v.lists) c.self.view_is) c.self.invariant in
    let key_in : c.args.key < c.self.inside.cap = rw (ap (λ v. v.cap) c.self.view_is) c.requires.key in
    let own = owner_read h c.args.key _ (omega arith) c.index.ensures in
    let is = next_read h c.args.key _ (omega arith) c.index-behind.ensures in
    sym (behind_is h c.args.key key_in (omega (arith, h.bound c.args.key key_in)) ∙ rw (← is, le-ltb _ _ c.if-behind-self.false) refl)
