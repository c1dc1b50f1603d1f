use Rattle.std.proofs.Common.{ℕ, ◌+◌, List, subst, ap, sym, refl, ◌∙◌, arith}
use Rattle.std.proofs.lemmas.Bool.{lt-ltb, le-ltb}
use Rattle.link_list.specs.Linked.{IsLinked}
use Rattle.link_list.proofs.LinkedSteps.{front_is, next_read}
use Rattle.link_list.proofs.Lists.front.Goals as goal

pub returns-then-first-self-clause-first : goal.returns-then-first-self-clause-first
returns-then-first-self-clause-first g c =
    let h = subst (λ (ls : List (List ℕ)). IsLinked g.row.N c.self.inside.cap c.self.inside.next.items c.self.inside.prev.items c.self.inside.owner.items ls) (ap (λ v. v.lists) c.self.view_is) c.self.invariant in
    let is = next_read h (c.self.inside.cap + c.args.l) _ (omega arith) c.index-first.ensures in
    sym (front_is h c.args.l c.requires.list ∙ rw (← is, lt-ltb _ _ c.if-first-self.true) refl)

pub returns-else-first-self-clause-first : goal.returns-else-first-self-clause-first
returns-else-first-self-clause-first g c =
    let h = subst (λ (ls : List (List ℕ)). IsLinked g.row.N c.self.inside.cap c.self.inside.next.items c.self.inside.prev.items c.self.inside.owner.items ls) (ap (λ v. v.lists) c.self.view_is) c.self.invariant in
    let is = next_read h (c.self.inside.cap + c.args.l) _ (omega arith) c.index-first.ensures in
    sym (front_is h c.args.l c.requires.list ∙ rw (← is, le-ltb _ _ c.if-first-self.false) refl)
