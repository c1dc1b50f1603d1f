use Rattle.std.proofs.Common.{rules, arith, sym, ap, ◌∙◌}
use Rattle.std.proofs.lemmas.Grind.{common_steps}
use Rattle.turn_lock.specs.declared.view.Role.TheVariants.{Live}
use Rattle.turn_lock.proofs.Joining.{joins, learns}
use Rattle.turn_lock.proofs.two_level.TwoLevel.merge.Goals as goal

pub join_seat-requires : goal.join_seat-requires
join_seat-requires g c = let here = c.self.view_is in let live = ap (λ t. Live t.base t.passes) (sym here) in let r = c.requires in (
  r.place.0 ∙ ap (λ t. t.id) (sym here),
  r.other.0 ∙ ap (λ t. t.id) (sym here),
  r.other.2,
  first_of (search rules, grind (arith, common_steps, c.self.invariant)),
  joins g.V.Ordered _ _ _ _ _ _ (r.place.1 ∙ live) (r.other.1 ∙ live) r.turn.0 r.turn.1 r.object.0 r.object.1,
)

pub load-requires : goal.load-requires
load-requires g c = let here = c.self.view_is in (
  c.join_seat.ensures.0 ∙ (c.requires.place.0 ∙ ap (λ t. t.id) (sym here)),
  first_of (search rules, grind (arith, common_steps, c.self.invariant)),
  learns g.V.Ordered _ _ _ _ _ (ap (λ z. z.0.role) c.join_seat.ensures.2 ∙ (c.requires.place.1 ∙ ap (λ t. Live t.base t.passes) (sym here))),
)
