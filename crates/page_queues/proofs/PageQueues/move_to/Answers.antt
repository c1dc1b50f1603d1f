use Rattle.std.proofs.Common.{◌≡◌, ℕ, ◌<◌, ◌⊎◌, ◌++◌, ◌∷◌, [], List, true, set, ap, sym, ◌∙◌, subst, refl, IsNone}
use Rattle.link_list.specs.KeyLists.{list_at, has, place_of}
use Rattle.link_list.proofs.Places.{place_of-removed}
use Rattle.page_queues.specs.Pages.{Pages, active, inactive, free}
use Rattle.page_queues.proofs.KeptLemmas.{kept_placed}
use Rattle.page_queues.proofs.PageQueues.move_to.Goals as goal

pub push_back-requires-clause-absent : goal.push_back-requires-clause-absent
push_back-requires-clause-absent c = subst IsNone (sym (ap (place_of c.args.key) c.take.ensures.lists ∙ place_of-removed c.args.key c.self.inside.queues.lists)) refl

pub invariant_of-self : goal.invariant_of-self
invariant_of-self c =
    let queues = c.push_back.ensures.lists ∙ ap (λ (ls : List (List ℕ)). set ls c.args.l (list_at ls c.args.l ++ c.args.key ∷ [])) c.take.ensures.lists in
    let frame = subst (λ (p : Pages). c.args.l < 2 → (has c.args.key (active p) ≡ true) ⊎ ((has c.args.key (inactive p) ≡ true) ⊎ (0 < free p))) (sym c.self.view_is) c.requires.frame in
    kept_placed _ _ c.self.invariant _ _ c.args.key c.args.l (c.push_back.ensures.objects ∙ c.take.ensures.objects) queues c.requires.list frame
