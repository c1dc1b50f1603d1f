use Rattle.std.proofs.Common.{ap, refl, sym, subst, ◌∙◌}
use Rattle.std.specs.Prelude.{IsNone}
use Rattle.link_list.specs.KeyLists.{place_of}
use Rattle.link_list.proofs.Places.{place_of-removed}
use Rattle.volatile_groups.specs.Grouped.{AreGroups}
use Rattle.purge_pick.proofs.AsManyLemmas.{moved-as-many}
use Rattle.parts_uses.proofs.purge_pick_tests.parts.Parts.enter_anew.Goals as goal

pub enter-requires-clause-absent : goal.enter-requires-clause-absent
enter-requires-clause-absent c = subst IsNone (sym (ap (place_of c.args.o) c.remove-queue.ensures.groups ∙ place_of-removed c.args.o c.args.self.now.groups)) refl

pub invariant_of-self-clause-as_many : goal.invariant_of-self-clause-as_many
invariant_of-self-clause-as_many c = rw (c.enter.ensures, c.remove-queue.ensures.groups) (
    moved-as-many c.args.self.now.tokens c.args.self.now.groups c.args.queue c.args.group c.args.o c.are_groups.ensures (subst AreGroups c.remove-queue.ensures.groups c.are_groups-2.ensures) c.requires.group c.requires.stands c.args.self.now.as_many
    )
