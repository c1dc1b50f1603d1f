use Rattle.std.proofs.Common.{◌≡◌, ◌+◌, ◌-◌, ◌∷◌, None, sym, ◌∙◌}
use Rattle.std.specs.List.{range_with_len}
use Rattle.purge_pick.specs.Picks.{head_of, both_places}
use Rattle.purge_pick.proofs.FindLemmas.{first_of-both, first_some-no}
use Rattle.purge_pick.proofs.first_of_both.Goals as goal

pub loop-group-preserved : goal.loop-group-preserved
loop-group-preserved c =
    let none : head_of c.args.g.now (c.args.own, c.loop-group.group) ≡ None = sym c.in_default.ensures in
    let none' : head_of c.args.g.now (c.args.other, c.loop-group.group) ≡ None = sym c.in_default-first.ensures in
    c.loop-group.invariant
    ∙ first_of-both c.args.g.now c.args.own c.args.other c.loop-group.group c.loop-group-test.true
    ∙ first_some-no (head_of c.args.g.now) (c.args.own, c.loop-group.group) ((c.args.other, c.loop-group.group) ∷ both_places c.args.own c.args.other (range_with_len (c.loop-group.group + 1) (8 - (c.loop-group.group + 1)))) none
    ∙ first_some-no (head_of c.args.g.now) (c.args.other, c.loop-group.group) (both_places c.args.own c.args.other (range_with_len (c.loop-group.group + 1) (8 - (c.loop-group.group + 1)))) none'
