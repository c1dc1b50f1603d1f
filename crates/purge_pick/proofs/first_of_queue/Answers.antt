use Rattle.std.proofs.Common.{◌≡◌, None, ap, sym, ◌∙◌, map}
use Rattle.purge_pick.specs.Picks.{head_of, first_of}
use Rattle.purge_pick.proofs.FindLemmas.{range_with_len-more, first_some-no}
use Rattle.purge_pick.proofs.first_of_queue.Goals as goal

pub loop-group-preserved : goal.loop-group-preserved
loop-group-preserved c =
    let none : head_of c.args.g.now (c.args.q, c.loop-group.group) ≡ None = sym c.in_default.ensures in
    c.loop-group.invariant
    ∙ ap (λ ns. first_of c.args.g.now (map (λ n. (c.args.q, n)) ns)) (range_with_len-more c.loop-group.group 8 c.loop-group-test.true)
    ∙ first_some-no (head_of c.args.g.now) (c.args.q, c.loop-group.group) _ none
