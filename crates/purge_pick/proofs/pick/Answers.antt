use Rattle.std.proofs.Common.{◌≡◌, [], Some, ap, sym, ◌∙◌}
use Rattle.kern_ids.specs.declared.calls.Queue.TheVariants.{Obsolete, Lifo, Fifo}
use Rattle.purge_pick.specs.Picks.{ripe_queue, head_of}
use Rattle.purge_pick.proofs.FindLemmas.{first_some-no}
use Rattle.purge_pick.proofs.PickLemmas.{picked-some}
use Rattle.purge_pick.proofs.pick.Goals as goal

pub returns-in_err-first-in-Obsolete-clause-none : goal.returns-in_err-first-in-Obsolete-clause-none
returns-in_err-first-in-Obsolete-clause-none c =
    let is : ripe_queue c.args.t.now ≡ Some Obsolete = sym c.in_ok-token_queue.ensures ∙ ap Some c.in-Obsolete.is in
    absurd (picked-some c.args.t.now c.args.g.now c.requires c.are_groups.ensures Obsolete is
    (first_some-no (head_of c.args.g.now) (Obsolete, 0) [] (sym c.in_err-first-in-Obsolete.ensures)))

pub returns-in_err-first_of_both-in-Lifo-clause-none : goal.returns-in_err-first_of_both-in-Lifo-clause-none
returns-in_err-first_of_both-in-Lifo-clause-none c =
    let is : ripe_queue c.args.t.now ≡ Some Lifo = sym c.in_ok-token_queue.ensures ∙ ap Some c.in-Lifo.is in
    absurd (picked-some c.args.t.now c.args.g.now c.requires c.are_groups.ensures Lifo is (sym c.in_err-first_of_both-in-Lifo.ensures.object))

pub returns-in_err-obj-in-Fifo-clause-none : goal.returns-in_err-obj-in-Fifo-clause-none
returns-in_err-obj-in-Fifo-clause-none c =
    let is : ripe_queue c.args.t.now ≡ Some Fifo = sym c.in_ok-token_queue.ensures ∙ ap Some c.in-Fifo.is in
    absurd (picked-some c.args.t.now c.args.g.now c.requires c.are_groups.ensures Fifo is (sym c.in_err-obj-in-Fifo.ensures.object))
