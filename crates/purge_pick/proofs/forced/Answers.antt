use Rattle.std.proofs.Common.{sym, ◌∙◌}
use Rattle.kern_ids.specs.declared.calls.Queue.TheVariants.{Obsolete, Lifo, Fifo}
use Rattle.purge_pick.proofs.PickLemmas.{found-not_empty, all_nowhere, empty-none, none_from, none_to}
use Rattle.purge_pick.proofs.forced.Goals as goal

pub returns-in-Some-clause-none : goal.returns-in-Some-clause-none
returns-in-Some-clause-none c = (λ e. absurd (cc), λ all. absurd (found-not_empty c.args.g.now Fifo c.in-Some.o (sym c.in-Some.ensures) all))

pub returns-in-Some-first_of_queue-clause-none : goal.returns-in-Some-first_of_queue-clause-none
returns-in-Some-first_of_queue-clause-none c =
    (λ e. absurd (cc), λ all. absurd (found-not_empty c.args.g.now Lifo c.in-Some-first_of_queue.o (sym c.in-Some-first_of_queue.ensures) all))

pub returns-in-None-first_of_queue-clause-none : goal.returns-in-None-first_of_queue-clause-none
returns-in-None-first_of_queue-clause-none c =
    (λ e. all_nowhere c.args.g.now (sym c.in-None.ensures) (sym c.in-None-first_of_queue.ensures) (sym c.first_of_queue-in-None-first_of_queue.ensures ∙ none_from c.first_of_queue-in-None-first_of_queue.result e), λ all. none_to c.first_of_queue-in-None-first_of_queue.result (c.first_of_queue-in-None-first_of_queue.ensures ∙ empty-none c.args.g.now Obsolete all))
