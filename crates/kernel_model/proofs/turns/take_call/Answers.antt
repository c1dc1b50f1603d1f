use Rattle.kernel_model.proofs.TurnLemmas.{taken-left}
use Rattle.kernel_model.proofs.turns.take_call.Goals as goal

pub returns-in-Some-split_first-clause-taken : goal.returns-in-Some-split_first-clause-taken
returns-in-Some-split_first-clause-taken c =
    let look = rw c.deref.ensures.value at c.in-Some.ensures.lookup in
    let s = c.in-Some-split_first in
    taken-left c.args.scripts.now.items c.args.n c.in-Some.rest.now s.more s.call.now look.3.0 look.1 s.ensures.cases.0
