use Rattle.std.proofs.Common.{ap, sym, ◌∙◌, arith, slice_get}
use Rattle.priority_bands.proofs.TasksFrom.{tasks_from_head, tasks_from_empty}
use Rattle.priority_bands.proofs.Bands.head_from.Goals as goal

pub returns-in-Some : goal.returns-in-Some
returns-in-Some c =
    let head = tasks_from_head c.self.inside.lists.lists c.loop-b.b c.in-Some.key (omega arith) (sym c.in-Some.ensures.first) in
    let whole = ap (λ xs. slice_get xs 0) c.loop-b.invariant ∙ head in
    grind (arith, whole, c.new.ensures, c.in-Some.ensures.bound)

pub loop-b-preserved : goal.loop-b-preserved
loop-b-preserved c = c.loop-b.invariant ∙ sym (tasks_from_empty c.self.inside.lists.lists c.loop-b.b (omega arith) (sym c.in-None.ensures.first))
