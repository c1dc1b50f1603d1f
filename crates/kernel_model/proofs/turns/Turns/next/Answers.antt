use Rattle.std.proofs.Common.{sym, ◌∙◌}
use Rattle.kernel_model.proofs.TurnLemmas.{left-turn}
use Rattle.kernel_model.proofs.turns.Turns.next.Goals as goal

pub returns : goal.returns
returns c =
    let ordered = c.in_default.ensures.turn in
    left-turn c.next_left.result c.args.self.now c.next_ordered.new.order.now c.next_ordered.new.scripts.items c.next_left.new.scripts.items
    (sym c.self.view_is ∙ ordered.1) ordered.0 c.next_left.ensures.turn
