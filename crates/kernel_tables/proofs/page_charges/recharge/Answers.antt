use Rattle.std.proofs.Common.{sym, ◌∙◌, subst}
use Rattle.kern_ids.specs.declared.calls.State.{State}
use Rattle.kernel_tables.specs.Moves.{IsChargeable}
use Rattle.kernel_tables.proofs.page_charges.recharge.Goals as goal

pub recount-requires : goal.recount-requires
recount-requires c =
    subst (λ (s : State). IsChargeable s c.args.was c.args.now c.args.ledgers.now c.in-Some.t) (sym c.state-state.ensures)
    (c.requires.charged c.in-Some.t (sym c.owner.ensures.owner ∙ c.in-Some.is))
