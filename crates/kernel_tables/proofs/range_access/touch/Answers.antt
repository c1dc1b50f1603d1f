use Rattle.std.proofs.Common.{sym, subst}
use Rattle.kernel_model.specs.declared.place.Place.{Place}
use Rattle.vm_object.specs.Objects.{object_at}
use Rattle.kernel_tables.specs.Moves.{place_touched, IsChargeable}
use Rattle.kernel_tables.proofs.range_access.touch.Goals as goal

pub recharge-requires-clause-charged : goal.recharge-requires-clause-charged
recharge-requires-clause-charged c = λ t owns.
    subst (λ (y : Place). IsChargeable (object_at c.args.table.now c.args.o).state c.place-was.result y c.args.ledgers.now t) (sym c.place_touched.ensures)
    (subst (λ (x : Place). IsChargeable (object_at c.args.table.now c.args.o).state x (place_touched x) c.args.ledgers.now t) (sym c.place-was.ensures)
    (c.requires.charged t owns))
