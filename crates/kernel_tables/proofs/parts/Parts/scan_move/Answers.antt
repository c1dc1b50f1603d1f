use Rattle.std.proofs.Common.{sym, subst}
use Rattle.kernel_model.specs.declared.place.Place.{Place}
use Rattle.vm_object.specs.Objects.{object_at}
use Rattle.kernel_tables.specs.Values.{values}
use Rattle.kernel_tables.specs.Moves.{moved_from, IsChargeable}
use Rattle.kernel_tables.proofs.ScanMoves.{can-move, can-tell, move-declared, move-chargeable, move-stands}
use Rattle.kernel_tables.proofs.parts.Parts.scan_move.Goals as goal

pub recharge-requires-clause-object : goal.recharge-requires-clause-object
recharge-requires-clause-object g c =
    let can = can-move (values c.args.self.now) g.past c.args.who c.args.how c.args.p c.requires.0 c.requires.1.1.0 in
    move-declared (values c.args.self.now) g.past c.args.how c.args.p can c.requires.0

pub recharge-requires-clause-charged : goal.recharge-requires-clause-charged
recharge-requires-clause-charged g c = λ t owns.
    let can = can-move (values c.args.self.now) g.past c.args.who c.args.how c.args.p c.requires.0 c.requires.1.1.0 in
    subst (λ (x : Place). IsChargeable (object_at c.args.self.now.objects.table c.args.p.obj).state x c.moved_to.result c.args.self.now.tasks.ledgers t) (sym c.moved_from.ensures)
    (subst (λ (y : Place). IsChargeable (object_at c.args.self.now.objects.table c.args.p.obj).state (moved_from c.args.how) y c.args.self.now.tasks.ledgers t) (sym c.moved_to.ensures)
    (move-chargeable (values c.args.self.now) g.past c.args.who c.args.how c.args.p c.valid.ensures can c.requires.0 t owns))

pub move_first-requires : goal.move_first-requires
move_first-requires g c = (can-move (values c.args.self.now) g.past c.args.who c.args.how c.args.p c.requires.0 c.requires.1.1.0).some

pub tell-requires : goal.tell-requires
tell-requires g c =
    let can = can-move (values c.args.self.now) g.past c.args.who c.args.how c.args.p c.requires.0 c.requires.1.1.0 in
    can-tell c.args.self.now.boot g.past c.args.how c.args.p c.args.self.now.objects.tokens.ahead c.valid.ensures c.requires.0.legal can.listed can.from c.requires.0.queues.ahead

pub returns-clause-stands : goal.returns-clause-stands
returns-clause-stands g c =
    let can = can-move (values c.args.self.now) g.past c.args.who c.args.how c.args.p c.requires.0 c.requires.1.1.0 in
    rw (c.move_first.ensures, c.tell.ensures, c.recharge.ensures, c.moved_from.ensures, c.moved_to.ensures, c.entered_by-self.ensures)
    (move-stands (values c.args.self.now) g.past c.args.who c.args.how c.args.p c.valid.ensures can c.requires.0 c.are_pages.ensures.three c.requires.1.0 c.requires.1.1.0)
