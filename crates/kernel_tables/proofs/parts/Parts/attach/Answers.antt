use Rattle.std.proofs.Common.{sym, ◌∙◌}
use Rattle.kernel_tables.specs.Values.{values}
use Rattle.kernel_tables.proofs.AttachCall.{attach-inside, attach-found, attach-mapped, attach-shares, attach-other, attach-reply, attach-burden, attach-done}
use Rattle.kernel_tables.proofs.ObjectCharges.{framed-few, stored-few, table-relief}
use Rattle.kernel_tables.proofs.parts.Parts.attach.Goals as goal

pub charge-charge-requires-clause-framed : goal.charge-charge-requires-clause-framed
charge-charge-requires-clause-framed g c =
    let at = attach-inside (values c.args.self.now) g.past c.args.who c.args.o c.unwrap-t.result c.valid.ensures c.requires.0 c.requires.1.0 c.requires.1.1 (sym c.task_of.ensures ∙ c.unwrap-t.ensures) in
    framed-few (values c.args.self.now) g.past c.requires.0 c.args.o at c.valid.ensures

pub charge-charge-requires-clause-stored : goal.charge-charge-requires-clause-stored
charge-charge-requires-clause-stored g c =
    let at = attach-inside (values c.args.self.now) g.past c.args.who c.args.o c.unwrap-t.result c.valid.ensures c.requires.0 c.requires.1.0 c.requires.1.1 (sym c.task_of.ensures ∙ c.unwrap-t.ensures) in
    stored-few (values c.args.self.now) g.past c.requires.0 c.args.o at c.valid.ensures

pub relieve-requires-clause-task : goal.relieve-requires-clause-task
relieve-requires-clause-task g c t is =
    let at = attach-inside (values c.args.self.now) g.past c.args.who c.args.o c.unwrap-t.result c.valid.ensures c.requires.0 c.requires.1.0 c.requires.1.1 (sym c.task_of.ensures ∙ c.unwrap-t.ensures) in
    let found = attach-found (values c.args.self.now) g.past c.args.who c.args.o c.unwrap-t.result c.valid.ensures c.requires.0 c.requires.1.0 c.requires.1.1 (sym c.task_of.ensures ∙ c.unwrap-t.ensures) in
    (table-relief (values c.args.self.now) g.past c.requires.0 c.args.o at c.valid.ensures found c.owner-before.result c.charge-charge.result c.owner-before.ensures.owner c.charge-charge.ensures.value t is).0

pub relieve-requires-clause-charged : goal.relieve-requires-clause-charged
relieve-requires-clause-charged g c t is =
    let at = attach-inside (values c.args.self.now) g.past c.args.who c.args.o c.unwrap-t.result c.valid.ensures c.requires.0 c.requires.1.0 c.requires.1.1 (sym c.task_of.ensures ∙ c.unwrap-t.ensures) in
    let found = attach-found (values c.args.self.now) g.past c.args.who c.args.o c.unwrap-t.result c.valid.ensures c.requires.0 c.requires.1.0 c.requires.1.1 (sym c.task_of.ensures ∙ c.unwrap-t.ensures) in
    (table-relief (values c.args.self.now) g.past c.requires.0 c.args.o at c.valid.ensures found c.owner-before.result c.charge-charge.result c.owner-before.ensures.owner c.charge-charge.ensures.value t is).1

pub attach-requires-clause-mapped : goal.attach-requires-clause-mapped
attach-requires-clause-mapped g c =
    attach-mapped (values c.args.self.now) g.past c.args.who c.args.o c.unwrap-t.result c.valid.ensures c.requires.0 c.requires.1.0 c.requires.1.1 (sym c.task_of.ensures ∙ c.unwrap-t.ensures)

pub attach-requires-clause-shares : goal.attach-requires-clause-shares
attach-requires-clause-shares g c =
    attach-shares (values c.args.self.now) g.past c.args.who c.args.o c.unwrap-t.result c.valid.ensures c.requires.0 c.requires.1.0 c.requires.1.1 (sym c.task_of.ensures ∙ c.unwrap-t.ensures)

pub attach-requires-clause-other : goal.attach-requires-clause-other
attach-requires-clause-other g c =
    attach-other (values c.args.self.now) g.past c.args.who c.args.o c.unwrap-t.result c.valid.ensures c.requires.0 c.requires.1.0 c.requires.1.1 (sym c.task_of.ensures ∙ c.unwrap-t.ensures)

pub burden-requires-clause-task : goal.burden-requires-clause-task
burden-requires-clause-task g c u is =
    (attach-burden (values c.args.self.now) g.past c.args.who c.args.o c.unwrap-t.result c.valid.ensures c.requires.0 c.requires.1.0 c.requires.1.1 (sym c.task_of.ensures ∙ c.unwrap-t.ensures) c.is_object.ensures.mapping c.owner-before.result c.owner-after.result c.charge-charge.result c.attach.new.self c.relieve.new.ledgers c.owner-before.ensures.owner c.charge-charge.ensures.value c.attach.ensures c.relieve.ensures c.owner-after.ensures.owner u is).0

pub burden-requires-clause-within : goal.burden-requires-clause-within
burden-requires-clause-within g c u is =
    (attach-burden (values c.args.self.now) g.past c.args.who c.args.o c.unwrap-t.result c.valid.ensures c.requires.0 c.requires.1.0 c.requires.1.1 (sym c.task_of.ensures ∙ c.unwrap-t.ensures) c.is_object.ensures.mapping c.owner-before.result c.owner-after.result c.charge-charge.result c.attach.new.self c.relieve.new.ledgers c.owner-before.ensures.owner c.charge-charge.ensures.value c.attach.ensures c.relieve.ensures c.owner-after.ensures.owner u is).1

pub returns-clause-reply : goal.returns-clause-reply
returns-clause-reply g c =
    attach-reply (values c.args.self.now) g.past c.args.who c.args.o c.unwrap-t.result c.valid.ensures c.requires.0 c.requires.1.0 c.requires.1.1 (sym c.task_of.ensures ∙ c.unwrap-t.ensures)

pub returns-clause-stands : goal.returns-clause-stands
returns-clause-stands g c =
    attach-done (values c.args.self.now) g.past c.args.who c.args.o c.unwrap-t.result c.valid.ensures c.requires.0 c.requires.1.0 c.requires.1.1 (sym c.task_of.ensures ∙ c.unwrap-t.ensures) c.is_object.ensures.mapping c.owner-before.result c.owner-after.result c.charge-charge.result c.attach.new.self c.relieve.new.ledgers c.owner-before.ensures.owner c.charge-charge.ensures.value c.attach.ensures c.relieve.ensures c.owner-after.ensures.owner c.burden.new.ledgers c.burden.ensures
