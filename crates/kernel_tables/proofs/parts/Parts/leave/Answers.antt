use Rattle.kernel_tables.specs.Ends.{thread_of}
use Rattle.kernel_tables.specs.Values.{values}
use Rattle.kernel_tables.proofs.Parting.{mapper-thread}
use Rattle.kernel_tables.proofs.UnmapCall.{leave-framed, leave-stored, leave-relief, leave-burden, leave-present, leave-token, leave-ahead, leave-done}
use Rattle.kernel_tables.proofs.parts.Parts.leave.Goals as goal

pub charge-charge-requires-clause-framed : goal.charge-charge-requires-clause-framed
charge-charge-requires-clause-framed g c = leave-framed (values c.args.self.now) g.past (thread_of c.args.self.now.boot c.args.t) c.args.o c.args.t c.valid.ensures c.requires.0 (mapper-thread c.args.self.now.boot g.past c.args.o c.args.t c.requires.1.1) c.requires.1.0 c.requires.1.1

pub charge-charge-requires-clause-stored : goal.charge-charge-requires-clause-stored
charge-charge-requires-clause-stored g c = leave-stored (values c.args.self.now) g.past (thread_of c.args.self.now.boot c.args.t) c.args.o c.args.t c.valid.ensures c.requires.0 (mapper-thread c.args.self.now.boot g.past c.args.o c.args.t c.requires.1.1) c.requires.1.0 c.requires.1.1

pub relieve-requires-clause-task : goal.relieve-requires-clause-task
relieve-requires-clause-task g c u is = (leave-relief (values c.args.self.now) g.past (thread_of c.args.self.now.boot c.args.t) c.args.o c.args.t c.valid.ensures c.requires.0 (mapper-thread c.args.self.now.boot g.past c.args.o c.args.t c.requires.1.1) c.requires.1.0 c.requires.1.1 c.owner-before.result c.charge-charge.result c.owner-before.ensures.owner c.charge-charge.ensures.value u is).0

pub relieve-requires-clause-charged : goal.relieve-requires-clause-charged
relieve-requires-clause-charged g c u is = (leave-relief (values c.args.self.now) g.past (thread_of c.args.self.now.boot c.args.t) c.args.o c.args.t c.valid.ensures c.requires.0 (mapper-thread c.args.self.now.boot g.past c.args.o c.args.t c.requires.1.1) c.requires.1.0 c.requires.1.1 c.owner-before.result c.charge-charge.result c.owner-before.ensures.owner c.charge-charge.ensures.value u is).1

pub burden-requires-clause-task : goal.burden-requires-clause-task
burden-requires-clause-task g c u is =
    (leave-burden (values c.args.self.now) g.past (thread_of c.args.self.now.boot c.args.t) c.args.o c.args.t c.valid.ensures c.requires.0 (mapper-thread c.args.self.now.boot g.past c.args.o c.args.t c.requires.1.1) c.requires.1.0 c.requires.1.1 c.owner-before.result c.charge-charge.result c.owner-before.ensures.owner c.charge-charge.ensures.value
    c.is_object.ensures.mapping c.owner-after.result c.unmap-last.new.self c.relieve.new.ledgers c.unmap-last.ensures.objects c.relieve.ensures c.owner-after.ensures.owner u is).0

pub burden-requires-clause-within : goal.burden-requires-clause-within
burden-requires-clause-within g c u is =
    (leave-burden (values c.args.self.now) g.past (thread_of c.args.self.now.boot c.args.t) c.args.o c.args.t c.valid.ensures c.requires.0 (mapper-thread c.args.self.now.boot g.past c.args.o c.args.t c.requires.1.1) c.requires.1.0 c.requires.1.1 c.owner-before.result c.charge-charge.result c.owner-before.ensures.owner c.charge-charge.ensures.value
    c.is_object.ensures.mapping c.owner-after.result c.unmap-last.new.self c.relieve.new.ledgers c.unmap-last.ensures.objects c.relieve.ensures c.owner-after.ensures.owner u is).1

pub retire_if-requires-clause-present : goal.retire_if-requires-clause-present
retire_if-requires-clause-present g c h =
    leave-present (values c.args.self.now) g.past (thread_of c.args.self.now.boot c.args.t) c.args.o c.args.t c.valid.ensures c.requires.0 (mapper-thread c.args.self.now.boot g.past c.args.o c.args.t c.requires.1.1) c.requires.1.0 c.requires.1.1 c.owner-before.result c.charge-charge.result c.owner-before.ensures.owner c.charge-charge.ensures.value
    c.is_object.ensures.mapping c.owner-after.result c.unmap-last.new.self c.relieve.new.ledgers c.unmap-last.ensures.objects c.relieve.ensures c.owner-after.ensures.owner c.are_groups.ensures h

pub retire_if-requires-clause-token : goal.retire_if-requires-clause-token
retire_if-requires-clause-token g c q found = leave-token (values c.args.self.now) g.past (thread_of c.args.self.now.boot c.args.t) c.args.o c.args.t c.valid.ensures c.requires.0 (mapper-thread c.args.self.now.boot g.past c.args.o c.args.t c.requires.1.1) c.requires.1.0 c.requires.1.1 c.are_groups.ensures q found

pub retire_if-requires-clause-ahead : goal.retire_if-requires-clause-ahead
retire_if-requires-clause-ahead g c = leave-ahead (values c.args.self.now) g.past (thread_of c.args.self.now.boot c.args.t) c.args.o c.args.t c.valid.ensures c.requires.0 (mapper-thread c.args.self.now.boot g.past c.args.o c.args.t c.requires.1.1) c.requires.1.0 c.requires.1.1

pub returns-clause-over : goal.returns-clause-over
returns-clause-over g c = λ who by.
    let e = c.retire_if.ensures in
    leave-done (values c.args.self.now) g.past who c.args.o c.args.t c.valid.ensures c.requires.0 by c.requires.1.0 c.requires.1.1 c.owner-before.result c.charge-charge.result c.owner-before.ensures.owner c.charge-charge.ensures.value
    c.is_object.ensures.mapping c.owner-after.result c.unmap-last.new.self c.relieve.new.ledgers c.unmap-last.ensures.objects c.relieve.ensures c.owner-after.ensures.owner
    c.are_groups.ensures c.unmap-last.result _ _ _ _ c.burden.new.ledgers c.unmap-last.ensures.last e.table c.burden.ensures
    e.same_pages e.same_groups e.same_tokens e.frames e.sizes e.queues e.marks e.groups e.dues e.ahead
