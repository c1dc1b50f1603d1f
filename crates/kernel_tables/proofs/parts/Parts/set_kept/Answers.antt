use Rattle.kernel_tables.specs.Values.{values}
use Rattle.kernel_tables.proofs.ObjectCharges.{framed-few, stored-few, table-relief}
use Rattle.kernel_tables.proofs.SetState.{set-inside, set-found, set-is_mapped, set-reply, set-from, set-token, set-stands, set-few, set-obsolete, set-apart, set-room, set-kept, set-burden, set-done}
use Rattle.kernel_tables.proofs.parts.Parts.set_kept.Goals as goal

pub charge-before-requires-clause-framed : goal.charge-before-requires-clause-framed
charge-before-requires-clause-framed g c = framed-few (values c.args.self.now) g.past c.requires.0 c.args.o (set-inside (values c.args.self.now) g.past c.args.who c.args.o c.args.word c.args.wish c.valid.ensures c.requires.0 c.requires.1.0 c.requires.1.1.0 c.requires.1.1.1.0) c.valid.ensures

pub charge-before-requires-clause-stored : goal.charge-before-requires-clause-stored
charge-before-requires-clause-stored g c = stored-few (values c.args.self.now) g.past c.requires.0 c.args.o (set-inside (values c.args.self.now) g.past c.args.who c.args.o c.args.word c.args.wish c.valid.ensures c.requires.0 c.requires.1.0 c.requires.1.1.0 c.requires.1.1.1.0) c.valid.ensures

pub relieve-requires-clause-task : goal.relieve-requires-clause-task
relieve-requires-clause-task g c t is = (table-relief (values c.args.self.now) g.past c.requires.0 c.args.o (set-inside (values c.args.self.now) g.past c.args.who c.args.o c.args.word c.args.wish c.valid.ensures c.requires.0 c.requires.1.0 c.requires.1.1.0 c.requires.1.1.1.0) c.valid.ensures (set-found (values c.args.self.now) g.past c.args.who c.args.o c.args.word c.args.wish c.valid.ensures c.requires.0 c.requires.1.0 c.requires.1.1.0 c.requires.1.1.1.0) c.owner-owner.result c.charge-before.result c.owner-owner.ensures.owner c.charge-before.ensures.value t is).0

pub relieve-requires-clause-charged : goal.relieve-requires-clause-charged
relieve-requires-clause-charged g c t is = (table-relief (values c.args.self.now) g.past c.requires.0 c.args.o (set-inside (values c.args.self.now) g.past c.args.who c.args.o c.args.word c.args.wish c.valid.ensures c.requires.0 c.requires.1.0 c.requires.1.1.0 c.requires.1.1.1.0) c.valid.ensures (set-found (values c.args.self.now) g.past c.args.who c.args.o c.args.word c.args.wish c.valid.ensures c.requires.0 c.requires.1.0 c.requires.1.1.0 c.requires.1.1.1.0) c.owner-owner.result c.charge-before.result c.owner-owner.ensures.owner c.charge-before.ensures.value t is).1

pub set_state-done-requires-clause-mapped : goal.set_state-done-requires-clause-mapped
set_state-done-requires-clause-mapped g c = set-is_mapped (values c.args.self.now) g.past c.args.who c.args.o c.args.word c.args.wish c.valid.ensures c.requires.0 c.requires.1.0 c.requires.1.1.0 c.requires.1.1.1.0

pub set_state-done-requires-clause-from : goal.set_state-done-requires-clause-from
set_state-done-requires-clause-from g c = set-from (values c.args.self.now) g.past c.args.who c.args.o c.args.word c.args.wish c.valid.ensures c.requires.0 c.requires.1.0 c.requires.1.1.0 c.requires.1.1.1.0 c.are_groups.ensures c.queue_of-from.result c.queue_of-from.ensures

pub leave_group-requires : goal.leave_group-requires
leave_group-requires g c = set-stands (values c.args.self.now) g.past c.args.who c.args.o c.args.word c.args.wish c.valid.ensures c.requires.0 c.requires.1.0 c.requires.1.1.0 c.requires.1.1.1.0 c.are_groups.ensures c.queue_of-from.result c.queue_of-from.ensures c.set_state-done.result c.set_state-done.ensures.answer

pub enter_group-requires-clause-absent : goal.enter_group-requires-clause-absent
enter_group-requires-clause-absent g c = set-apart (values c.args.self.now) g.past c.args.who c.args.o c.args.word c.args.wish c.valid.ensures c.requires.0 c.requires.1.0 c.requires.1.1.0 c.requires.1.1.1.0 c.are_groups.ensures c.queue_of-from.result c.queue_of-from.ensures c.set_state-done.result c.set_state-done.ensures.answer c.leave_group.new.groups c.leave_group.ensures

pub enter_group-requires-clause-group : goal.enter_group-requires-clause-group
enter_group-requires-clause-group g c = set-few (values c.args.self.now) g.past c.args.who c.args.o c.args.word c.args.wish c.valid.ensures c.requires.0 c.requires.1.0 c.requires.1.1.0 c.requires.1.1.1.0 c.are_groups.ensures c.queue_of-from.result c.queue_of-from.ensures c.set_state-done.result c.set_state-done.ensures.answer

pub enter_group-requires-clause-obsolete : goal.enter_group-requires-clause-obsolete
enter_group-requires-clause-obsolete g c = set-obsolete (values c.args.self.now) g.past c.args.who c.args.o c.args.word c.args.wish c.valid.ensures c.requires.0 c.requires.1.0 c.requires.1.1.0 c.requires.1.1.1.0 c.are_groups.ensures c.queue_of-from.result c.queue_of-from.ensures c.set_state-done.result c.set_state-done.ensures.answer

pub take_token-requires : goal.take_token-requires
take_token-requires g c = set-token (values c.args.self.now) g.past c.args.who c.args.o c.args.word c.args.wish c.valid.ensures c.requires.0 c.requires.1.0 c.requires.1.1.0 c.requires.1.1.1.0 c.are_groups.ensures c.queue_of-from.result c.queue_of-from.ensures

pub add_token-requires : goal.add_token-requires
add_token-requires g c = set-room (values c.args.self.now) g.past c.args.who c.args.o c.args.word c.args.wish c.valid.ensures c.requires.0 c.requires.1.0 c.requires.1.1.0 c.requires.1.1.1.0 c.are_groups.ensures c.queue_of-from.result c.queue_of-from.ensures c.set_state-done.result c.set_state-done.ensures.answer c.take_token.new.tokens c.take_token.ensures

pub charge-after-requires-clause-object : goal.charge-after-requires-clause-object
charge-after-requires-clause-object g c = set-kept (values c.args.self.now) g.past c.args.who c.args.o c.args.word c.args.wish c.valid.ensures c.requires.0 c.requires.1.0 c.requires.1.1.0 c.requires.1.1.1.0 c.are_groups.ensures c.queue_of-from.result c.queue_of-from.ensures c.set_state-done.result c.set_state-done.ensures.answer c.requires.1.1.1.1 c.set_state-done.new.self c.set_state-done.ensures.objects

pub charge-after-requires-clause-framed : goal.charge-after-requires-clause-framed
charge-after-requires-clause-framed g c = framed-few (values c.args.self.now) g.past c.requires.0 c.args.o (set-inside (values c.args.self.now) g.past c.args.who c.args.o c.args.word c.args.wish c.valid.ensures c.requires.0 c.requires.1.0 c.requires.1.1.0 c.requires.1.1.1.0) c.valid.ensures

pub charge-after-requires-clause-stored : goal.charge-after-requires-clause-stored
charge-after-requires-clause-stored g c = stored-few (values c.args.self.now) g.past c.requires.0 c.args.o (set-inside (values c.args.self.now) g.past c.args.who c.args.o c.args.word c.args.wish c.valid.ensures c.requires.0 c.requires.1.0 c.requires.1.1.0 c.requires.1.1.1.0) c.valid.ensures

pub burden-requires-clause-task : goal.burden-requires-clause-task
burden-requires-clause-task g c u is = (set-burden (values c.args.self.now) g.past c.args.who c.args.o c.args.word c.args.wish c.valid.ensures c.requires.0 c.requires.1.0 c.requires.1.1.0 c.requires.1.1.1.0 c.are_groups.ensures c.queue_of-from.result c.queue_of-from.ensures c.set_state-done.result c.set_state-done.ensures.answer c.requires.1.1.1.1 c.set_state-done.new.self c.set_state-done.ensures.objects c.owner-owner.result c.owner-still.result c.charge-before.result c.charge-after.result c.relieve.new.ledgers c.owner-owner.ensures.owner c.charge-before.ensures.value c.charge-after.ensures.value c.relieve.ensures c.owner-still.ensures.owner u is).0

pub burden-requires-clause-within : goal.burden-requires-clause-within
burden-requires-clause-within g c u is = (set-burden (values c.args.self.now) g.past c.args.who c.args.o c.args.word c.args.wish c.valid.ensures c.requires.0 c.requires.1.0 c.requires.1.1.0 c.requires.1.1.1.0 c.are_groups.ensures c.queue_of-from.result c.queue_of-from.ensures c.set_state-done.result c.set_state-done.ensures.answer c.requires.1.1.1.1 c.set_state-done.new.self c.set_state-done.ensures.objects c.owner-owner.result c.owner-still.result c.charge-before.result c.charge-after.result c.relieve.new.ledgers c.owner-owner.ensures.owner c.charge-before.ensures.value c.charge-after.ensures.value c.relieve.ensures c.owner-still.ensures.owner u is).1

pub returns-clause-reply : goal.returns-clause-reply
returns-clause-reply g c = set-reply (values c.args.self.now) g.past c.args.who c.args.o c.args.word c.args.wish c.valid.ensures c.requires.0 c.requires.1.0 c.requires.1.1.0 c.requires.1.1.1.0 c.set_state-done.result.old c.set_state-done.ensures.old

pub returns-clause-stands : goal.returns-clause-stands
returns-clause-stands g c = set-done (values c.args.self.now) g.past c.args.who c.args.o c.args.word c.args.wish c.valid.ensures c.requires.0 c.requires.1.0 c.requires.1.1.0 c.requires.1.1.1.0 c.are_groups.ensures c.queue_of-from.result c.queue_of-from.ensures c.set_state-done.result c.set_state-done.ensures.answer c.requires.1.1.1.1 c.set_state-done.new.self c.set_state-done.ensures.objects c.owner-owner.result c.owner-still.result c.charge-before.result c.charge-after.result c.relieve.new.ledgers c.owner-owner.ensures.owner c.charge-before.ensures.value c.charge-after.ensures.value c.relieve.ensures c.owner-still.ensures.owner c.set_state-done.result.old c.set_state-done.ensures.old c.leave_group.new.groups c.enter_group.new.groups c.leave_group.ensures c.enter_group.ensures c.take_token.new.tokens c.add_token.new.tokens c.take_token.ensures c.add_token.ensures c.burden.new.ledgers c.burden.ensures
