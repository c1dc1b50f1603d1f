use Rattle.std.proofs.Common.{ap, ◌∙◌}
use Rattle.kern_ids.specs.declared.calls.Wish.TheVariants.{Empty as ask_empty}
use Rattle.kernel_model.specs.Groups.{is_volatile_state}
use Rattle.vm_object.specs.Objects.{object_at}
use Rattle.kernel_tables.specs.Values.{values}
use Rattle.kernel_tables.proofs.SetEmptied.{word-empties, emptied-stands, emptied-ahead, emptied-done}
use Rattle.kernel_tables.proofs.SetState.{set-inside, set-found, set-token, set-reply}
use Rattle.kernel_tables.proofs.parts.Parts.set_emptied.Goals as goal

pub leave_group-requires : goal.leave_group-requires
leave_group-requires g c = emptied-stands (values c.args.self.now) g.past c.args.who c.args.o c.args.word c.valid.ensures c.requires.0 c.requires.1.0 c.requires.1.1.0 (word-empties c.args.self.now.boot g.past c.args.who c.args.o c.args.word (object_at c.args.self.now.objects.table c.args.o).state c.requires.1.1.0 c.requires.1.1.1).0 (word-empties c.args.self.now.boot g.past c.args.who c.args.o c.args.word (object_at c.args.self.now.objects.table c.args.o).state c.requires.1.1.0 c.requires.1.1.1).1 c.are_groups.ensures c.queue_of-from.result c.queue_of-from.ensures c.is_volatile.result (c.is_volatile.ensures ∙ ap is_volatile_state c.state-state.ensures)

pub take_first-requires : goal.take_first-requires
take_first-requires g c = set-token (values c.args.self.now) g.past c.args.who c.args.o c.args.word ask_empty c.valid.ensures c.requires.0 c.requires.1.0 c.requires.1.1.0 (word-empties c.args.self.now.boot g.past c.args.who c.args.o c.args.word (object_at c.args.self.now.objects.table c.args.o).state c.requires.1.1.0 c.requires.1.1.1).0 c.are_groups.ensures c.queue_of-from.result c.queue_of-from.ensures

pub empty_object-requires : goal.empty_object-requires
empty_object-requires g c = let s = c.requires.0 in (s.pages, (emptied-ahead (values c.args.self.now) g.past c.args.who c.args.o c.args.word c.valid.ensures c.requires.0 c.requires.1.0 c.requires.1.1.0 (word-empties c.args.self.now.boot g.past c.args.who c.args.o c.args.word (object_at c.args.self.now.objects.table c.args.o).state c.requires.1.1.0 c.requires.1.1.1).0 (word-empties c.args.self.now.boot g.past c.args.who c.args.o c.args.word (object_at c.args.self.now.objects.table c.args.o).state c.requires.1.1.0 c.requires.1.1.1).1 c.are_groups.ensures c.queue_of-from.result c.queue_of-from.ensures c.is_volatile.result (c.is_volatile.ensures ∙ ap is_volatile_state c.state-state.ensures) c.take_first.new.tokens c.take_first.ensures, (s.objects, (s.accounts, (set-inside (values c.args.self.now) g.past c.args.who c.args.o c.args.word ask_empty c.valid.ensures c.requires.0 c.requires.1.0 c.requires.1.1.0 (word-empties c.args.self.now.boot g.past c.args.who c.args.o c.args.word (object_at c.args.self.now.objects.table c.args.o).state c.requires.1.1.0 c.requires.1.1.1).0, set-found (values c.args.self.now) g.past c.args.who c.args.o c.args.word ask_empty c.valid.ensures c.requires.0 c.requires.1.0 c.requires.1.1.0 (word-empties c.args.self.now.boot g.past c.args.who c.args.o c.args.word (object_at c.args.self.now.objects.table c.args.o).state c.requires.1.1.0 c.requires.1.1.1).0)))))

pub returns-clause-reply : goal.returns-clause-reply
returns-clause-reply g c = set-reply (values c.args.self.now) g.past c.args.who c.args.o c.args.word ask_empty c.valid.ensures c.requires.0 c.requires.1.0 c.requires.1.1.0 (word-empties c.args.self.now.boot g.past c.args.who c.args.o c.args.word (object_at c.args.self.now.objects.table c.args.o).state c.requires.1.1.0 c.requires.1.1.1).0 c.state-state.result c.state-state.ensures

pub returns-clause-stands : goal.returns-clause-stands
returns-clause-stands g c = emptied-done (values c.args.self.now) g.past c.args.who c.args.o c.args.word c.valid.ensures c.requires.0 c.requires.1.0 c.requires.1.1.0 (word-empties c.args.self.now.boot g.past c.args.who c.args.o c.args.word (object_at c.args.self.now.objects.table c.args.o).state c.requires.1.1.0 c.requires.1.1.1).0 (word-empties c.args.self.now.boot g.past c.args.who c.args.o c.args.word (object_at c.args.self.now.objects.table c.args.o).state c.requires.1.1.0 c.requires.1.1.1).1 c.are_groups.ensures c.queue_of-from.result c.queue_of-from.ensures c.is_volatile.result (c.is_volatile.ensures ∙ ap is_volatile_state c.state-state.ensures) c.take_first.new.tokens c.take_first.ensures _ c.leave_group.new.groups c.state-state.result c.state-state.ensures c.leave_group.ensures c.empty_object.ensures.boot c.empty_object.ensures.groups c.empty_object.ensures.bands c.empty_object.ensures.ages c.empty_object.ensures.wishes c.empty_object.ensures.entered c.empty_object.ensures.pages c.empty_object.ensures.ahead c.empty_object.ensures.dues c.empty_object.ensures.objects c.empty_object.ensures.accounts
