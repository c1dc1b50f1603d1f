use Rattle.std.proofs.Common.{List, sym, ◌∙◌, subst, true, false}
use Rattle.kern_ids.specs.declared.entries.Entry.{Entry}
use Rattle.kernel_tables.specs.Ends.{StandsOver, parted, thread_of}
use Rattle.kernel_tables.specs.Values.{values}
use Rattle.kernel_tables.proofs.Parting.{mapper-thread, parted-more}
use Rattle.kernel_tables.proofs.parts.Parts.leave_if.Goals as goal

pub leave-requires : goal.leave-requires
leave-requires g c =
    let own = sym (c.requires.0.objects.mappers c.args.o c.args.t c.requires.1) ∙ sym c.maps.ensures ∙ c.if-maps.true in
    (c.requires.0, (c.requires.1, own))

pub returns-then-maps-clause-over : goal.returns-then-maps-clause-over
returns-then-maps-clause-over g c =
    let own = sym (c.requires.0.objects.mappers c.args.o c.args.t c.requires.1) ∙ sym c.maps.ensures ∙ c.if-maps.true in
    let by = mapper-thread c.args.self.now.boot (parted c.args.self.now.boot g.past c.args.t c.args.o) c.args.o c.args.t own in
    subst (λ (h : List Entry). StandsOver (values c.leave.new.self) h) (sym (parted-more c.args.self.now.boot g.past c.args.t c.args.o true own)) (c.leave.ensures.over (thread_of c.args.self.now.boot c.args.t) by)

pub returns-else-maps-clause-over : goal.returns-else-maps-clause-over
returns-else-maps-clause-over g c =
    let other = sym (c.requires.0.objects.mappers c.args.o c.args.t c.requires.1) ∙ sym c.maps.ensures ∙ c.if-maps.false in
    subst (λ (h : List Entry). StandsOver (values c.args.self.now) h) (sym (parted-more c.args.self.now.boot g.past c.args.t c.args.o false other)) c.requires.0
