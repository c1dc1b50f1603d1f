use Rattle.std.proofs.Common.{sym, ◌∙◌}
use Rattle.kernel_tables.specs.Values.{values}
use Rattle.kernel_tables.proofs.UnmapCall.{unmap-inside, unmap-own, unmap-reply, unmap-done, stands-over}
use Rattle.kernel_tables.proofs.parts.Parts.unmap.Goals as goal

pub leave-requires : goal.leave-requires
leave-requires g c =
    let by = sym c.task_of.ensures ∙ c.unwrap-t.ensures in (
      stands-over (values c.args.self.now) g.past c.valid.ensures c.requires.0,
      (
        unmap-inside (values c.args.self.now) g.past c.args.who c.args.o c.unwrap-t.result c.valid.ensures c.requires.0 c.requires.1.0 c.requires.1.1 by,
        unmap-own (values c.args.self.now) g.past c.args.who c.args.o c.unwrap-t.result c.valid.ensures c.requires.0 c.requires.1.0 c.requires.1.1 by,
      ),
    )

pub returns-clause-reply : goal.returns-clause-reply
returns-clause-reply g c =
    unmap-reply (values c.args.self.now) g.past c.args.who c.args.o c.unwrap-t.result c.valid.ensures c.requires.0 c.requires.1.0 c.requires.1.1 (sym c.task_of.ensures ∙ c.unwrap-t.ensures)

pub returns-clause-stands : goal.returns-clause-stands
returns-clause-stands g c =
    let by = sym c.task_of.ensures ∙ c.unwrap-t.ensures in
    unmap-done (values c.args.self.now) g.past c.args.who c.args.o c.unwrap-t.result c.valid.ensures c.requires.0 c.requires.1.0 c.requires.1.1 by
    (values c.leave.new.self) c.leave.ensures.boot c.leave.ensures.bands c.leave.ensures.ages c.leave.ensures.wishes (c.leave.ensures.over c.args.who by)
