use Rattle.std.proofs.Common.{sym, ◌∙◌}
use Rattle.kernel_model.specs.Laws.Kinds.{exit_entry}
use Rattle.kernel_tables.proofs.EndEntries.{exit-ends, exit-reply}
use Rattle.kernel_tables.proofs.Objects.{task-declared}
use Rattle.kernel_tables.proofs.parts.Parts.exit.Goals as goal

pub end-requires : goal.end-requires
end-requires g c = (c.requires.0, task-declared c.args.self.now.boot c.args.who c.unwrap-t.result c.valid.ensures (sym c.task_of.ensures ∙ c.unwrap-t.ensures))

pub returns-clause-reply : goal.returns-clause-reply
returns-clause-reply g c = exit-reply c.args.self.now.boot g.past c.args.who c.requires.1.1

pub returns-clause-stands : goal.returns-clause-stands
returns-clause-stands g c =
    c.end.ensures.stands (exit_entry c.args.who) (exit-ends c.args.self.now.boot c.args.who c.unwrap-t.result g.past (sym c.task_of.ensures ∙ c.unwrap-t.ensures))
    (c.requires.1.0, exit-reply c.args.self.now.boot g.past c.args.who c.requires.1.1, c.requires.0.legal)
