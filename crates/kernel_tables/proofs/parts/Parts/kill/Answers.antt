use Rattle.std.proofs.Common.{sym}
use Rattle.kernel_model.specs.Laws.Kinds.{killed_entry}
use Rattle.kernel_tables.proofs.EndEntries.{kill-ends, live-declared}
use Rattle.kernel_tables.proofs.parts.Parts.kill.Goals as goal

pub end-requires : goal.end-requires
end-requires g c = (c.requires.0, live-declared c.args.self.now.boot g.past c.args.self.now.tasks.ledgers c.args.t c.requires.0.accounts c.requires.1.1.1)

pub returns-clause-stands : goal.returns-clause-stands
returns-clause-stands g c =
    c.end.ensures.stands (killed_entry c.args.who c.args.t c.args.cause) (kill-ends c.args.self.now.boot c.args.who c.args.t c.args.cause g.past)
    (c.requires.1.0, sym c.requires.1.1.0, c.requires.0.legal)
