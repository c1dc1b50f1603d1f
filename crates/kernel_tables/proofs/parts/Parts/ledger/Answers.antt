use Rattle.kernel_tables.specs.Values.{values}
use Rattle.kernel_tables.proofs.AskLemmas.{ledger-asks, ledger-is, ledger-stands}
use Rattle.kernel_tables.proofs.parts.Parts.ledger.Goals as goal

pub counts-requires : goal.counts-requires
counts-requires g c = record { task = rw (c.caller.ensures) (ledger-asks (values c.args.self.now) g.past c.args.who c.valid.ensures c.requires.1.0 c.requires.0) }

pub returns-clause-reply : goal.returns-clause-reply
returns-clause-reply g c =
    ledger-is (values c.args.self.now) g.past c.args.who c.counts.result c.valid.ensures c.requires.1.0 c.requires.1.1 c.requires.0 (rw (← c.caller.ensures) c.counts.ensures.value)

pub returns-clause-stands : goal.returns-clause-stands
returns-clause-stands g c =
    ledger-stands (values c.args.self.now) g.past c.args.who c.counts.result c.requires.1.0
    (ledger-is (values c.args.self.now) g.past c.args.who c.counts.result c.valid.ensures c.requires.1.0 c.requires.1.1 c.requires.0 (rw (← c.caller.ensures) c.counts.ensures.value))
    c.requires.0
