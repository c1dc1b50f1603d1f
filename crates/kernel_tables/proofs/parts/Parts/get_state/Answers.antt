use Rattle.kernel_tables.specs.Values.{values}
use Rattle.kernel_tables.proofs.AskLemmas.{state-is, state-stands, state-asks}
use Rattle.kernel_tables.proofs.parts.Parts.get_state.Goals as goal

pub state-requires : goal.state-requires
state-requires g c = (c.requires.0, state-asks c.args.self.now.boot g.past c.args.who c.args.o c.valid.ensures c.requires.1.0 c.requires.1.1)

pub returns-clause-reply : goal.returns-clause-reply
returns-clause-reply g c = state-is c.args.self.now.boot g.past c.args.who c.args.o c.state.result c.requires.1.1 c.state.ensures

pub returns-clause-stands : goal.returns-clause-stands
returns-clause-stands g c =
    state-stands (values c.args.self.now) g.past c.args.who c.args.o c.state.result c.requires.1.0
    (state-is c.args.self.now.boot g.past c.args.who c.args.o c.state.result c.requires.1.1 c.state.ensures) c.requires.0
