use Rattle.commands.proofs.Headline.{headline-at}
use Rattle.commands.proofs.program.jetlab_top.Goals as goal

pub returns-then-asks_run-clause-headline : goal.returns-then-asks_run-clause-headline
returns-then-asks_run-clause-headline g c = λ asks zero.
    headline-at (g.S.Source.left c.args.source.now) (g.S.Source.left c.run_command.new.source) (g.K.Sink.held c.args.sink.now) (g.K.Sink.held c.run_command.new.sink)
    c.run_command.result zero c.run_command.ensures.outcome
