use Rattle.std.proofs.Common.{◌∙◌, ap, sym}
use Rattle.kernel_model.specs.Turns.{serial}
use Rattle.commands.specs.declared.command.Making.{Making}
use Rattle.commands.specs.Outcome.{made_outcome}
use Rattle.commands.proofs.Due.{counted}
use Rattle.commands.proofs.decide.answer_made.Goals as goal

pub returns-in_ok-history-in-Trial : goal.returns-in_ok-history-in-Trial
returns-in_ok-history-in-Trial c =
    ap counted (c.in_ok-history-in-Trial.ensures.serial ∙ ap serial c.in_ok-scenario.ensures) ∙ sym (ap (λ (m : Making). made_outcome m c.args.seed c.args.n) c.in-Trial.is)
