use Rattle.std.proofs.Common.{ap, ◌∙◌}
use Rattle.token_list.specs.Dues.{put_due}
use Rattle.token_list.proofs.CallLemmas.{put_due-ahead, view-ahead}
use Rattle.token_list.proofs.TokenList.add.Goals as goal

pub returns-clause-dues : goal.returns-clause-dues
returns-clause-dues c =
    c.insert-2.ensures.dues
    ∙ ap (λ x. put_due x c.args.self.now.dues) (view-ahead c.insert.inside c.args.self.now c.insert.view_is)
    ∙ put_due-ahead c.insert.inside c.args.self.now c.insert.invariant c.insert.view_is
