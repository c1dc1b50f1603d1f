use Rattle.std.proofs.Common.{◌≡◌, subst}
use Rattle.kern_ids.specs.declared.replies.Reply.TheVariants.{Tokens}
use Rattle.kernel_model.specs.Answers.{tokens_reply}
use Rattle.kernel_tables.specs.Values.{TableValues}
use Rattle.kernel_tables.proofs.tables.Tables.token_counts.Goals as goal

pub returns : goal.returns
returns g c = subst (λ (v : TableValues). Tokens c.token_counts.result ≡ tokens_reply v.boot g.past) c.self.view_is c.token_counts.ensures
