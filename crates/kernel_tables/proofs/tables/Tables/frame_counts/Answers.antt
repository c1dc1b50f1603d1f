use Rattle.std.proofs.Common.{◌≡◌, subst}
use Rattle.kern_ids.specs.declared.replies.Reply.TheVariants.{Frames}
use Rattle.kernel_model.specs.Answers.{frames_reply}
use Rattle.kernel_tables.specs.Values.{TableValues}
use Rattle.kernel_tables.proofs.tables.Tables.frame_counts.Goals as goal

pub returns : goal.returns
returns g c = subst (λ (v : TableValues). Frames c.frame_counts.result ≡ frames_reply v.boot g.past) c.self.view_is c.frame_counts.ensures
