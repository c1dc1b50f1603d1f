-- What jetsam replies, by its verdict.
use Rattle.kern_ids.specs.declared.replies.Reply.{Reply}
use Rattle.kern_ids.specs.declared.replies.Reply.TheVariants.{Killed, Quiet as told_quiet, NoVictim as told_none}
use Rattle.jetsam_pick.specs.declared.verdict.JetsamVerdict.{JetsamVerdict}
use Rattle.jetsam_pick.specs.declared.verdict.JetsamVerdict.TheVariants.{Quiet, Kill, NoVictim}

abbrev pub reply_of : JetsamVerdict → Reply
reply_of Quiet = told_quiet
reply_of (Kill t cause) = Killed t cause
reply_of NoVictim = told_none
