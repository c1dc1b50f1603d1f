use Rattle.std.proofs.Common.{sym}
use Rattle.kern_ids.specs.declared.replies.Reply.TheVariants.{Killed}
use Rattle.kernel_tables.proofs.VerdictCall.{jetsam-reply}
use Rattle.kernel_tables.proofs.parts.Parts.jetsam.Goals as goal

pub kill-requires : goal.kill-requires
kill-requires g c =
    let told = c.in-Kill.ensures in
    (c.requires.0, (c.requires.1.0, (sym (jetsam-reply c.args.self.now.boot g.past c.args.who (Killed c.in-Kill.t c.in-Kill.cause) c.requires.1.1 told.reply), told.live)))
