use Rattle.std.proofs.Common.{refl, sym, ap, ◌∙◌}
use Rattle.kern_ids.specs.declared.calls.Call.TheVariants.{Scan}
use Rattle.kern_ids.specs.declared.replies.Reply.TheVariants.{Idle}
use Rattle.kernel_tables.specs.Values.{values}
use Rattle.kernel_tables.specs.Moves.{reply_moved}
use Rattle.kernel_tables.proofs.Accepted.{accepted-answer}
use Rattle.kernel_tables.proofs.AskLemmas.{asked-stands}
use Rattle.kernel_tables.proofs.parts.Parts.scan_first.Goals as goal

pub scan_move-requires : goal.scan_move-requires
scan_move-requires g c = (c.requires.0, (c.requires.1.0, (accepted-answer c.args.self.now.boot g.past c.args.who Scan c.requires.1.1.0 ∙ c.requires.1.1.1.0 ∙ ap (reply_moved c.args.how) c.in-Some.is, c.requires.1.1.1.1)))

pub returns-in-None-clause-reply : goal.returns-in-None-clause-reply
returns-in-None-clause-reply g c = sym (accepted-answer c.args.self.now.boot g.past c.args.who Scan c.requires.1.1.0 ∙ c.requires.1.1.1.0 ∙ ap (reply_moved c.args.how) c.in-None.is)

pub returns-in-None-clause-stands : goal.returns-in-None-clause-stands
returns-in-None-clause-stands g c =
    asked-stands (values c.args.self.now) g.past c.args.who Scan Idle c.requires.1.0
    (sym (accepted-answer c.args.self.now.boot g.past c.args.who Scan c.requires.1.1.0 ∙ c.requires.1.1.1.0 ∙ ap (reply_moved c.args.how) c.in-None.is)) refl c.requires.0
