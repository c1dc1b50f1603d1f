use Rattle.std.proofs.Common.{refl, sym, ◌∙◌}
use Rattle.kern_ids.specs.declared.calls.Call.TheVariants.{Scan}
use Rattle.kern_ids.specs.declared.replies.Reply.TheVariants.{Enough, Idle}
use Rattle.kernel_tables.specs.Values.{values}
use Rattle.kernel_tables.proofs.Accepted.{accepted-answer}
use Rattle.kernel_tables.proofs.AskLemmas.{asked-stands}
use Rattle.kernel_tables.proofs.parts.Parts.scan.Goals as goal

pub returns-in-Enough-clause-reply : goal.returns-in-Enough-clause-reply
returns-in-Enough-clause-reply g c = c.in-Enough.ensures ∙ sym (accepted-answer c.args.self.now.boot g.past c.args.who Scan c.requires.1.1.0)

pub returns-in-Enough-clause-stands : goal.returns-in-Enough-clause-stands
returns-in-Enough-clause-stands g c =
    asked-stands (values c.args.self.now) g.past c.args.who Scan Enough c.requires.1.0
    (c.in-Enough.ensures ∙ sym (accepted-answer c.args.self.now.boot g.past c.args.who Scan c.requires.1.1.0)) refl c.requires.0

pub returns-in-Idle-clause-reply : goal.returns-in-Idle-clause-reply
returns-in-Idle-clause-reply g c = c.in-Idle.ensures ∙ sym (accepted-answer c.args.self.now.boot g.past c.args.who Scan c.requires.1.1.0)

pub returns-in-Idle-clause-stands : goal.returns-in-Idle-clause-stands
returns-in-Idle-clause-stands g c =
    asked-stands (values c.args.self.now) g.past c.args.who Scan Idle c.requires.1.0
    (c.in-Idle.ensures ∙ sym (accepted-answer c.args.self.now.boot g.past c.args.who Scan c.requires.1.1.0)) refl c.requires.0
