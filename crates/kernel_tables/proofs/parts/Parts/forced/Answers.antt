use Rattle.std.proofs.Common.{◌≡◌, Some, None, refl, sym, ◌∙◌}
use Rattle.kern_ids.specs.declared.calls.Call.TheVariants.{Forced}
use Rattle.kern_ids.specs.declared.replies.Reply.TheVariants.{Nothing}
use Rattle.kernel_tables.specs.Values.{values}
use Rattle.kernel_tables.proofs.AskLemmas.{asked-stands}
use Rattle.kernel_tables.proofs.Choices.{forced-is}
use Rattle.kernel_tables.proofs.PurgeSteps.{forced-answer}
use Rattle.kernel_tables.proofs.parts.Parts.forced.Goals as goal

pub take_forced-requires : goal.take_forced-requires
take_forced-requires g c = (c.requires.0, forced-is (values c.args.self.now) g.past c.requires.0 ∙ sym c.in-Some.ensures.object)

pub returns-in-Some-clause-reply : goal.returns-in-Some-clause-reply
returns-in-Some-clause-reply g c = forced-answer c.args.self.now.boot g.past c.args.who (Some c.in-Some.o) (forced-is (values c.args.self.now) g.past c.requires.0 ∙ sym c.in-Some.ensures.object) c.requires.1.1

pub returns-in-Some-clause-stands : goal.returns-in-Some-clause-stands
returns-in-Some-clause-stands g c =
    let s = c.requires.0 in
    c.take_forced.ensures.stands c.args.who (c.requires.1.0, forced-answer c.args.self.now.boot g.past c.args.who (Some c.in-Some.o) (forced-is (values c.args.self.now) g.past s ∙ sym c.in-Some.ensures.object) c.requires.1.1, s.legal)

pub returns-in-None-clause-reply : goal.returns-in-None-clause-reply
returns-in-None-clause-reply g c = forced-answer c.args.self.now.boot g.past c.args.who None (forced-is (values c.args.self.now) g.past c.requires.0 ∙ sym c.in-None.ensures.object) c.requires.1.1

pub returns-in-None-clause-stands : goal.returns-in-None-clause-stands
returns-in-None-clause-stands g c =
    asked-stands (values c.args.self.now) g.past c.args.who Forced Nothing c.requires.1.0
    (forced-answer c.args.self.now.boot g.past c.args.who None (forced-is (values c.args.self.now) g.past c.requires.0 ∙ sym c.in-None.ensures.object) c.requires.1.1)
    refl c.requires.0
