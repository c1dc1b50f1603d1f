use Rattle.std.proofs.Common.{◌≡◌, ◌∷◌, Some, None, refl, sym, ◌∙◌, subst}
use Rattle.kern_ids.specs.declared.calls.Call.TheVariants.{PurgeOne}
use Rattle.kern_ids.specs.declared.replies.Reply.{Reply}
use Rattle.kern_ids.specs.declared.replies.Reply.TheVariants.{Nothing}
use Rattle.kernel_tables.specs.Values.{values, entry_of}
use Rattle.kernel_tables.specs.Stands.{Stands}
use Rattle.kernel_tables.proofs.AskLemmas.{asked-stands}
use Rattle.kernel_tables.proofs.PurgeSteps.{one-answer}
use Rattle.kernel_tables.proofs.parts.Parts.purge_one.Goals as goal

pub take_picked-requires : goal.take_picked-requires
take_picked-requires g c = (c.requires.0, c.in-Some.ensures.picked)

pub returns-in-Some-clause-reply : goal.returns-in-Some-clause-reply
returns-in-Some-clause-reply g c = c.take_picked.ensures.reply ∙ one-answer c.args.self.now.boot g.past c.args.who (Some c.in-Some.p.obj) (sym c.in-Some.ensures.object) c.requires.1.1

pub returns-in-Some-clause-stands : goal.returns-in-Some-clause-stands
returns-in-Some-clause-stands g c =
    let s = c.requires.0 in
    subst (λ (r : Reply). Stands (values c.take_picked.new.self) (entry_of c.args.who PurgeOne r ∷ g.past)) (sym c.take_picked.ensures.reply)
    (c.take_picked.ensures.stands c.args.who PurgeOne refl (c.requires.1.0, one-answer c.args.self.now.boot g.past c.args.who (Some c.in-Some.p.obj) (sym c.in-Some.ensures.object) c.requires.1.1, s.legal))

pub returns-in-None-clause-reply : goal.returns-in-None-clause-reply
returns-in-None-clause-reply g c = one-answer c.args.self.now.boot g.past c.args.who None (sym c.in-None.ensures.object) c.requires.1.1

pub returns-in-None-clause-stands : goal.returns-in-None-clause-stands
returns-in-None-clause-stands g c =
    asked-stands (values c.args.self.now) g.past c.args.who PurgeOne Nothing c.requires.1.0
    (one-answer c.args.self.now.boot g.past c.args.who None (sym c.in-None.ensures.object) c.requires.1.1)
    refl c.requires.0
