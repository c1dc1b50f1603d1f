use Rattle.std.proofs.Common.{ap, ◌∙◌}
use Rattle.kern_ids.specs.declared.replies.Reply.TheVariants.{Aged}
use Rattle.kernel_tables.specs.Values.{values}
use Rattle.kernel_tables.proofs.TickCall.{tick-reply, tick-stand}
use Rattle.kernel_tables.proofs.parts.Parts.tick.Goals as goal

pub returns-clause-reply : goal.returns-clause-reply
returns-clause-reply g c = ap Aged c.tick-line.ensures.aged ∙ tick-reply (values c.args.self.now) g.past c.args.who c.valid.ensures c.requires.1.1 c.requires.0

pub returns-clause-stands : goal.returns-clause-stands
returns-clause-stands g c =
    let e = c.tick-line.ensures in
    tick-stand (values c.args.self.now) g.past c.args.who _ _ _ _ _ c.valid.ensures c.requires.1.0 c.requires.1.1 c.requires.0 e.count e.paired e.aged e.ledgers e.wishes e.bands e.ages
