use Rattle.std.proofs.Common.{ap, ◌∙◌, subst}
use Rattle.kernel_model.specs.Answers.{short_of}
use Rattle.kern_ids.specs.declared.replies.Refusal.TheVariants.{Shortage}
use Rattle.page_queues.specs.declared.PlaceCounts.{PlaceCounts}
use Rattle.kernel_tables.specs.Values.{values}
use Rattle.kernel_tables.proofs.Refused.{free-is, short-is, enough-is}
use Rattle.kernel_tables.proofs.parts.Parts.short_of.Goals as goal

pub returns-then-free-needed : goal.returns-then-free-needed
returns-then-free-needed g c =
    rw (← c.needed-needed.ensures) (short-is c.args.self.now.boot g.past c.needed-needed.result c.counts-free.result.free (ap (λ x. x.free) c.counts-free.ensures ∙ free-is (values c.args.self.now) g.past c.requires.0) c.if-free-needed.true)

pub returns-else-free-needed : goal.returns-else-free-needed
returns-else-free-needed g c =
    rw (← c.needed-needed.ensures) (enough-is c.args.self.now.boot g.past c.needed-needed.result c.counts-free.result.free (ap (λ x. x.free) c.counts-free.ensures ∙ free-is (values c.args.self.now) g.past c.requires.0) c.if-free-needed.false)
