use Rattle.std.proofs.Common.{ℕ, ◌<◌, List, get_or, ap, ap₂, ◌∙◌, subst}
use Rattle.kernel_model.specs.declared.boot.Params.{Params}
use Rattle.jetsam_pick.specs.Victims.{verdict}
use Rattle.kernel_tables.specs.Values.{values}
use Rattle.kernel_tables.specs.Verdicts.{reply_of}
use Rattle.kernel_tables.proofs.VerdictCall.{verdict-hold, verdict-is}
use Rattle.kernel_tables.proofs.parts.Parts.verdict.Goals as goal

pub victim-requires : goal.victim-requires
victim-requires g c =
    verdict-hold (values c.args.self.now) g.past c.requires c.valid.ensures c.are_bands.ensures.count
    (λ t. subst (λ (ws : List ℕ). get_or ws t 0 < 21) c.deref.ensures.value (c.wishes_are_bands.ensures t))

pub returns-clause-reply : goal.returns-clause-reply
returns-clause-reply g c =
    let tasks = c.args.self.now.tasks in
    ap reply_of (c.victim.ensures.verdict ∙ ap₂ (λ f k. verdict f k tasks.bands tasks.ledgers) (ap (λ (n : Rattle.page_queues.specs.declared.PlaceCounts.PlaceCounts). n.free) c.counts-counts.ensures) (ap (λ (p : Params). p.critical) c.params.ensures.value))
    ∙ verdict-is (values c.args.self.now) g.past c.requires c.valid.ensures c.are_bands.ensures.count (λ t. subst (λ (ws : List ℕ). get_or ws t 0 < 21) c.deref.ensures.value (c.wishes_are_bands.ensures t))
