use Rattle.std.proofs.Common.{◌≡◌, ℕ, None, Some, ap, ◌∙◌}
use Rattle.kern_ids.specs.declared.calls.Call.TheVariants.{Scan}
use Rattle.kern_ids.specs.declared.replies.Reply.TheVariants.{Purged}
use Rattle.kernel_model.proofs.Laws.Purges.{scan-purged}
use Rattle.kernel_tables.proofs.Accepted.{accepted-answer}
use Rattle.kernel_tables.proofs.parts.Parts.scan_ripe.Goals as goal

same_object : (o x : ℕ) → Some o ≡ Some x → x ≡ o
same_object o x h = cc

none_picked : (o : ℕ) → None ≡ Some o → ⊥
none_picked o h = cc

pub scan_purge-requires : goal.scan_purge-requires
scan_purge-requires g c =
    let chosen = scan-purged c.args.self.now.boot g.past c.args._o c.requires.1.1.1 in
    (c.requires.0, (c.requires.1.0, (c.in-Some.ensures.picked, accepted-answer c.args.self.now.boot g.past c.args.who Scan c.requires.1.1.0 ∙ c.requires.1.1.1 ∙ ap Purged (same_object c.in-Some.p.obj c.args._o (c.in-Some.ensures.object ∙ chosen)))))

pub returns-in-None-clause-reply : goal.returns-in-None-clause-reply
returns-in-None-clause-reply g c = absurd (none_picked c.args._o (c.in-None.ensures.object ∙ scan-purged c.args.self.now.boot g.past c.args._o c.requires.1.1.1))

pub returns-in-None-clause-stands : goal.returns-in-None-clause-stands
returns-in-None-clause-stands g c = absurd (none_picked c.args._o (c.in-None.ensures.object ∙ scan-purged c.args.self.now.boot g.past c.args._o c.requires.1.1.1))
