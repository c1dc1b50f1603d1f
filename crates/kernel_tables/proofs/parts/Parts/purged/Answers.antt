use Rattle.std.proofs.Common.{◌∙◌, sym, ap}
use Rattle.kernel_model.specs.Events.{purged_by}
use Rattle.kernel_tables.specs.Values.{values}
use Rattle.kernel_tables.proofs.Choices.{has-tokens, pick-is, forced-is}
use Rattle.kernel_tables.proofs.StepCalls.{one-purges, forced-purges, scan-purges, others-purge}
use Rattle.kernel_tables.proofs.parts.Parts.purged.Goals as goal

pub ripe_object-requires : goal.ripe_object-requires
ripe_object-requires g c = has-tokens (values c.args.self.now) g.past c.requires.0 c.valid.ensures

pub returns-in-PurgeOne : goal.returns-in-PurgeOne
returns-in-PurgeOne g c = c.ripe_object.ensures ∙ sym (pick-is (values c.args.self.now) g.past c.requires.0) ∙ sym (one-purges c.args.self.now.boot g.past c.args.who c.args.call.now c.in-PurgeOne.is c.requires.1)

pub returns-in-Forced : goal.returns-in-Forced
returns-in-Forced g c = c.forced.ensures.object ∙ sym (forced-is (values c.args.self.now) g.past c.requires.0) ∙ sym (forced-purges c.args.self.now.boot g.past c.args.who c.args.call.now c.in-Forced.is c.requires.1)

pub returns-in-Scan : goal.returns-in-Scan
returns-in-Scan g c = c.purged_in.ensures c.args.self.now.objects.pages ∙ ap purged_by c.scan_plan.ensures ∙ sym (scan-purges c.args.self.now.boot g.past c.args.who c.args.call.now c.in-Scan.is c.requires.1)

pub returns-in_default : goal.returns-in_default
returns-in_default g c = others-purge c.args.self.now.boot g.past c.args.who c.args.call.now c.in_default.not-PurgeOne c.in_default.not-Forced c.in_default.not-Scan
