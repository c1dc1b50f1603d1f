use Rattle.std.proofs.Common.{◌≡◌, sym, ◌∙◌}
use Rattle.kernel_tables.specs.Values.{values}
use Rattle.kernel_tables.proofs.Choices.{has-tokens, pick-is}
use Rattle.kernel_tables.proofs.PurgeSteps.{picked-told}
use Rattle.kernel_tables.proofs.parts.Parts.pick.Goals as goal

pub pick-requires : goal.pick-requires
pick-requires g c = has-tokens (values c.args.self.now) g.past c.requires c.valid.ensures

pub returns-clause-object : goal.returns-clause-object
returns-clause-object g c = c.pick.ensures.object ∙ sym (pick-is (values c.args.self.now) g.past c.requires)

pub returns-clause-picked : goal.returns-clause-picked
returns-clause-picked g c = picked-told (values c.args.self.now) g.past c.requires c.pick.result c.pick.ensures.object c.pick.ensures.token_queue c.pick.ensures.object_queue
