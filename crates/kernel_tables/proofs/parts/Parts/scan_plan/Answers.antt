use Rattle.kernel_tables.specs.Values.{values}
use Rattle.kernel_tables.proofs.Choices.{has-tokens}
use Rattle.kernel_tables.proofs.ScanDecision.{first-object, plan-is}
use Rattle.kernel_tables.proofs.parts.Parts.scan_plan.Goals as goal

pub ripe_object-ripe-requires : goal.ripe_object-ripe-requires
ripe_object-ripe-requires g c = has-tokens (values c.args.self.now) g.past c.requires c.valid.ensures

pub first_written-written-requires : goal.first_written-written-requires
first_written-written-requires g c = first-object (values c.args.self.now) g.past c.valid.ensures c.requires

pub returns : goal.returns
returns g c =
    rw (c.decide.ensures.plan, c.params-params.ensures.value, c.ripe_object-ripe.ensures, c.first_written-written.ensures)
    (plan-is (values c.args.self.now) g.past c.valid.ensures c.requires)
