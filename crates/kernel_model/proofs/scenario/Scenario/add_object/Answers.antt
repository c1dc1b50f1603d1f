use Rattle.std.proofs.Common.{◌∷◌, ◌++◌, []}
use Rattle.kernel_model.specs.System.{System}
use Rattle.kernel_model.specs.Scenario.{Plan, IsValid}
use Rattle.kernel_model.proofs.Grows.{after, object_more}
use Rattle.kernel_model.proofs.scenario.Scenario.add_object.Goals as goal

pub invariant_of-self : goal.invariant_of-self
invariant_of-self c =
    let i = c.self.inside in
    let s : Plan = record { form = i.form; boot = i.boot; scripts = i.scripts.items; order = i.order.items } in
    let more : System = record i.boot { objects = i.boot.objects ++ c.args.o ∷ [] } in
    let room = rw (← c.self.view_is) at c.requires.room in
    let fits = rw (← c.self.view_is) at c.requires.valid in
    let valid : IsValid s = c.self.invariant.1 in (
      c.self.invariant.0,
      after (λ (b : System). IsValid (record s { boot = b })) c.add_object.result c.add_object.new.self i.boot more c.add_object.ensures.ok c.add_object.ensures.err (object_more s c.args.o room fits valid) valid,
    )
