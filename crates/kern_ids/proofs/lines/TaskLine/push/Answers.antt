use Rattle.std.proofs.Common.{◌≡◌, ◌<◌, length, arith, ap, sym, ◌∙◌}
use Rattle.kern_ids.specs.Padded.{IsPadded-set, length-padded}
use Rattle.kern_ids.proofs.lines.TaskLine.push.Goals as goal

pub invariant_of-self : goal.invariant_of-self
invariant_of-self c =
    let i = c.self.inside in
    let e : length c.args.self.now ≡ i.len = ap length (sym c.self.view_is) ∙ length-padded 0 64 i.len i.tasks c.self.invariant in
    let l : i.len < 64 = omega arith in
    IsPadded-set 0 64 i.len i.tasks c.args.t c.self.invariant l
