use Rattle.std.proofs.Common.{◌≡◌, reverse, None, rules}
use Rattle.kernel_core.specs.Touches.{needed_number}
use Rattle.kernel_core.proofs.Kept.{alone-made}
use Rattle.kernel_core.proofs.one_thread.OneThread.call.Goals as goal

pub invariant_of-self-in-None : goal.invariant_of-self-in-None
invariant_of-self-in-None g c =
    let k = c.self.inside.kernel in
    let later = c.step_alone.new.kernel in
    let boot : later.boot ≡ c.self.inside.boot = search rules in
    let alone : needed_number k.boot (reverse k.history) c.args.who c.args.call.now ≡ None = search rules in (
      boot,
      alone-made k.boot later.boot k.history later.history c.args.who c.args.call.now c.step_alone.result c.step_alone.new.reply c.self.inside.bodies.items c.step_alone.ensures.boot c.step_alone.ensures.reply c.step_alone.ensures.entry c.step_alone.ensures.unchanged alone c.self.invariant.1,
    )
