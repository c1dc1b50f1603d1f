use Rattle.std.proofs.Common.{◌≡◌, ◌<◌, ℕ, None, Some, length, reverse, sym, ◌∙◌, subst, rules}
use Rattle.kernel_core.specs.Kernels.{SeesBytes}
use Rattle.kernel_core.specs.Touches.{needed_number, named_number, NeedsAtMost}
use Rattle.kernel_core.proofs.Seen.{sees-none}
use Rattle.kernel_shared.proofs.shared.SharedKernel.first_look.Goals as goal

pub make-requires-clause-seen : goal.make-requires-clause-seen
make-requires-clause-seen g c =
    let p = c.enter-turn.new.pass in
    let none : needed_number c.args.self.now.base (reverse p.seen) p.number c.args.call.now ≡ None = search rules in
    sees-none c.args.self.now.base p.seen p.number c.args.call.now c.no_bytes.result none

pub returns-in-Some-clause-looked : goal.returns-in-Some-clause-looked
returns-in-Some-clause-looked g c =
    let mine : c.leave.new.pass.mine ≡ c.args.pass.now.mine = search rules in
    let inside : c.in-Some.o < length c.args.self.now.base.objects = search rules in
    let only : NeedsAtMost c.in-Some.o (named_number c.args.call.now) = search rules in
    (mine, (inside, only))
