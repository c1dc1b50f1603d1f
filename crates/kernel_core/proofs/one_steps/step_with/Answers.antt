use Rattle.std.proofs.Common.{◌≡◌, List, [], ◌∷◌, ◌++◌, reverse, ap, ◌∙◌, subst, rules}
use Rattle.kern_ids.specs.declared.entries.Entry.{Entry}
use Rattle.kernel_model.specs.System.{System}
use Rattle.kernel_model.specs.Answers.{answer}
use Rattle.kernel_core.specs.Kernels.{SeesBytes}
use Rattle.kernel_core.specs.Bodies.{made}
use Rattle.kernel_core.specs.Touches.{bytes_left}
use Rattle.kernel_core.proofs.Seen.{sees-held, write-in_range}
use Rattle.kernel_core.proofs.Kept.{held-bytes, needed-kept, needed-named}
use Rattle.kernel_core.proofs.one_steps.step_with.Goals as goal

pub step-requires-clause-seen : goal.step-requires-clause-seen
step-requires-clause-seen g c =
    let boot = c.args.boot.now in
    let h = c.args.kernel.now.history in
    let call = c.args.call.now in
    let was = c.index_mut-body.result.now in
    let bytes = c.prepare.ensures.bytes ∙ held-bytes boot h c.args.o was c.args.bodies.now.items c.requires.object c.requires.bodies c.index_mut-body.ensures.value in
    let sees = sees-held boot h call c.args.o c.prepare.new.body.bytes c.look-seen.result (needed-named boot (reverse h) c.args.who call c.args.o c.requires.needed) bytes c.look-seen.ensures.seen in
    let same_boot : boot ≡ c.reserve.new.self.boot = search rules in
    let same_history : h ≡ c.reserve.new.self.history = search rules in
    subst (λ (b : System). SeesBytes b c.reserve.new.self.history call c.look-seen.result) same_boot (subst (λ (es : List Entry). SeesBytes boot es call c.look-seen.result) same_history sees)

pub apply-requires-clause-range : goal.apply-requires-clause-range
apply-requires-clause-range g c =
    write-in_range c.args.boot.now (reverse c.args.kernel.now.history) c.args.who c.args.call.now c.step.new.reply (search rules)

pub returns-clause-bodies : goal.returns-clause-bodies
returns-clause-bodies g c =
    let boot = c.args.boot.now in
    let h = c.args.kernel.now.history in
    let call = c.args.call.now in
    let reply = c.step.new.reply in
    let was = c.index_mut-body.result.now in
    let later = c.step.new.self.history in
    let answered : reply ≡ answer boot (reverse h) c.args.who call = search rules in
    let entry : later ≡ h ++ made c.args.who call reply ∷ [] = search rules in
    let left : c.apply.new.body.bytes ≡ bytes_left call reply was.bytes = c.apply.ensures ∙ ap (bytes_left call reply) c.prepare.ensures.bytes in
    needed-kept boot h later c.args.who c.args.o call reply was c.apply.new.body c.args.bodies.now.items answered c.requires.needed entry c.requires.bodies
    (held-bytes boot h c.args.o was c.args.bodies.now.items c.requires.object c.requires.bodies c.index_mut-body.ensures.value) left
