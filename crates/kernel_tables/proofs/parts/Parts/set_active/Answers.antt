use Rattle.std.proofs.Common.{◌≡◌, ◌<◌, length, Some, sym, ap, ◌∙◌}
use Rattle.kernel_model.specs.Events.{task_of}
use Rattle.kern_ids.specs.declared.replies.Reply.TheVariants.{Was}
use Rattle.kernel_tables.specs.Values.{values}
use Rattle.kernel_tables.proofs.ActiveCall.{active-task, active-reply, active-stand}
use Rattle.kernel_tables.proofs.parts.Parts.set_active.Goals as goal

pub returns-clause-reply : goal.returns-clause-reply
returns-clause-reply g c =
    let boot = c.args.self.now.boot in
    let t = c.unwrap-t.result in
    let is : task_of boot c.args.who ≡ Some t = sym c.task_of.ensures ∙ c.unwrap-t.ensures in
    let declared : t < length boot.tasks = active-task boot g.past c.args.who t c.args.on c.valid.ensures c.requires.1.0 is in
    ap Was c.set_active-was.ensures.was ∙ active-reply boot g.past c.args.who t c.args.on c.args.self.now.tasks.ledgers is declared c.requires.0.accounts c.requires.1.1

pub returns-clause-stands : goal.returns-clause-stands
returns-clause-stands g c =
    let boot = c.args.self.now.boot in
    let t = c.unwrap-t.result in
    let is : task_of boot c.args.who ≡ Some t = sym c.task_of.ensures ∙ c.unwrap-t.ensures in
    let declared : t < length boot.tasks = active-task boot g.past c.args.who t c.args.on c.valid.ensures c.requires.1.0 is in
    let w = c.set_active-was.ensures in
    let e = c.place_if.ensures in
    active-stand (values c.args.self.now) g.past c.args.who t _ c.args.on _ _ _ _ _ _ c.requires.1.0 c.requires.1.1 c.requires.0 is declared c.ageing_of-ageing.ensures c.moves-moves.ensures w.was (e.ledgers ∙ w.accounts) e.wishes e.bands e.delays e.here e.others
