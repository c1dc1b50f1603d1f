use Rattle.std.proofs.Common.{◌<◌, ℕ, length, ap, ◌∙◌, arith}
use Rattle.std.specs.Prelude.{Option, is_some}
use Rattle.kernel_model.specs.System.{System}
use Rattle.kernel_model.specs.Events.{task_of}
use Rattle.scenario_maker.proofs.Turns.{length-head_objects, fits_made, turn_is}
use Rattle.scenario_maker.proofs.calls.turn.Goals as goal

pub returns-clause-fits : goal.returns-clause-fits
returns-clause-fits c =
    let who = c.thread_id-who.result in
    let below : who < length c.args.boot.now.sides = omega (arith, ap (λ (b : System). length b.sides) c.requires, c.thread_id-who.ensures, c.draw.ensures.below) in
    fits_made c.args.boot.now who c.call_by-call.result below (c.call_by-call.ensures.side ∙ ap (λ (t : Option ℕ). is_some t) c.task_of.ensures)
    (c.call_by-call.ensures.names c.args.boot.now (ap (λ (b : System). length b.objects) c.requires ∙ length-head_objects))

pub returns-clause-drawn : goal.returns-clause-drawn
returns-clause-drawn c =
    let who = c.thread_id-who.result in
    turn_is c.args.i c.args.draws.now who c.draw.new.self c.draw-kind.result c.draw-kind.new.self c.task_of.result c.call_by-call.result c.call_by-call.new.draws
    (c.thread_id-who.ensures ∙ c.draw.ensures.answer) c.draw.ensures.state c.draw-kind.ensures.answer c.draw-kind.ensures.state
    (c.task_of.ensures ∙ ap (λ (b : System). task_of b who) c.requires) c.call_by-call.ensures.answer c.call_by-call.ensures.state
