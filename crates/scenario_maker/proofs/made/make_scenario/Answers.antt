use Rattle.std.proofs.Common.{◌≡◌, ℕ, length, sym, ap, ap₂, ◌∙◌, arith}
use Rattle.kernel_model.specs.Scenario.{Plan, call_count}
use Rattle.scenario_maker.specs.Made.{turn, with_turn, turns}
use Rattle.scenario_maker.proofs.Turns.{turns_more, turns-boot, turns-scripts, turns-order, turns-calls}
use Rattle.scenario_maker.proofs.made.make_scenario.Goals as goal

pub loop-i-init : goal.loop-i-init
unfolding turns
loop-i-init c = record { plan = c.in_ok-scenario.ensures; state = c.new-draws.ensures }

pub add_turn-requires-clause-boot : goal.add_turn-requires-clause-boot
add_turn-requires-clause-boot c = ap (λ (s : Plan). s.boot) c.loop-i.invariant.plan ∙ turns-boot c.loop-i.i c.args.seed

pub add_turn-requires-clause-threads : goal.add_turn-requires-clause-threads
add_turn-requires-clause-threads c = ap (λ (s : Plan). length s.scripts) c.loop-i.invariant.plan ∙ turns-scripts c.loop-i.i c.args.seed

pub add_turn-requires-clause-order : goal.add_turn-requires-clause-order
add_turn-requires-clause-order c =
    let long : length c.loop-i.scenario.order ≡ c.loop-i.i = ap (λ (s : Plan). length s.order) c.loop-i.invariant.plan ∙ turns-order c.loop-i.i c.args.seed in
    omega arith

pub add_turn-requires-clause-calls : goal.add_turn-requires-clause-calls
add_turn-requires-clause-calls c =
    let many : call_count c.loop-i.scenario.scripts ≡ c.loop-i.i = ap (λ (s : Plan). call_count s.scripts) c.loop-i.invariant.plan ∙ turns-calls c.loop-i.i c.args.seed in
    omega arith

pub loop-i-preserved : goal.loop-i-preserved
loop-i-preserved c =
    let i = c.loop-i.i in
    let more = turns_more i c.args.seed in
    record {
      plan = c.in_ok-add_turn.ensures.made ∙ ap₂ (λ (s : Plan) (x : ℕ). with_turn s (turn i x).0) c.loop-i.invariant.plan c.loop-i.invariant.state ∙ sym (ap (λ (p : Plan × ℕ). p.0) more);
      state = c.in_ok-add_turn.ensures.state ∙ ap (λ (x : ℕ). (turn i x).1) c.loop-i.invariant.state ∙ sym (ap (λ (p : Plan × ℕ). p.1) more);
    }
