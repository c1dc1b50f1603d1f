use Rattle.std.proofs.Common.{◌<◌, ◌≤◌, length, sym, ap, ◌∙◌, arith}
use Rattle.replay_check.specs.Same.{same_call}
use Rattle.replay_check.proofs.Begun.{call_at-fits}
use Rattle.replay_check.proofs.Standing.{undeclared, call_at-some, call_at-none}
use Rattle.replay_check.proofs.replays.is_call_at.Goals as goal

pub returns-then-scripts-get-clause-value : goal.returns-then-scripts-get-clause-value
returns-then-scripts-get-clause-value c =
    let e = c.args.entry.now in
    let s = c.args.scenario.now in
    let behind : length s.scripts ≤ e.who = let same = ap length c.scripts.ensures in omega arith in
    sym (undeclared s e.who e.call c.args.k behind)

pub returns-in-Some-clause-value : goal.returns-in-Some-clause-value
returns-in-Some-clause-value c =
    let e = c.args.entry.now in
    let s = c.args.scenario.now in
    let within : e.who < length s.scripts = let same = ap length c.scripts.ensures in omega arith in
    c.same_call.ensures ∙ ap (same_call e.call) c.get-in-Some.ensures ∙ sym (call_at-some s e.who e.call c.in-Some.call.now c.args.k within (sym c.in-Some.ensures))

pub returns-in-Some-clause-fits : goal.returns-in-Some-clause-fits
returns-in-Some-clause-fits c =
    let e = c.args.entry.now in
    let s = c.args.scenario.now in
    let within : e.who < length s.scripts = let same = ap length c.scripts.ensures in omega arith in
    λ yes. call_at-fits s e.who e.call c.args.k c.valid.ensures
    (call_at-some s e.who e.call c.in-Some.call.now c.args.k within (sym c.in-Some.ensures) ∙ sym (ap (same_call e.call) c.get-in-Some.ensures) ∙ sym c.same_call.ensures ∙ yes)

pub returns-in-None-clause-value : goal.returns-in-None-clause-value
returns-in-None-clause-value c =
    let e = c.args.entry.now in
    sym (call_at-none c.args.scenario.now e.who e.call c.args.k (sym c.in-None.ensures))
