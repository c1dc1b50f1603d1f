use Rattle.std.proofs.Common.{◌≡◌, ◌<◌, ◌≤◌, true, false, get_or, length, Some, sym, ap, ◌∙◌, subst, arith}
use Rattle.replay_check.specs.Verdicts.{is_call_at}
use Rattle.replay_check.proofs.Sames.{same_call-refl, same_call-true}
use Rattle.replay_check.proofs.Standing.{undeclared, call_at-some, call_at-none}
use Rattle.replay_check.proofs.lines.next_call.Goals as goal

pub returns-in-Some-clause-next : goal.returns-in-Some-clause-next
returns-in-Some-clause-next c =
    let s = c.args.scenario.now in
    let call = c.in-Some.call.now in
    let within : c.args.who < length s.scripts = let same = ap length c.scripts.ensures in omega arith in
    record {
      thread = subst (λ n. n < 32) c.get-thread.ensures.value c.get-thread.ensures.bound;
      next = ap (λ n. is_call_at s c.args.who call (get_or c.args.made.now n 0)) (sym c.get-thread.ensures.value) ∙ call_at-some s c.args.who call call _ within (sym c.in-Some.ensures) ∙ same_call-refl call;
    }

pub returns-in-Some-clause-only : goal.returns-in-Some-clause-only
returns-in-Some-clause-only c = λ call due.
    let s = c.args.scenario.now in
    let kept = c.in-Some.call.now in
    let within : c.args.who < length s.scripts = let same = ap length c.scripts.ensures in omega arith in
    let right = ap (λ n. is_call_at s c.args.who call (get_or c.args.made.now n 0)) c.get-thread.ensures.value ∙ due.next in
    ap Some (sym (same_call-true call kept (sym (call_at-some s c.args.who call kept _ within (sym c.in-Some.ensures)) ∙ right)))

pub returns-in-None-clause-only : goal.returns-in-None-clause-only
returns-in-None-clause-only c = λ call due.
    let s = c.args.scenario.now in
    let right = ap (λ n. is_call_at s c.args.who call (get_or c.args.made.now n 0)) c.get-thread.ensures.value ∙ due.next in
    let both : false ≡ true = sym (call_at-none s c.args.who call _ (sym c.in-None.ensures)) ∙ right in
    absurd cc

pub returns-then-scripts-thread-clause-only : goal.returns-then-scripts-thread-clause-only
returns-then-scripts-thread-clause-only c = λ call due.
    let s = c.args.scenario.now in
    let behind : length s.scripts ≤ c.args.who = let same = ap length c.scripts.ensures in omega arith in
    let both : false ≡ true = sym (undeclared s c.args.who call _ behind) ∙ due.next in
    absurd cc
