use Rattle.std.proofs.Common.{ℕ, ◌+◌, ◌<◌, ◌≤◌, List, [], ◌∷◌, Ok, refl, sym, ap, ◌∙◌, arith, All}
use Rattle.std.proofs.lemmas.List.{length-append, append-nil}
use Rattle.std.proofs.lemmas.List.Elements.{All-push}
use Rattle.std.proofs.lemmas.Result.{err_from_is_err_and}
use Rattle.kernel_model.proofs.Grows.{All-map}
use Rattle.scenario_text.specs.Grammar.{sharers}
use Rattle.scenario_text.specs.Gives.{front_sharers}
use Rattle.scenario_text.proofs.SharerLemmas.{front-more, front-err, rising-push}
use Rattle.scenario_text.proofs.declarations.sharers.Goals as goal

pub loop-t-init : goal.loop-t-init
loop-t-init c =
    let first = c.args.first in
    rw (c.push.ensures, c.new-line.ensures, c.get-bound.ensures.value) (record {
      said = refl;
      shared = omega arith;
      rising = (omega arith, tt);
      declared = All-push (λ t. t < c.args.tasks) [] first (λ k d l. absurd (omega arith)) c.requires;
      below = All-push (λ t. t < first + 1) [] first (λ k d l. absurd (omega arith)) (omega arith);
      few = omega arith;
    })

pub returns-in_err-t-clause-value : goal.returns-in_err-t-clause-value
returns-in_err-t-clause-value c =
    let p = err_from_is_err_and c.from_residual.result c.from_residual.ensures.1 in
    rw (p.1, p.2) (front-err (c.args.first ∷ []) _ _ (sym c.loop-t.invariant.said ∙ ap (front_sharers c.loop-t.line) c.in_err-t.ensures.value))

pub loop-t-preserved : goal.loop-t-preserved
loop-t-preserved c =
    let line = c.loop-t.line in
    let i = c.loop-t.invariant in
    let t : ℕ = c.in-Some.t in
    let say = rw c.in-Some.is at c.in_ok-t.ensures.value in
    let least : c.loop-t.bound ≤ t = rw c.in-Some.is at c.in_ok-t.ensures.least in
    let declared : t < c.args.tasks = rw c.in-Some.is at c.in_ok-t.ensures.declared in
    let below : All (λ x. x < t) line = All-map (λ x. x < c.loop-t.bound) (λ x. x < t) line (λ x l. omega arith) i.below in
    rw (c.push-in-Some.ensures, c.get-bound-in-Some.ensures.value) (record {
      said = sym (front-more line t (sharers c.args.tasks (t + 1) c.sharer.new.words)) ∙ ap (front_sharers line) (sym say) ∙ i.said;
      shared = omega (arith, length-append line (t ∷ []));
      rising = rising-push 0 line t i.rising below (omega arith);
      declared = All-push (λ x. x < c.args.tasks) line t i.declared declared;
      below = All-push (λ x. x < t + 1) line t (All-map (λ x. x < t) (λ x. x < t + 1) line (λ x l. omega arith) below) (omega arith);
      few = let few = i.few in omega (arith, length-append line (t ∷ []));
    })

pub returns-clause-value : goal.returns-clause-value
returns-clause-value c =
    let line = c.loop-t.line in
    let say = rw c.in_default.is at c.in_ok-t.ensures.value in
    sym c.loop-t.invariant.said ∙ ap (front_sharers line) say ∙ ap (λ (ts : List ℕ). Ok (ts, c.sharer.new.words)) (append-nil line)
