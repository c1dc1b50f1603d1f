use Rattle.std.proofs.Common.{◌≡◌, List, ℕ, [], ◌∷◌, sym, ap, ◌∙◌}
use Rattle.kern_ids.specs.declared.calls.Call.{Call}
use Rattle.kernel_model.specs.Turns.{turns_from}
use Rattle.kernel_model.specs.TurnsLeft.{calls_left}
use Rattle.kernel_model.proofs.TurnLemmas.{turn-taken, turn-passed, turns-rest, empty-by}
use Rattle.kernel_model.proofs.turns.next_ordered.Goals as goal

pub returns-in-Some-take_call-clause-turn : goal.returns-in-Some-take_call-clause-turn
returns-in-Some-take_call-clause-turn c =
    let left = calls_left c.words.scripts.items in
    let n : ℕ = c.in-Some.who.now in
    let t = c.in-Some-take_call.ensures.taken in
    let call = rw c.get.ensures.value at t.0 in
    let after = rw c.get.ensures.value at t.1 in
    sym c.words.invariant.said
    ∙ ap (λ (o : List ℕ). turns_from o left) c.in-Some.ensures.cases.0
    ∙ turn-taken n c.in-Some.rest.now left c.in-Some-take_call.call.now call
    ∙ ap (λ (s : List (List Call)). (n, c.in-Some-take_call.call.now) ∷ turns_from c.in-Some.rest.now s) (sym after)

pub words-preserved : goal.words-preserved
words-preserved c =
    let left = calls_left c.words.scripts.items in
    let n : ℕ = c.in-Some.who.now in
    let t = c.in_default-take_call.ensures.taken in
    let none = rw c.get.ensures.value at t.0 in
    rw t.1 (record {
      said = sym (turn-passed n c.in-Some.rest.now left none) ∙ sym (ap (λ (o : List ℕ). turns_from o left) c.in-Some.ensures.cases.0) ∙ c.words.invariant.said;
      spent = c.words.invariant.spent;
      len = c.take_call.ensures.len ∙ c.words.invariant.len;
    })

pub returns-clause-turn : goal.returns-clause-turn
returns-clause-turn c =
    let none : c.words.order.now ≡ [] = empty-by c.words.order.now c.in_default.ensures.cases in
    (none, sym c.words.invariant.said ∙ turns-rest c.words.order.now (calls_left c.words.scripts.items) none)
