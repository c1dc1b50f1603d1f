use Rattle.std.proofs.Common.{◌≡◌, List, ℕ, ◌∷◌, sym, ap, ap₂, ◌∙◌, arith, Bor}
use Rattle.std.proofs.lemmas.List.{length-map}
use Rattle.kern_ids.specs.declared.calls.Call.{Call}
use Rattle.kernel_model.specs.Turns.{rest_turns}
use Rattle.kernel_model.specs.TurnsLeft.{calls_left}
use Rattle.kernel_model.proofs.TurnLemmas.{rest-first, rest-none, spent-more, spent-all, nothing-next}
use Rattle.kernel_model.proofs.turns.next_left.Goals as goal

pub returns-in-Some-take_call-clause-turn : goal.returns-in-Some-take_call-clause-turn
returns-in-Some-take_call-clause-turn c =
    let left = calls_left c.threads.scripts.items in
    let call = c.in-Some-take_call.call.now in
    let t = c.in-Some-take_call.ensures.taken in
    let who : c.threads.from ≡ c.in-Some.who = grind arith in
    ap (λ s. rest_turns 0 (calls_left s)) (sym c.threads.invariant.same)
    ∙ rest-first 0 c.threads.from left call c.threads.invariant.spent t.0
    ∙ ap₂ (λ (n : ℕ) (s : List (List Call)). (n, call) ∷ rest_turns 0 s) (omega arith) (sym t.1)

pub threads-preserved : goal.threads-preserved
threads-preserved c =
    let left = calls_left c.threads.scripts.items in
    let t = c.in_default.ensures.taken in
    rw t.1 (record { same = c.threads.invariant.same; spent = spent-more c.threads.from left c.threads.invariant.spent (nothing-next _ t.0) })

pub returns-clause-turn : goal.returns-clause-turn
returns-clause-turn c =
    let left = calls_left c.threads.scripts.items in
    let same = c.threads.invariant.same in
    (ap (λ s. rest_turns 0 (calls_left s)) (sym same) ∙ rest-none 0 left (spent-all c.threads.from left c.threads.invariant.spent (omega (arith, length-map c.threads.scripts.items (λ (s : Bor (List Call)). s.now)))), same)
