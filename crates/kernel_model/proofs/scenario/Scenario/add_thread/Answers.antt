use Rattle.std.proofs.Common.{◌≡◌, List, ◌∷◌, ◌++◌, [], ◌∙◌, ap₂, arith}
use Rattle.std.specs.Prelude.{length}
use Rattle.kern_ids.specs.declared.calls.Call.{Call}
use Rattle.std.proofs.lemmas.List.Sums.{sum_by-append}
use Rattle.kernel_model.specs.Scenario.{Plan, call_count}
use Rattle.kernel_model.proofs.Grows.{thread_more}
use Rattle.kernel_model.proofs.scenario.Scenario.add_thread.Goals as goal

pub invariant_of-self-2 : goal.invariant_of-self-2
invariant_of-self-2 c =
    let i = c.self.inside in
    let s : Plan = record { form = i.form; boot = i.boot; scripts = i.scripts.items; order = i.order.items } in
    let room = rw (← c.self.view_is) at c.requires.room in
    let fits = rw (← c.self.view_is) at c.requires.valid in
    let scripts : c.push_reserved.new.self.items ≡ i.scripts.items ++ [] ∷ [] = c.push_reserved.ensures.items ∙ ap₂ (λ (xs : List (List Call)) (x : List Call). xs ++ x ∷ []) c.reserve.ensures.items c.new.ensures in
    let boot : c.add_side.new.self ≡ record i.boot { sides = i.boot.sides ++ c.args.side ∷ [] } = c.in_ok-add_side.ensures.ok in
    let counted : i.calls ≡ call_count (i.scripts.items ++ [] ∷ []) = let before = c.self.invariant.0 in omega (arith, sum_by-append length i.scripts.items ([] ∷ [])) in
    rw (scripts, boot) (counted, thread_more s c.args.side room fits c.self.invariant.1)
