use Rattle.std.proofs.Common.{◌≡◌, ℕ, ◌+◌, ◌<◌, List, ◌∷◌, ◌++◌, [], length, sym, ◌∙◌, ap}
use Rattle.kern_ids.specs.declared.calls.Call.{Call}
use Rattle.std.proofs.lemmas.List.{get_or_default}
use Rattle.kernel_model.specs.Scenario.{Plan, script}
use Rattle.kernel_model.proofs.Grows.{call_more, call_count-more, fits-thread}
use Rattle.kernel_model.proofs.scenario.Scenario.add_call.Goals as goal

pub invariant_of-self-2 : goal.invariant_of-self-2
invariant_of-self-2 c =
    let i = c.self.inside in
    let s : Plan = record { form = i.form; boot = i.boot; scripts = i.scripts.items; order = i.order.items } in
    let room = rw (← c.self.view_is) at c.requires.room in
    let fits = rw (← c.self.view_is) at c.requires.fits in
    let l : c.args.who < length i.scripts.items = fits-thread s c.args.who c.args.call c.self.invariant.1 fits in
    let added : c.add.new.self ≡ script s c.args.who ++ c.args.call ∷ [] =
    let read = rw c.get.ensures.value at c.index_mut.ensures.value in
    c.in_ok-add.ensures.ok ∙ ap (λ (xs : List Call). xs ++ c.args.call ∷ []) (read ∙ get_or_default i.scripts.items c.args.who c.index_mut.result.now [] l) in
    rw (c.get.ensures.value, added) (ap (λ (n : ℕ). n + 1) c.self.invariant.0 ∙ sym (call_count-more s c.args.who c.args.call l), call_more s c.args.who c.args.call c.valid_call.ensures room fits l c.self.invariant.1)
