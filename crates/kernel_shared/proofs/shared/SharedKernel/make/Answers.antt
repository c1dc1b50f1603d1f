use Rattle.std.proofs.Common.{◌≡◌, ℕ, List, Option, Some, None, ap, sym, ◌∙◌, [], ◌∷◌, ◌++◌, reverse, false, refl, subst, inl, inr, rules}
use Rattle.std.specs.List.{Contains}
use Rattle.kern_ids.specs.declared.entries.Entry.{Entry}
use Rattle.kern_ids.specs.declared.replies.Reply.{Reply}
use Rattle.kernel_model.specs.Answers.{answer}
use Rattle.kernel_model.specs.Histories.{Legal}
use Rattle.kernel_core.specs.Touches.{touched}
use Rattle.kernel_shared.specs.Calls.{entry_of}
use Rattle.turn_lock.specs.Steps.{refreshed}
use Rattle.kernel_shared.specs.contracts.value.CoreOrderedBody.TheImpl.{ghosts}
use Rattle.kernel_shared.specs.Steps.{held_after}
use Rattle.kernel_shared.proofs.Passing.{needed-touches}
use Rattle.kernel_shared.proofs.shared.SharedKernel.make.Goals as goal

held_again : (h : List Entry) (o : Option (ℕ × List (ℕ × ℕ))) → refreshed ghosts h o ≡ held_after h o
held_again h None = refl
held_again h (Some x) = refl

pub leave-requires-2-clause-entries : goal.leave-requires-2-clause-entries
leave-requires-2-clause-entries g c =
    let p = c.args.pass.now in
    let e : Entry = record { who = p.number; call = c.args.call.now; reply = c.step.new.reply } in
    let is : c.step.new.self.history ≡ p.seen ++ e ∷ [] = search rules in
    let r : c.step.new.reply ≡ answer c.args.self.now.base (reverse p.seen) p.number c.args.call.now = search rules in
    inr (
      e,
      is,
      (
        refl,
        λ i k. needed-touches c.args.self.now.base (reverse p.seen) p.number c.args.call.now p.object c.requires.touches i
            (subst (λ (x : Reply). Contains (touched (record { who = p.number; call = c.args.call.now; reply = x })) i) r k),
      ),
    )

pub leave-requires-clause-entries : goal.leave-requires-clause-entries
leave-requires-clause-entries g c =
    let same : c.reserve.new.self.history ≡ c.args.pass.now.seen = search rules in
    inl same

pub returns-clause-made : goal.returns-clause-made
returns-clause-made g c =
    let p = c.args.pass.now in
    let new = c.leave-2.new.pass in
    let answered : c.step.new.reply ≡ answer c.args.self.now.base (reverse p.seen) p.number c.args.call.now = search rules in
    let seen : new.seen ≡ p.seen ++ entry_of p c.args.call.now c.step.new.reply ∷ [] = search rules in
    let mine : new.mine ≡ p.mine ++ entry_of p c.args.call.now c.step.new.reply ∷ [] = search rules in
    let legal : Legal c.args.self.now.base new.seen = search rules in
    let object : new.object ≡ held_after new.seen p.object = c.leave-2.ensures.object ∙ held_again c.step.new.self.history p.object ∙ ap (λ h. held_after h p.object) (sym c.leave-2.ensures.seen) in
    let same : new ≡ record p { seen = new.seen; mine = new.mine; turn = false; object = new.object } = search rules in
    record { answered = answered; seen = seen; mine = mine; legal = legal; object = object; same = same }
