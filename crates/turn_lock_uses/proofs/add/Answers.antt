use Rattle.std.proofs.Common.{rules, arith, ◌≡◌, ℕ, ◌+◌, ◌%◌, ◌^◌, ◌∷◌, [], ◌++◌, inr, sym, refl, ap, ◌∙◌, Some}
use Rattle.std.proofs.lemmas.Grind.{common_steps}
use Rattle.turn_lock.specs.Steps.{refreshed}
use Rattle.turn_lock_uses.specs.contracts.NotesOrderedJar.TheImpl.{ghosts}
use Rattle.turn_lock_uses.specs.declared.Note.{Note}
use Rattle.turn_lock_uses.specs.Jars.{sum_in}
use Rattle.turn_lock_uses.specs.Totals.{contains_one, sum_in-same}
use Rattle.turn_lock_uses.proofs.add.Goals as goal

pub leave-requires-2-clause-entries : goal.leave-requires-2-clause-entries
leave-requires-2-clause-entries g c = let note : Note = record { by = c.number.result; object = c.args.object; amount = c.args.amount } in
    let grown : c.push.new.self.items ≡ c.enter-turn.new.pass.seen ++ note ∷ [] = first_of (search rules, grind (arith, common_steps)) in
    let own : c.number.result ≡ c.enter-turn.new.pass.number = c.number.ensures.number ∙ sym (ap (λ p. p.number) c.enter-turn.ensures.same ∙ ap (λ p. p.number) c.take_object-held.ensures.same) in
    let holds = ap (λ p. p.object) c.enter-turn.ensures.same ∙ ap (λ p. p.object) c.take_object-held.ensures.same in
    inr (note, grown, (own, λ i q. (c.take_object-held.result.sum, holds ∙ ap (λ (n : ℕ). Some (n, c.take_object-held.result.sum)) (contains_one c.args.object i q))))

pub put_object-requires-2-clause-object : goal.put_object-requires-2-clause-object
put_object-requires-2-clause-object g c = let note : Note = record { by = c.number.result; object = c.args.object; amount = c.args.amount } in let seen = c.enter-turn.new.pass.seen in let items = c.push.new.self.items in
    let grown : items ≡ seen ++ note ∷ [] = first_of (search rules, grind (arith, common_steps)) in
    let holds = ap (λ p. p.object) c.enter-turn.ensures.same ∙ ap (λ p. p.object) c.take_object-held.ensures.same in
    let fresh = sym (c.enter-turn.ensures.current _ _ holds) ∙ sym (ap (λ j. j.sum) c.body-jar.ensures.body) in
    let value = ap (λ h. sum_in h c.args.object) grown ∙ (sum_in-same seen note c.args.object refl ∙ ap (λ (n : ℕ). (n + c.args.amount) % 2 ^ 64) fresh) in
    c.leave-2.ensures.object ∙ (ap (refreshed ghosts items) holds ∙ ap (λ (n : ℕ). Some (c.args.object, n)) value)
