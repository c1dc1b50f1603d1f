-- The words of the order line, one by one.
use Rattle.std.proofs.Common.{◌≡◌, ℕ, ◌<◌, Bool, true, false, cond, ltb, List, [], ◌∷◌, ◌++◌, length, Result, Ok, Err, refl}
use Rattle.std.proofs.lemmas.Bool.{ltb-true}
use Rattle.kern_ids.specs.declared.faults.Why.{Why}
use Rattle.kern_ids.specs.declared.faults.Why.TheVariants as why
use Rattle.kernel_model.specs.Scenario.{Plan}
use Rattle.line_text.specs.Cut.{Word}
use Rattle.line_text.specs.Numbers.{is_plain}
use Rattle.line_text.specs.Words.{reference}
use Rattle.line_text.proofs.GrammarLemmas.{reference_takes}
use Rattle.scenario_text.specs.Grammar.{turn, order_words}

of_room : {A : Type 0} (b plain : Bool) (r : Result A Why) (x : A) → cond b r (cond plain (Err why.Limit) (Err why.Number)) ≡ Ok x → (b ≡ true) × (r ≡ Ok x)
of_room true plain r x e = (refl, e)
of_room false true r x e = absurd cc
of_room false false r x e = absurd cc

pub turn-takes : (threads count : ℕ) (w : Word) (ws : List Word) (x : ℕ × List Word) → turn threads count (w ∷ ws) ≡ Ok x → (count < 200000) × (reference 31 threads (w ∷ ws) ≡ Ok x)
turn-takes threads count w ws x e =
    let r = of_room (ltb count 200000) (is_plain w) (reference 31 threads (w ∷ ws)) x e in
    (ltb-true count 200000 r.0, r.1)

pub order-more : (threads : ℕ) (s : Plan) (ws : List Word) (x : ℕ × List Word) → turn threads (length s.order) ws ≡ Ok x → order_words threads s ws ≡ order_words threads (record s { order = s.order ++ x.0 ∷ [] }) x.1
unfolding order_words
order-more threads s [] x e = absurd cc
order-more threads s (w ∷ ws) x e =
    let t = turn-takes threads (length s.order) w ws x e in
    let u = reference_takes 31 threads w ws x t.1 in
    rw (e, u.2) refl

pub order-bad : (threads : ℕ) (s : Plan) (ws : List Word) (e : Why) → (ws ≡ [] → ⊥) → turn threads (length s.order) ws ≡ Err e → order_words threads s ws ≡ Err e
unfolding order_words
order-bad threads s [] e some r = absurd (some refl)
order-bad threads s (w ∷ ws) e some r = rw r refl

pub order-none : (threads : ℕ) (s : Plan) (ws : List Word) → ws ≡ [] → order_words threads s ws ≡ Ok s
unfolding order_words
order-none threads s ws e = rw e refl
