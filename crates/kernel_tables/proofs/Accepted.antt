-- What an accepted call tells: its answer, and that none of the causes of a refusal holds.
use Rattle.std.proofs.Common.{◌≡◌, ℕ, List, ◌∷◌, Option, Some, None, refl, sym, ap, ◌∙◌, Bool, true, false, not, ◌||◌, nat_lt, ◌&&◌, inl, inr}
use Rattle.std.specs.Prelude.{IsTrue, is_some}
use Rattle.std.specs.Option.{option_map_or, unwrap_or}
use Rattle.std.proofs.lemmas.Bool.{false≢true, and_parts}
use Rattle.kern_ids.specs.declared.entries.Entry.{Entry}
use Rattle.kern_ids.specs.declared.calls.Call.{Call}
use Rattle.kern_ids.specs.declared.replies.Refusal.TheVariants.{Dead, Range}
use Rattle.kern_ids.specs.declared.replies.Reply.TheVariants.{Refused}
use Rattle.kernel_model.specs.System.{System}
use Rattle.kernel_model.specs.Events.{task_of}
use Rattle.kernel_model.specs.Mapping.{live}
use Rattle.kernel_model.specs.Lists.{some_if}
use Rattle.kernel_model.specs.Answers.{answer, accepted_answer, refusal, causes, is_dead, named_task, out_of_range}
use Rattle.kernel_model.specs.Histories.{fits, same, is_task_call, names_fit}
use Rattle.kernel_model.proofs.Laws.Answers.{first_some-none}

none_of : {A : Type 0} (b : Bool) (x : A) → some_if b x ≡ None → b ≡ false
none_of true x h = absurd (cc)
none_of false x h = refl

neither : (a b : Bool) → (a || b) ≡ false → (a ≡ false) × (b ≡ false)
neither true b h = absurd (false≢true (sym h))
neither false b h = (refl, h)

not_dead : (boot : System) (past : List Entry) (o : Option ℕ) (t : ℕ) → o ≡ Some t → is_dead boot past o ≡ false → live boot past t ≡ true
not_dead boot past o t is h = elim (live boot past t) as (λ b. not b ≡ false → b ≡ true) [
  | true ↦ λ k. refl
  | false ↦ λ k. absurd (false≢true (sym k))
] (ap (λ x. option_map_or (λ u. not (live boot past u)) x false) (sym is) ∙ h)

module _ (boot : System) (past : List Entry) (who : ℕ) (call : Call) where
  -- what it gets
  pub accepted-answer : refusal boot past who call ≡ None → answer boot past who call ≡ accepted_answer boot past (unwrap_or (task_of boot who) 0) call
  unfolding answer
  accepted-answer h = ap (λ r. option_map_or Refused r (accepted_answer boot past (unwrap_or (task_of boot who) 0) call)) h

  accepted-dead : refusal boot past who call ≡ None → (is_dead boot past (task_of boot who) || is_dead boot past (named_task call)) ≡ false
  unfolding refusal
  accepted-dead h = none_of _ Dead (first_some-none (causes boot past who call) (some_if (is_dead boot past (task_of boot who) || is_dead boot past (named_task call)) Dead) (inl refl) h)

  -- the bytes that it names are in range
  pub accepted-range : refusal boot past who call ≡ None → out_of_range boot call ≡ false
  unfolding refusal
  accepted-range h = none_of _ Range (first_some-none (causes boot past who call) (some_if (out_of_range boot call) Range) (inr (inr (inr (inr (inr (inl refl)))))) h)

  -- the caller's task is live, and so is the one that the call names
  pub accepted-live : (t : ℕ) → task_of boot who ≡ Some t → refusal boot past who call ≡ None → live boot past t ≡ true
  accepted-live t is h = not_dead boot past (task_of boot who) t is (neither (is_dead boot past (task_of boot who)) (is_dead boot past (named_task call)) (accepted-dead h)).0

  pub accepted-named : (t : ℕ) → named_task call ≡ Some t → refusal boot past who call ≡ None → live boot past t ≡ true
  accepted-named t is h = not_dead boot past (named_task call) t is (neither (is_dead boot past (task_of boot who)) (is_dead boot past (named_task call)) (accepted-dead h)).1

  -- what it names is declared
  pub fitting-names : IsTrue (fits boot who call) → names_fit boot call ≡ true
  fitting-names f = (and_parts (nat_lt who (Rattle.std.proofs.Common.length boot.sides) && same (is_task_call call) (is_some (task_of boot who))) (names_fit boot call) f).1

  -- it is one of the caller's side
  pub fitting-side : IsTrue (fits boot who call) → same (is_task_call call) (is_some (task_of boot who)) ≡ true
  fitting-side f = (and_parts (nat_lt who (Rattle.std.proofs.Common.length boot.sides)) (same (is_task_call call) (is_some (task_of boot who))) (and_parts (nat_lt who (Rattle.std.proofs.Common.length boot.sides) && same (is_task_call call) (is_some (task_of boot who))) (names_fit boot call) f).0).1
