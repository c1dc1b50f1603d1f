-- What an accepted call of a task on an object tells.
use Rattle.std.proofs.Common.{◌≡◌, ℕ, ◌<◌, List, Option, Some, None, refl, sym, ap, ◌∙◌, subst, Bool, true, false, not, inl, inr, length, arith}
use Rattle.std.specs.Prelude.{IsTrue, is_some}
use Rattle.std.specs.Option.{option_map_or, unwrap_or}
use Rattle.std.proofs.lemmas.Bool.Decides.{nat_tests}
use Rattle.kern_ids.specs.declared.entries.Entry.{Entry}
use Rattle.kern_ids.specs.declared.calls.Call.{Call}
use Rattle.kern_ids.specs.declared.replies.Refusal.TheVariants.{NotMine}
use Rattle.kernel_model.specs.System.{System}
use Rattle.kernel_model.specs.Events.{task_of}
use Rattle.kernel_model.specs.Lists.{some_if}
use Rattle.kernel_model.specs.Answers.{refusal, causes, is_stranger, object_of, shares}
use Rattle.kernel_model.specs.Histories.{fits, same, is_task_call, declares_object}
use Rattle.kernel_model.proofs.Laws.Answers.{first_some-none}
use Rattle.kernel_model.proofs.Laws.Held.{not_false}
use Rattle.kernel_tables.proofs.Accepted.{fitting-side}

none_of : {A : Type 0} (b : Bool) (x : A) → some_if b x ≡ None → b ≡ false
none_of true x h = absurd (cc)
none_of false x h = refl

-- a declared number is below the count
pub declared : (boot : System) (o : ℕ) → declares_object boot o ≡ true → o < length boot.objects
declared boot o h = grind (arith, nat_tests)

module _ (boot : System) (past : List Entry) (who : ℕ) (call : Call) where
  accepted-mine : refusal boot past who call ≡ None → is_stranger boot (unwrap_or (task_of boot who) 0) call ≡ false
  unfolding refusal
  accepted-mine h = none_of _ NotMine (first_some-none (causes boot past who call) (some_if (is_stranger boot (unwrap_or (task_of boot who) 0) call) NotMine) (inr (inl refl)) h)

  -- the object is one of the caller's
  pub accepted-shares : (o t : ℕ) → object_of call ≡ Some o → task_of boot who ≡ Some t → refusal boot past who call ≡ None → shares boot o t ≡ true
  accepted-shares o t is by h =
      not_false (shares boot o t)
      (ap (λ (x : Option ℕ). not (shares boot o (unwrap_or x 0))) (sym by)
      ∙ ap (λ (x : Option ℕ). option_map_or (λ y. not (shares boot y (unwrap_or (task_of boot who) 0))) x false) (sym is)
      ∙ accepted-mine h)

  -- a call of tasks has one
  pub has-task : is_task_call call ≡ true → IsTrue (fits boot who call) → is_some (task_of boot who) ≡ true
  has-task k f = subst (λ b. same b (is_some (task_of boot who)) ≡ true) k (fitting-side boot past who call f)

-- the caller's task
pub caller : (boot : System) (who t : ℕ) → task_of boot who ≡ Some t → unwrap_or (task_of boot who) 0 ≡ t
caller boot who t by = ap (λ (x : Option ℕ). unwrap_or x 0) by
