-- The entries of an Exit and of a kill end their task.
use Rattle.std.proofs.Common.{◌≡◌, ℕ, ◌<◌, List, length, Some, None, refl, sym, ap, ◌∙◌, true, not, ◌&&◌, inl, inr, arith}
use Rattle.std.proofs.lemmas.Bool.{cases_lt, false≢true}
use Rattle.std.proofs.lemmas.List.{get_or_past}
use Rattle.kern_ids.specs.declared.entries.Entry.{Entry}
use Rattle.kern_ids.specs.declared.calls.Call.TheVariants.{Exit}
use Rattle.kern_ids.specs.declared.replies.Cause.{Cause}
use Rattle.kern_ids.specs.declared.replies.Reply.TheVariants.{Exited}
use Rattle.kernel_model.specs.System.{System}
use Rattle.kernel_model.specs.Events.{task_of}
use Rattle.kernel_model.specs.Mapping.{live, maps}
use Rattle.kernel_model.specs.Answers.{answer, refusal}
use Rattle.kernel_model.specs.Laws.Kinds.{exit_entry, killed_entry}
use Rattle.kernel_model.proofs.Laws.Kept.{placed-kept, touched_since-kept, written-kept, entered-kept, standing-kept, wish-kept, active-kept, limits-kept, placing-kept, ticks-kept}
use Rattle.kernel_model.proofs.Laws.Kinds.{live-exit, live-killed, maps-exit, maps-killed, deadlines-unmapped, sets_active-none}
use Rattle.kernel_model.proofs.Laws.State.{state-kept}
use Rattle.task_ledger.specs.declared.account.Account.{Account}
use Rattle.task_ledger.specs.Accounts.{account_of, no_account}
use Rattle.kernel_tables.specs.Ends.{IsEnding}
use Rattle.kernel_tables.specs.Stands.{AccountsStand}
use Rattle.kernel_tables.proofs.Accepted.{accepted-answer}
use Rattle.kernel_tables.proofs.MapCall.{runs-for}

pub exit-ends : (boot : System) (who t : ℕ) (past : List Entry) → task_of boot who ≡ Some t → IsEnding boot (exit_entry who) past t
exit-ends boot who t past by =
    let e : Entry = exit_entry who in
    record {
      lives = λ u. live-exit boot who past u ∙ ap (λ b. not b && live boot past u) (runs-for boot who t u by);
      mappers = λ o u. maps-exit boot who past o u ∙ ap (λ b. not b && maps boot past o u) (runs-for boot who t u by);
      states_kept = λ o. state-kept e past o refl refl refl;
      standing_kept = λ o. standing-kept e past o refl;
      placed_kept = λ p n. placed-kept boot e past p (rw n refl);
      marks_kept = λ p n. touched_since-kept boot e past p (rw n refl);
      written_kept = λ p. written-kept e past p refl;
      none_entered = entered-kept e past refl;
      deadlines_gone = deadlines-unmapped boot e past refl refl;
      wishes_kept = λ u. wish-kept boot e past u refl;
      activity_kept = λ u. active-kept boot e past u (sets_active-none boot e u refl);
      limits_kept = λ u. limits-kept boot e past u refl;
      placing_kept = λ u. placing-kept boot e past u (rw (sets_active-none boot e u refl) refl);
      ticks_kept = λ u. ticks-kept boot e past u (rw (sets_active-none boot e u refl) refl) refl;
    }

pub kill-ends : (boot : System) (who t : ℕ) (cause : Cause) (past : List Entry) → IsEnding boot (killed_entry who t cause) past t
kill-ends boot who t cause past =
    let e : Entry = killed_entry who t cause in
    record {
      lives = λ u. live-killed boot who t cause past u;
      mappers = λ o u. maps-killed boot who t cause past o u;
      states_kept = λ o. state-kept e past o refl refl refl;
      standing_kept = λ o. standing-kept e past o refl;
      placed_kept = λ p n. placed-kept boot e past p (rw n refl);
      marks_kept = λ p n. touched_since-kept boot e past p (rw n refl);
      written_kept = λ p. written-kept e past p refl;
      none_entered = entered-kept e past refl;
      deadlines_gone = deadlines-unmapped boot e past refl refl;
      wishes_kept = λ u. wish-kept boot e past u refl;
      activity_kept = λ u. active-kept boot e past u (sets_active-none boot e u refl);
      limits_kept = λ u. limits-kept boot e past u refl;
      placing_kept = λ u. placing-kept boot e past u (rw (sets_active-none boot e u refl) refl);
      ticks_kept = λ u. ticks-kept boot e past u (rw (sets_active-none boot e u refl) refl) refl;
    }

pub exit-reply : (boot : System) (past : List Entry) (who : ℕ) → refusal boot past who Exit ≡ None → Exited ≡ answer boot past who Exit
exit-reply boot past who a = sym (accepted-answer boot past who Exit a)

-- a task with a live account is declared
pub live-declared : (boot : System) (past : List Entry) (accounts : List Account) (t : ℕ) → AccountsStand boot past accounts → (account_of accounts t).live ≡ true → t < length boot.tasks
live-declared boot past accounts t s h = elim (cases_lt t (length accounts)) [
  | inl below ↦ (let n = s.account_count in omega (arith, n, below))
  | inr past_all ↦ absurd (false≢true (sym (ap (λ (a : Account). a.live) (get_or_past accounts t no_account past_all)) ∙ h))
]
