-- What the answer to a call can be, and so what a legal history's entries can be.
use Rattle.std.proofs.Common.{◌≡◌, ℕ, List, [], ◌∷◌, Option, Some, None, refl, sym, ap, ◌∙◌, Bool, true, false, not, if◌then◌else◌, inl, inr, nat_le, nat_lt}
use Rattle.std.specs.Option.{option_map_or, unwrap_or}
use Rattle.std.proofs.lemmas.Bool.{true≢false}
use Rattle.kern_ids.specs.declared.entries.Entry.{Entry}
use Rattle.kern_ids.specs.declared.ids.PageId.{PageId}
use Rattle.kern_ids.specs.declared.calls.Call.{Call}
use Rattle.kern_ids.specs.declared.calls.Call.TheVariants.{Scan, Jetsam, PurgeOne, Forced}
use Rattle.kern_ids.specs.declared.replies.Refusal.{Refusal}
use Rattle.kern_ids.specs.declared.replies.Refusal.TheVariants.{NoObject, Already, Invalid}
use Rattle.kern_ids.specs.declared.replies.Cause.{Cause}
use Rattle.kern_ids.specs.declared.replies.Reply.{Reply}
use Rattle.kern_ids.specs.declared.replies.Reply.TheVariants.{Purged, Moved, Refused, Nothing, Idle, Enough, Quiet, NoVictim}
use Rattle.kern_ids.specs.declared.replies.Move.TheVariants.{Deactivated}
use Rattle.kernel_model.specs.System.{System}
use Rattle.kernel_model.specs.Answers.{answer, accepted_answer, refusal, causes, shortage, no_object, already, invalid}
use Rattle.kernel_model.specs.Laws.Order.{Has}
use Rattle.kernel_model.specs.Choice.{pick, forced}
use Rattle.kernel_model.specs.Events.{task_of, purged_by}
use Rattle.kernel_model.specs.Histories.{IsLegal}
use Rattle.kernel_model.specs.Lists.{first_some, some_if}
use Rattle.kernel_model.specs.Pages.{free, inactive_pages}
use Rattle.kernel_model.specs.Scan.{scan, scan_rest, scan_inactive, first_active, first_inactive}
use Rattle.kernel_model.specs.Pages.{touched_since, written, stored_pages}
use Rattle.kernel_model.specs.Victims.{victim, killed_for, least_task, over_fatal, over_soft, is_eligible}
use Rattle.kernel_model.specs.Laws.Kinds.{tells, is_purging_call}

tell_if : (b : Bool) (x y : Reply) (call : Call) → tells x call ≡ true → tells y call ≡ true → tells (if b then x else y) call ≡ true
tell_if true x y call h k = h
tell_if false x y call h k = k

tell_some : {A : Type 0} (f : A → Reply) (o : Option A) (r : Reply) (call : Call) → ((x : A) → tells (f x) call ≡ true) → tells r call ≡ true → tells (option_map_or f o r) call ≡ true
tell_some f (Some x) r call h k = h x
tell_some f None r call h k = k

-- the scan moves, purges or does nothing; jetsam kills or doesn't
moves_tells : (boot : System) (past : List Entry) (p : PageId) (a b c : Bool) → tells (if a then Moved Rattle.kern_ids.specs.declared.replies.Move.TheVariants.Reactivated p else if b then Moved Rattle.kern_ids.specs.declared.replies.Move.TheVariants.Freed p else if c then Moved Rattle.kern_ids.specs.declared.replies.Move.TheVariants.Compressed p else Moved Rattle.kern_ids.specs.declared.replies.Move.TheVariants.Requeued p) Scan ≡ true
moves_tells boot past p true b c = refl
moves_tells boot past p false true c = refl
moves_tells boot past p false false true = refl
moves_tells boot past p false false false = refl

inactive_tells : (boot : System) (past : List Entry) (o : Option PageId) → tells (option_map_or (scan_inactive boot past) o Idle) Scan ≡ true
inactive_tells boot past (Some p) = moves_tells boot past p (touched_since boot past p) (not (written past p)) (nat_lt (stored_pages boot past) boot.params.store)
inactive_tells boot past None = refl

rest_tells : (boot : System) (past : List Entry) (o : Option ℕ) → tells (elim o [ Some o ↦ Purged o | None ↦ option_map_or (scan_inactive boot past) (first_inactive boot past) Idle ]) Scan ≡ true
rest_tells boot past (Some o) = refl
rest_tells boot past None = inactive_tells boot past (first_inactive boot past)

scan_tells : (boot : System) (past : List Entry) → tells (scan boot past) Scan ≡ true
unfolding scan
scan_tells boot past =
    tell_if (nat_le boot.params.target (free boot past)) Enough (if nat_lt (inactive_pages boot past) boot.params.inactive then option_map_or (Moved Deactivated) (first_active boot past) (scan_rest boot past) else scan_rest boot past) Scan refl
    (tell_if (nat_lt (inactive_pages boot past) boot.params.inactive) (option_map_or (Moved Deactivated) (first_active boot past) (scan_rest boot past)) (scan_rest boot past) Scan
    (tell_some (Moved Deactivated) (first_active boot past) (scan_rest boot past) Scan (λ p. refl) (rest_tells boot past (pick boot past)))
    (rest_tells boot past (pick boot past)))

victim_tells : (boot : System) (past : List Entry) → tells (victim boot past) Jetsam ≡ true
unfolding victim
victim_tells boot past =
    let kills = λ (cause : Cause) (o : Option ℕ) (r : Reply) (h : tells r Jetsam ≡ true). tell_some (killed_for cause) o r Jetsam (λ t. refl) h in
    kills Rattle.kern_ids.specs.declared.replies.Cause.TheVariants.Limit (least_task boot past (over_fatal boot past)) _
    (tell_if (nat_le boot.params.critical (free boot past)) Quiet _ Jetsam refl
    (kills Rattle.kern_ids.specs.declared.replies.Cause.TheVariants.HighWater (least_task boot past (over_soft boot past)) _
    (kills Rattle.kern_ids.specs.declared.replies.Cause.TheVariants.Pressure (least_task boot past (is_eligible boot past)) NoVictim refl)))

accepted_tells : (boot : System) (past : List Entry) (t : ℕ) (call : Call) → tells (accepted_answer boot past t call) call ≡ true
accepted_tells boot past t PurgeOne = tell_some Purged (pick boot past) Nothing PurgeOne (λ o. refl) refl
accepted_tells boot past t Forced = tell_some Purged (forced boot past) Nothing Forced (λ o. refl) refl
accepted_tells boot past t Scan = scan_tells boot past
accepted_tells boot past t Jetsam = victim_tells boot past
accepted_tells boot past t _ = refl

-- an answer that tells of a change is that to a call of its kind
pub answer-tells : (boot : System) (past : List Entry) (who : ℕ) (call : Call) → tells (answer boot past who call) call ≡ true
unfolding answer
answer-tells boot past who call = tell_some Refused (refusal boot past who call) (accepted_answer boot past (unwrap_or (task_of boot who) 0) call) call (λ why. refl) (accepted_tells boot past (unwrap_or (task_of boot who) 0) call)

pub legal-tells : (boot : System) (e : Entry) (before : List Entry) → IsLegal boot (e ∷ before) → tells e.reply e.call ≡ true
legal-tells boot e before h = rw h.1 (answer-tells boot before e.who e.call)

-- an answer is the refusal, or what the accepted call gets
pub data IsAnswered (boot : System) (past : List Entry) (who : ℕ) (call : Call) : Type 0 where
  refused : (why : Refusal) → refusal boot past who call ≡ Some why → answer boot past who call ≡ Refused why → IsAnswered boot past who call
  gets : refusal boot past who call ≡ None → answer boot past who call ≡ accepted_answer boot past (unwrap_or (task_of boot who) 0) call → IsAnswered boot past who call

answer_by : (boot : System) (past : List Entry) (who : ℕ) (call : Call) (r : Option Refusal) → refusal boot past who call ≡ r → IsAnswered boot past who call
unfolding answer
answer_by boot past who call (Some why) h = refused why h (ap (λ r. option_map_or Refused r (accepted_answer boot past (unwrap_or (task_of boot who) 0) call)) h)
answer_by boot past who call None h = gets h (ap (λ r. option_map_or Refused r (accepted_answer boot past (unwrap_or (task_of boot who) 0) call)) h)

pub answer-cases : (boot : System) (past : List Entry) (who : ℕ) (call : Call) → IsAnswered boot past who call
answer-cases boot past who call = answer_by boot past who call (refusal boot past who call) refl

-- an accepted call has none of the causes of a refusal
pub first_some-none : {A : Type 0} (xs : List (Option A)) (c : Option A) → Has xs c → first_some (λ x. x) xs ≡ None → c ≡ None
first_some-none [] c m h = absurd m
first_some-none (Some y ∷ xs) c m h = absurd (cc)
first_some-none (None ∷ xs) c (inl e) h = sym e
first_some-none (None ∷ xs) c (inr m) h = first_some-none xs c m h

pub accepted-shortage : (boot : System) (past : List Entry) (who : ℕ) (call : Call) → refusal boot past who call ≡ None → shortage boot past call ≡ None
unfolding refusal
accepted-shortage boot past who call h = first_some-none (causes boot past who call) (shortage boot past call) (inr (inr (inr (inr (inr (inr (inr (inl refl)))))))) h

some_if_none : {A : Type 0} (b : Bool) (x : A) → some_if b x ≡ None → b ≡ false
some_if_none true x h = absurd (cc)
some_if_none false x h = refl

module _ (boot : System) (past : List Entry) (who : ℕ) (call : Call) (h : refusal boot past who call ≡ None) where
  pub accepted-no_object : no_object boot past (unwrap_or (task_of boot who) 0) call ≡ false
  unfolding refusal
  accepted-no_object = some_if_none (no_object boot past (unwrap_or (task_of boot who) 0) call) NoObject (first_some-none (causes boot past who call) (some_if (no_object boot past (unwrap_or (task_of boot who) 0) call) NoObject) (inr (inr (inl refl))) h)

  pub accepted-already : already boot past (unwrap_or (task_of boot who) 0) call ≡ false
  unfolding refusal
  accepted-already = some_if_none (already boot past (unwrap_or (task_of boot who) 0) call) Already (first_some-none (causes boot past who call) (some_if (already boot past (unwrap_or (task_of boot who) 0) call) Already) (inr (inr (inr (inl refl)))) h)

  pub accepted-invalid : invalid call ≡ false
  unfolding refusal
  accepted-invalid = some_if_none (invalid call) Invalid (first_some-none (causes boot past who call) (some_if (invalid call) Invalid) (inr (inr (inr (inr (inl refl))))) h)

-- a reply that purges is that to a purging call
pub purge-none : (r : Reply) (c : Call) → tells r c ≡ true → is_purging_call c ≡ false → purged_by r ≡ None
purge-none (Purged o) c t s = absurd (true≢false (sym t ∙ s))
purge-none _ c t s = refl
