-- What a step gives the calls that ask for more than that they are accepted.
use Rattle.std.proofs.Common.{◌≡◌, ◌≢◌, refl, ap, Option, Some, true, ℕ, ◌+◌, ◌<◌, ◌≤◌, ◌^◌, List, length, map, None, sym, ◌∙◌, subst, arith, false}
use Rattle.std.specs.Prelude.{IsTrue}
use Rattle.std.specs.List.{range_with_len}
use Rattle.kern_ids.specs.declared.entries.Entry.{Entry}
use Rattle.kern_ids.specs.declared.calls.Call.{Call}
use Rattle.kern_ids.specs.declared.calls.Call.TheVariants.{Read, PurgeOne, Forced, Scan}
use Rattle.kern_ids.specs.declared.replies.Reply.TheVariants.{Purged, Nothing}
use Rattle.std.specs.Option.{option_map_or}
use Rattle.kernel_model.specs.Events.{task_of, purged_by}
use Rattle.kernel_model.specs.Choice.{pick, forced}
use Rattle.kernel_model.specs.Scan.{scan}
use Rattle.kernel_model.specs.Laws.Kinds.{is_purging_call}
use Rattle.kernel_model.proofs.Laws.Answers.{answer-tells, purge-none}
use Rattle.kernel_model.specs.System.{System}
use Rattle.kernel_model.specs.Contents.{byte}
use Rattle.kernel_model.specs.Pages.{entered}
use Rattle.kernel_model.specs.Answers.{refusal, answer}
use Rattle.kernel_model.specs.Histories.{fits}
use Rattle.kernel_model.proofs.Laws.Pages.{entered-le}
use Rattle.kernel_tables.specs.Values.{TableValues}
use Rattle.kernel_tables.specs.Seen.{SeesBytes}
use Rattle.kernel_tables.specs.Stands.{Stands}
use Rattle.kernel_tables.proofs.Accepted.{accepted-range, accepted-answer}
use Rattle.kernel_tables.proofs.AskLemmas.{of_kernel}

-- an accepted call of a kind
abbrev pub IsAsked : TableValues → List Entry → ℕ → Call → Type 0
IsAsked tables past who call = Stands tables past × (IsTrue (fits tables.boot who call) × (refusal tables.boot past who call ≡ None))

pub asked-as : (tables : TableValues) (past : List Entry) (who : ℕ) (call kind : Call) → call ≡ kind → Stands tables past → IsTrue (fits tables.boot who call) → refusal tables.boot past who call ≡ None → IsAsked tables past who kind
asked-as tables past who call kind is s f h = subst (IsAsked tables past who) is (s, (f, h))

-- a Read is given the bytes of the history
pub read-sees : (boot : System) (past : List Entry) (who : ℕ) (call : Call) (o off len : ℕ) (seen : List ℕ) → call ≡ Read o off len → refusal boot past who call ≡ None → SeesBytes boot past call seen → seen ≡ map (byte past o) (range_with_len off len)
read-sees boot past who call o off len seen is h sees =
    subst (λ c. SeesBytes boot past c seen) is sees (accepted-range boot past who (Read o off len) (subst (λ c. refusal boot past who c ≡ None) is h))

-- one page more can be counted
pub entered-room : (tables : TableValues) (past : List Entry) → Stands tables past → length past + 1 < 2 ^ 64 → tables.entered + 1 < 2 ^ 64
entered-room tables past s room =
    let same : tables.entered ≡ entered past = s.pages.entered in
    let most : entered past ≤ length past = entered-le past in
    omega (arith, same, most, room)

-- what a call would purge
purging : (o : Option ℕ) → purged_by (option_map_or Purged o Nothing) ≡ o
purging (Some o) = refl
purging None = refl

module _ (boot : System) (past : List Entry) (who : ℕ) where
  kernel_accepts : (call : Call) → task_of boot who ≡ None → is_purging_call call ≡ true → refusal boot past who call ≡ None
  unfolding refusal
  kernel_accepts PurgeOne none k = rw none refl
  kernel_accepts Forced none k = rw none refl
  kernel_accepts Scan none k = rw none refl
  kernel_accepts _ none k = absurd (cc)

  pub one-purges : (call : Call) → call ≡ PurgeOne → IsTrue (fits boot who call) → purged_by (answer boot past who call) ≡ pick boot past
  one-purges call is f =
      let f' = subst (λ c. IsTrue (fits boot who c)) is f in
      ap (λ c. purged_by (answer boot past who c)) is ∙ ap purged_by (accepted-answer boot past who PurgeOne (kernel_accepts PurgeOne (of_kernel boot who PurgeOne refl f') refl)) ∙ purging (pick boot past)

  pub forced-purges : (call : Call) → call ≡ Forced → IsTrue (fits boot who call) → purged_by (answer boot past who call) ≡ forced boot past
  forced-purges call is f =
      let f' = subst (λ c. IsTrue (fits boot who c)) is f in
      ap (λ c. purged_by (answer boot past who c)) is ∙ ap purged_by (accepted-answer boot past who Forced (kernel_accepts Forced (of_kernel boot who Forced refl f') refl)) ∙ purging (forced boot past)

  pub scan-purges : (call : Call) → call ≡ Scan → IsTrue (fits boot who call) → purged_by (answer boot past who call) ≡ purged_by (scan boot past)
  scan-purges call is f =
      let f' = subst (λ c. IsTrue (fits boot who c)) is f in
      ap (λ c. purged_by (answer boot past who c)) is ∙ ap purged_by (accepted-answer boot past who Scan (kernel_accepts Scan (of_kernel boot who Scan refl f') refl))

  no_purge : (call : Call) → call ≢ PurgeOne → call ≢ Forced → call ≢ Scan → is_purging_call call ≡ false
  no_purge PurgeOne a b c = absurd (a refl)
  no_purge Forced a b c = absurd (b refl)
  no_purge Scan a b c = absurd (c refl)
  no_purge _ a b c = refl

  pub others-purge : (call : Call) → call ≢ PurgeOne → call ≢ Forced → call ≢ Scan → None ≡ purged_by (answer boot past who call)
  others-purge call a b c = sym (purge-none (answer boot past who call) call (answer-tells boot past who call) (no_purge call a b c))
