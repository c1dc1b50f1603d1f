-- The place that a verdict names is the first wrong one.
use Rattle.std.proofs.Common.{◌≡◌, ℕ, zero, suc, ◌+◌, ◌<◌, ◌≤◌, List, length, take, drop, Bool, true, false, Option, Some, None, refl, sym, ap, ◌∙◌, subst, arith, inl, inr}
use Rattle.std.specs.Prelude.{slice_get}
use Rattle.std.specs.Option.{option_and_then, option_map_or, unwrap_or}
use Rattle.std.specs.List.{range_with_len}
use Rattle.std.proofs.lemmas.Bool.{cases_eq, ltb-true}
use Rattle.std.proofs.lemmas.List.{length-take-le, take-append-drop}
use Rattle.std.proofs.lemmas.Option.{same_Some}
use Rattle.kern_ids.specs.declared.entries.Entry.{Entry}
use Rattle.kern_ids.specs.declared.replies.Reply.{Reply}
use Rattle.kernel_model.specs.Lists.{first_some, some_if}
use Rattle.kernel_model.specs.Scenario.{Plan, IsValid, script}
use Rattle.slow_kernel.specs.ObjectTables.{or_else}
use Rattle.replay_check.specs.declared.verdicts.Verdict.{Verdict}
use Rattle.replay_check.specs.declared.verdicts.Verdict.TheVariants.{Legal, WrongReply, WrongCall, Missing}
use Rattle.replay_check.specs.Same.{same_reply}
use Rattle.replay_check.specs.Verdicts.{is_next, reply_due, judged, entry_fault, fault_at, first_fault, has_more, unspent, verdict_of, IsFaultAt, IsFirstUnspent, IsFirstWrong}
use Rattle.kernel_model.specs.Whole.{of_thread}
use Rattle.replay_check.proofs.Faults.{first_some-cons, first_some-absent, fault_at-before}
use Rattle.replay_check.proofs.Begun.{spent-thread, unfaulted}

-- found at a number, and at none before it
pub record FoundFirst {B : Type 0} (f : ℕ → Option B) (v : B) (a n : ℕ) : Type 0 where
  pub at : ℕ
  pub low : a ≤ at
  pub high : at < a + n
  pub found : f at ≡ Some v
  pub before : (j : ℕ) → a ≤ j → j < at → f j ≡ None

first_some-first : {B : Type 0} (f : ℕ → Option B) (v : B) (a n : ℕ) → first_some f (range_with_len a n) ≡ Some v → FoundFirst f v a n
first_some-first f v a zero h = cc
first_some-first {B} f v a (suc n) h =
    elim (f a) as (λ (o : Option B). f a ≡ o → or_else o (first_some f (range_with_len (a + 1) n)) ≡ Some v → FoundFirst f v a (suc n)) [
      | Some x ↦ λ e g. record {
        at = a;
        low = omega arith;
        high = omega arith;
        found = e ∙ g;
        before = λ j l m. absurd (omega arith);
      }
      | None ↦ λ e g.
          let r = first_some-first f v (a + 1) n g in
          record {
            at = r.at;
            low = let l : a + 1 ≤ r.at = r.low in omega arith;
            high = let m : r.at < a + 1 + n = r.high in omega arith;
            found = r.found;
            before = λ j l m. elim (cases_eq j a) [
              | inl same ↦ ap f same ∙ e
              | inr other ↦ r.before j (omega arith) m
            ];
          }
    ] refl (sym (first_some-cons f a (range_with_len (a + 1) n)) ∙ h)

judged-at : (b c : Bool) (m : ℕ) (due : Reply) (v : Verdict) → judged b c m due ≡ Some v → IsFaultAt m v
judged-at false c m due v h = subst (IsFaultAt m) (same_Some (WrongCall m) v h) refl
judged-at true false m due v h = subst (IsFaultAt m) (same_Some (WrongReply m due) v h) refl
judged-at true true m due v h = cc

at_place : (s : Plan) (before : List Entry) (o : Option Entry) (v : Verdict) → option_and_then (entry_fault s before) o ≡ Some v → IsFaultAt (length before) v
unfolding entry_fault
at_place s before None v h = cc
at_place s before (Some e) v h = judged-at (is_next s before e) (same_reply e.reply (reply_due s before e)) (length before) (reply_due s before e) v h

one_place : (n m : ℕ) (v : Verdict) → IsFaultAt n v → IsFaultAt m v → m ≡ n
one_place n m (WrongCall place) h g = sym g ∙ h
one_place n m (WrongReply place due) h g = sym g ∙ h
one_place n m Legal h g = absurd h
one_place n m (Missing thread) h g = absurd h

fault-of : (f : Option Verdict) (u : Option ℕ) (n : ℕ) → IsFaultAt n (unwrap_or f (option_map_or Missing u Legal)) → f ≡ Some (unwrap_or f (option_map_or Missing u Legal))
fault-of (Some v) u n h = refl
fault-of None None n h = absurd h
fault-of None (Some thread) n h = absurd h

first-fault : (s : Plan) (h : List Entry) (n : ℕ) (v : Verdict) → IsFaultAt n v → verdict_of s h ≡ v → first_fault s h ≡ Some v
unfolding verdict_of
first-fault s h n v at is = fault-of (first_fault s h) (unspent s h) n (subst (IsFaultAt n) (sym is) at) ∙ ap Some is

first-found : (s : Plan) (h : List Entry) (v : Verdict) → first_fault s h ≡ Some v → FoundFirst (fault_at s h) v 0 (length h)
unfolding first_fault
first-found s h v e = first_some-first (fault_at s h) v 0 (length h) e

none-before : (s : Plan) (h : List Entry) (k : ℕ) → k ≤ length h → ((j : ℕ) → j < k → fault_at s h j ≡ None) → first_fault s (take k h) ≡ None
unfolding first_fault
none-before s h k l none =
    let long : length (take k h) ≡ k = length-take-le k h l in
    first_some-absent (fault_at s (take k h)) 0 (length (take k h)) (λ j low high.
    sym (fault_at-before s (take k h) (drop k h) j (omega arith)) ∙ ap (λ (whole : List Entry). fault_at s whole j) (take-append-drop k h) ∙ none j (omega arith))

pub first-wrong : (s : Plan) (h : List Entry) (n : ℕ) (v : Verdict) → IsValid s → IsFaultAt n v → verdict_of s h ≡ v → IsFirstWrong s h n v
first-wrong s h n v valid at is =
    let found = first-found s h v (first-fault s h n v at is) in
    let k : ℕ = found.at in
    let high : k < 0 + length h = found.high in
    let within : k < length h = omega arith in
    let long : length (take k h) ≡ k = length-take-le k h (omega arith) in
    let place : k ≡ n = sym long ∙ one_place n (length (take k h)) v at (at_place s (take k h) (slice_get h k) v found.found) in
    let right = unfaulted s (take k h) valid (none-before s h k (omega arith) (λ j l. found.before j (omega arith) l)) in
    subst (λ (m : ℕ). IsFirstWrong s h m v) place (record { within = within; wrong = found.found; legal = right.0; begun = right.1 })

-- no fault is that a call is missing
fault-missing : (s : Plan) (h : List Entry) (n : ℕ) → first_fault s h ≡ Some (Missing n) → ⊥
fault-missing s h n e =
    let found = first-found s h (Missing n) e in
    at_place s (take found.at h) (slice_get h found.at) (Missing n) found.found

missing-parts : (f : Option Verdict) (u : Option ℕ) (n : ℕ) → (f ≡ Some (Missing n) → ⊥) → unwrap_or f (option_map_or Missing u Legal) ≡ Missing n → (f ≡ None) × (u ≡ Some n)
missing-parts None None n never h = cc
missing-parts None (Some m) n never h = (refl, cc)
missing-parts (Some v) u n never h = absurd (never (ap Some h))

parts-missing : (s : Plan) (h : List Entry) (n : ℕ) → verdict_of s h ≡ Missing n → (first_fault s h ≡ None) × (unspent s h ≡ Some n)
unfolding verdict_of
parts-missing s h n e = missing-parts (first_fault s h) (unspent s h) n (fault-missing s h n) e

unspent-found : (s : Plan) (h : List Entry) (n : ℕ) → unspent s h ≡ Some n → FoundFirst (λ k. some_if (has_more s k (length (of_thread k h))) k) n 0 (length s.scripts)
unfolding unspent
unspent-found s h n e = first_some-first (λ (k : ℕ). some_if (has_more s k (length (of_thread k h))) k) n 0 (length s.scripts) e

some_if-some : (b : Bool) (k n : ℕ) → some_if b k ≡ Some n → (b ≡ true) × (k ≡ n)
some_if-some true k n h = (refl, same_Some k n h)
some_if-some false k n h = cc

pub first-unspent : (s : Plan) (h : List Entry) (n : ℕ) → IsValid s → verdict_of s h ≡ Missing n → IsFirstUnspent s h n
first-unspent s h n valid is =
    let parts = parts-missing s h n is in
    let right = unfaulted s h valid parts.0 in
    let found = unspent-found s h n parts.1 in
    let k : ℕ = found.at in
    let high : k < 0 + length s.scripts = found.high in
    let here = some_if-some (has_more s k (length (of_thread k h))) k n found.found in
    subst (IsFirstUnspent s h) here.1 (record {
      legal = right.0;
      begun = right.1;
      declared = omega arith;
      more = ltb-true (length (of_thread k h)) (length (script s k)) here.0;
      spent = λ m l. spent-thread s h m right.1 (omega arith) (found.before m (omega arith) l);
    })
