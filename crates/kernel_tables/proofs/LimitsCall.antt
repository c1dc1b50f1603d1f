-- SetLimits: the limits of one task change.
use Rattle.std.proofs.Common.{◌≡◌, ℕ, ◌<◌, List, ◌∷◌, set, None, refl, sym, ap, ◌∙◌, subst, Bool, true, false, cond, length, nat_eq, nat_lt, ◌&&◌, arith}
use Rattle.std.specs.Prelude.{IsTrue}
use Rattle.std.proofs.lemmas.Bool.{and_parts}
use Rattle.std.proofs.lemmas.Bool.Decides.{nat_tests}
use Rattle.kern_ids.specs.declared.entries.Entry.{Entry}
use Rattle.kern_ids.specs.declared.calls.Limit.{Limit}
use Rattle.kern_ids.specs.declared.calls.Call.TheVariants.{SetLimits}
use Rattle.kern_ids.specs.declared.replies.Reply.TheVariants.{Limited}
use Rattle.kernel_model.specs.System.{System}
use Rattle.kernel_model.specs.Answers.{answer, refusal}
use Rattle.kernel_model.specs.Histories.{fits, limit_ok}
use Rattle.kernel_model.specs.Bands.{limits, Limits, sets_active}
use Rattle.kernel_model.specs.Laws.Kinds.{limits_entry}
use Rattle.kernel_model.proofs.Laws.Kept.{wish-kept, active-kept, placing-kept, band-kept, ticks-kept, counts_for_ageing-kept}
use Rattle.kernel_model.proofs.Laws.Kinds.{limits-set, sets_active-none}
use Rattle.task_ledger.specs.declared.account.Account.{Account}
use Rattle.task_ledger.specs.Accounts.{account_of}
use Rattle.idle_ageing.specs.Ageing.{Ageing}
use Rattle.kernel_tables.specs.Values.{TableValues, entry_of}
use Rattle.kernel_tables.specs.Stands.{Stands, AccountsStand, BandsStand, IsAccount}
use Rattle.kernel_tables.proofs.Kept.{kept-account, kept-bands}
use Rattle.kernel_tables.proofs.Accepted.{accepted-answer, fitting-names}
use Rattle.kernel_tables.proofs.TaskCalls.{OnlyTasks, only-live, only-counts, only-stands, accounts-set}

limits-only : (who t : ℕ) (a i : Limit) → OnlyTasks (limits_entry who t a i)
limits-only who t a i = record {
  map = λ o. refl;
  attach = λ o. refl;
  unmap = λ o. refl;
  exit = refl;
  write = λ p. refl;
  read = λ p. refl;
  wish = λ o. refl;
  set = refl;
  purged = refl;
  killed = refl;
  move = λ p. refl;
  deactivation = refl;
}

abbrev limited : Account → Limit → Limit → Account
limited account a i = record account { when_active = a; when_inactive = i }

module _ (boot : System) (who t : ℕ) (a i : Limit) (before : List Entry) where
  abbrev entry : Entry
  entry = limits_entry who t a i

  stays_active : (u : ℕ) → sets_active boot u entry ≡ None
  stays_active u = sets_active-none boot entry u refl

  limits_of : (u : ℕ) (b : Bool) → nat_eq u t ≡ b → limits boot (entry ∷ before) u ≡ cond b (record { when_active = a; when_inactive = i }) (limits boot before u)
  limits_of u b h = limits-set boot who t a i before u ∙ ap (λ x. cond x (record { when_active = a; when_inactive = i }) (limits boot before u)) h

  limits_here : (account : Account) → IsAccount boot before t account → IsAccount boot (entry ∷ before) t (limited account a i)
  limits_here account s =
      let same : nat_eq t t ≡ true = grind (arith, nat_tests) in
      record {
        live = s.live ∙ sym (only-live boot entry before (limits-only who t a i) t);
        counts = s.counts ∙ sym (only-counts boot entry before (limits-only who t a i) t);
        active = s.active ∙ sym (active-kept boot entry before t (stays_active t));
        when_active = sym (ap (λ (x : Limits). x.when_active) (limits_of t true same));
        when_inactive = sym (ap (λ (x : Limits). x.when_inactive) (limits_of t true same));
        internal = s.internal;
      }

  limits_other : (u : ℕ) (account : Account) → (u ≡ t → ⊥) → IsAccount boot before u account → IsAccount boot (entry ∷ before) u account
  limits_other u account differs s =
      let other : nat_eq u t ≡ false = grind (arith, nat_tests) in
      kept-account boot entry before u account (only-live boot entry before (limits-only who t a i) u) (only-counts boot entry before (limits-only who t a i) u) (active-kept boot entry before u (stays_active u)) (limits_of u false other) s

  limits_bands : (wishes : List ℕ) (bands : List (List ℕ)) (ages : Ageing) → BandsStand boot before wishes bands ages → BandsStand boot (entry ∷ before) wishes bands ages
  limits_bands wishes bands ages s =
      let lives = only-live boot entry before (limits-only who t a i) in
      let wished = λ (u : ℕ). wish-kept boot entry before u refl in
      let placed = λ (u : ℕ). placing-kept boot entry before u (rw (stays_active u) refl) in
      let same = λ (u : ℕ). band-kept boot entry before u (placed u) (wished u) in
      kept-bands boot entry before wishes bands ages lives wished same placed
      (λ u. ticks-kept boot entry before u (rw (stays_active u) refl) refl)
      (λ u. counts_for_ageing-kept boot entry before u (lives u) (active-kept boot entry before u (stays_active u)) (wished u) (same u)) s

-- the task is declared
pub limits-task : (tables : TableValues) (past : List Entry) (who t : ℕ) (a i : Limit) → IsTrue (fits tables.boot who (SetLimits t a i)) → Stands tables past → t < length tables.accounts
limits-task tables past who t a i f s =
    let names = fitting-names tables.boot past who (SetLimits t a i) f in
    let first : (nat_lt t (length tables.boot.tasks) && limit_ok a) ≡ true = (and_parts (nat_lt t (length tables.boot.tasks) && limit_ok a) (limit_ok i) names).0 in
    let declared : nat_lt t (length tables.boot.tasks) ≡ true = (and_parts (nat_lt t (length tables.boot.tasks)) (limit_ok a) first).0 in
    let count : length tables.accounts ≡ length tables.boot.tasks = s.accounts.account_count in
    grind (arith, nat_tests)

pub limits-reply : (boot : System) (past : List Entry) (who t : ℕ) (a i : Limit) → refusal boot past who (SetLimits t a i) ≡ None → Limited ≡ answer boot past who (SetLimits t a i)
limits-reply boot past who t a i h = sym (accepted-answer boot past who (SetLimits t a i) h)

pub limits-stand : (tables : TableValues) (past : List Entry) (who t : ℕ) (a i : Limit) (accounts : List Account) → accounts ≡ set tables.accounts t (limited (account_of tables.accounts t) a i) → IsTrue (fits tables.boot who (SetLimits t a i)) → refusal tables.boot past who (SetLimits t a i) ≡ None → Stands tables past → Stands (record tables { accounts = accounts }) (entry_of who (SetLimits t a i) Limited ∷ past)
limits-stand tables past who t a i accounts is f h s =
    let boot = tables.boot in
    let inside = limits-task tables past who t a i f s in
    let declared : t < length boot.tasks = subst (λ n. t < n) s.accounts.account_count inside in
    only-stands tables (limits_entry who t a i) past _ _ _ _ (limits-only who t a i) (f, limits-reply boot past who t a i h, s.legal) s
    (subst (AccountsStand boot (limits_entry who t a i ∷ past)) (sym is) (accounts-set boot (limits_entry who t a i) past tables.accounts t _ inside (limits_here boot who t a i past _ (s.accounts.accounts t declared)) (limits_other boot who t a i past) s.accounts))
    (limits_bands boot who t a i past _ _ _ s.bands)
