-- Active: a task becomes active or inactive. Where that changes and it wishes band 0, it goes to the tail of its ageing band, and counts there
-- from now on while it is inactive.
use Rattle.std.proofs.Common.{◌≡◌, ℕ, suc, ◌<◌, List, [], ◌∷◌, ◌++◌, set, length, Option, Some, None, refl, sym, ap, ap₂, ◌∙◌, subst, Bool, true, false, ◌&&◌, not, cond, nat_eq, get_or, inl, inr, arith}
use Rattle.std.specs.Prelude.{IsTrue, min}
use Rattle.std.specs.Option.{option_map_or, unwrap_or}
use Rattle.std.proofs.lemmas.Bool.{false≢true}
use Rattle.std.proofs.lemmas.Bool.Decides.{eqb_tells, nat_tests}
use Rattle.kern_ids.specs.declared.entries.Entry.{Entry}
use Rattle.kern_ids.specs.declared.calls.Call.TheVariants.{Active as SetActive}
use Rattle.kern_ids.specs.declared.replies.Reply.TheVariants.{Was}
use Rattle.kernel_model.specs.System.{System}
use Rattle.kernel_model.specs.Answers.{answer, refusal}
use Rattle.kernel_model.specs.Histories.{fits}
use Rattle.kernel_model.specs.Events.{task_of}
use Rattle.kernel_model.specs.Mapping.{live}
use Rattle.kernel_model.specs.Lists.{some_if}
use Rattle.kernel_model.specs.Bands.{Placing, active, differs, wish, limits, band, placing, ticks, counts_for_ageing, of_task}
use Rattle.kernel_model.specs.Laws.Kinds.{active_entry, runs_for}
use Rattle.kernel_model.proofs.Laws.Kept.{wish-kept, band-kept, limits-kept, counts_for_ageing-kept}
use Rattle.kernel_model.proofs.Laws.Kinds.{active-set, placing-active, ticks-active}
use Rattle.kernel_model.specs.Valid.{IsValidBoot}
use Rattle.kernel_model.proofs.Laws.Held.{declared_task}
use Rattle.link_list.specs.KeyLists.{list_at, without}
use Rattle.task_ledger.specs.declared.account.Account.{Account}
use Rattle.task_ledger.specs.Accounts.{account_of}
use Rattle.idle_ageing.specs.Ageing.{Ageing, count_of}
use Rattle.kernel_tables.specs.Values.{TableValues, entry_of}
use Rattle.kernel_tables.specs.Stands.{Stands, AccountsStand, BandsStand, HasBands, IsAccount, counted_ticks}
use Rattle.kernel_tables.proofs.Kept.{kept-account, kept-band}
use Rattle.kernel_tables.proofs.Accepted.{accepted-answer, accepted-live, fitting-side}
use Rattle.kernel_tables.proofs.TaskCalls.{OnlyTasks, only-live, only-counts, only-stands, accounts-set}
use Rattle.kernel_tables.proofs.Placing.{both-true, placed-bands, counted-kept, ages-one, nat-other}

active-only : (who : ℕ) (on was : Bool) → OnlyTasks (active_entry who on was)
active-only who on was = record {
  map = λ o. refl;
  attach = λ o. refl;
  unmap = λ o. refl;
  exit = refl;
  write = λ p. refl;
  read = λ p. refl;
  wish = λ o. refl;
  set = refl;
  purged = refl;
  killed = refl;
  move = λ p. refl;
  deactivation = refl;
}

abbrev counts_by : Bool → Bool → Bool → Bool → ℕ → ℕ → Option ℕ
counts_by l a z x n d = cond (((l && not a) && z) && x) (Some (min n d)) None

-- a task that moves counts from 0 while it is inactive
moved_count : (a on : Bool) (n d : ℕ) → differs a on ≡ true → counts_by true on true true (cond ((true && not on) && a) 0 n) d ≡ some_if (not on) 0
moved_count a true n d h = refl
moved_count true false n d h = let m : min 0 d ≡ 0 = omega arith in rw m refl
moved_count false false n d h = absurd (false≢true h)

and_off : (l b : Bool) → (l && b && false) ≡ false
and_off true true = refl
and_off true false = refl
and_off false b = refl

-- one that doesn't counts as before
still_count : (l a on z x : Bool) (n d : ℕ) → (differs a on && z) ≡ false → counts_by l on z x (cond ((true && not on) && a) 0 n) d ≡ counts_by l a z x n d
still_count l true true z x n d h = refl
still_count l false false z x n d h = refl
still_count l true false z x n d h = rw (h, and_off l true, and_off l false) refl
still_count l false true z x n d h = rw (h, and_off l true, and_off l false) refl

module _ (boot : System) (who t : ℕ) (on was : Bool) (before : List Entry) (is : task_of boot who ≡ Some t) where
  abbrev entry : Entry
  entry = active_entry who on was

  abbrev anew : Placing
  anew = record { aged = false; bstamp = (suc (length before), 0) }

  lives : (u : ℕ) → live boot (entry ∷ before) u ≡ live boot before u
  lives = only-live boot entry before (active-only who on was)

  wished : (u : ℕ) → wish boot (entry ∷ before) u ≡ wish boot before u
  wished u = wish-kept boot entry before u refl

  runs : (u : ℕ) (b : Bool) → nat_eq u t ≡ b → runs_for boot u who ≡ b
  runs u b h = ap (λ o. option_map_or (nat_eq u) o false) is ∙ h

  active_of : (u : ℕ) (b : Bool) → nat_eq u t ≡ b → active boot (entry ∷ before) u ≡ cond b on (active boot before u)
  active_of u b h = active-set boot who on was before u ∙ ap (λ x. cond x on (active boot before u)) (runs u b h)

  placing_of : (u : ℕ) (b m : Bool) → nat_eq u t ≡ b → ((b && differs (active boot before u) on) && nat_eq (wish boot before u) 0) ≡ m → placing boot (entry ∷ before) u ≡ cond m anew (placing boot before u)
  placing_of u b m h k = placing-active boot who on was before u ∙ ap (λ x. cond ((x && differs (active boot before u) on) && nat_eq (wish boot before u) 0) anew (placing boot before u)) (runs u b h) ∙ ap (λ x. cond x anew (placing boot before u)) k

  ticks_of : (u : ℕ) (b : Bool) → nat_eq u t ≡ b → ticks boot (entry ∷ before) u ≡ cond ((b && not on) && active boot before u) 0 (ticks boot before u)
  ticks_of u b h = ticks-active boot who on was before u ∙ ap (λ x. cond ((x && not on) && active boot before u) 0 (ticks boot before u)) (runs u b h)

  itself : nat_eq t t ≡ true
  itself = grind (arith, nat_tests)

  -- the other tasks
  band_there : (u : ℕ) → nat_eq u t ≡ false → band boot (entry ∷ before) u ≡ band boot before u
  band_there u h = band-kept boot entry before u (placing_of u false false h refl) (wished u)

  counted_there : (u : ℕ) → nat_eq u t ≡ false → counted_ticks boot (entry ∷ before) u ≡ counted_ticks boot before u
  counted_there u h = counted-kept boot entry before u (counts_for_ageing-kept boot entry before u (lives u) (active_of u false h) (wished u) (band_there u h)) (ticks_of u false h)

  -- the task, where it moves
  module _ (alive : live boot before t ≡ true) (moves : (differs (active boot before t) on && nat_eq (wish boot before t) 0) ≡ true) where
    changes : differs (active boot before t) on ≡ true
    changes = (both-true (differs (active boot before t) on) (nat_eq (wish boot before t) 0) moves).0

    lowest : nat_eq (wish boot before t) 0 ≡ true
    lowest = (both-true (differs (active boot before t) on) (nat_eq (wish boot before t) 0) moves).1

    band_here : band boot (entry ∷ before) t ≡ of_task (λ task. task.ageing) boot t 0
    unfolding band
    band_here = rw (placing_of t true true itself moves, wished t, lowest) refl

    counted_here : counted_ticks boot (entry ∷ before) t ≡ some_if (not on) 0
    unfolding counts_for_ageing
    counted_here =
        let g = of_task (λ task. task.ageing) boot t 0 in
        let same : nat_eq g g ≡ true = grind (arith, nat_tests) in
        rw (band_here, ticks_of t true itself, wished t, active_of t true itself, lives t, alive, lowest, same) (moved_count (active boot before t) on (ticks boot before t) (of_task (λ task. task.delay) boot t 0) changes)

  -- and where it doesn't
  module _ (stays : (differs (active boot before t) on && nat_eq (wish boot before t) 0) ≡ false) where
    placed_all : (u : ℕ) → placing boot (entry ∷ before) u ≡ placing boot before u
    placed_all u = elim (eqb_tells u t) [
      | inl same ↦ subst (λ v. placing boot (entry ∷ before) v ≡ placing boot before v) (sym same.1) (placing_of t true false itself stays)
      | inr other ↦ placing_of u false false other.0 refl
    ]

    band_all : (u : ℕ) → band boot (entry ∷ before) u ≡ band boot before u
    band_all u = band-kept boot entry before u (placed_all u) (wished u)

    counted_still : counted_ticks boot (entry ∷ before) t ≡ counted_ticks boot before t
    unfolding counts_for_ageing
    counted_still =
        rw (band_all t, ticks_of t true itself, wished t, active_of t true itself, lives t)
        (still_count (live boot before t) (active boot before t) on (nat_eq (wish boot before t) 0) (nat_eq (band boot before t) (of_task (λ task. task.ageing) boot t 0)) (ticks boot before t) (of_task (λ task. task.delay) boot t 0) stays)

  bands_by : (m : Bool) (old new : List (List ℕ)) → t < length boot.tasks → live boot before t ≡ true → (differs (active boot before t) on && nat_eq (wish boot before t) 0) ≡ m
      → ((b : ℕ) → b < 21 → list_at new b ≡ cond m (without t (list_at old b) ++ cond (nat_eq (of_task (λ task. task.ageing) boot t 0) b) (t ∷ []) []) (list_at old b))
      → HasBands boot before old → HasBands boot (entry ∷ before) new
  bands_by true old new declared alive moves each h =
      placed-bands boot entry before t (of_task (λ task. task.ageing) boot t 0) declared lives alive (λ u k. band_there u (nat-other t u k)) (λ u k. placing_of u false false (nat-other t u k) refl) (band_here alive moves) (ap (λ (x : Placing). x.bstamp) (placing_of t true true itself moves)) old new each h
  bands_by false old new declared alive stays each h =
      λ b l. kept-band boot entry before b (list_at new b) lives (band_all stays) (placed_all stays) (subst (Rattle.kernel_model.specs.Laws.Queues.KeepsBand boot before b) (sym (each b l)) (h b l))

  counted_by : (m : Bool) (x : Option ℕ) → live boot before t ≡ true → (differs (active boot before t) on && nat_eq (wish boot before t) 0) ≡ m → counted_ticks boot before t ≡ x → counted_ticks boot (entry ∷ before) t ≡ cond m (some_if (not on) 0) x
  counted_by true x alive moves old = counted_here alive moves
  counted_by false x alive stays old = counted_still stays ∙ old

  pub active-bands : (m : Bool) (wishes : List ℕ) (old new : List (List ℕ)) (ages later : Ageing) → t < length boot.tasks → live boot before t ≡ true → (differs (active boot before t) on && nat_eq (wish boot before t) 0) ≡ m
      → ((b : ℕ) → b < 21 → list_at new b ≡ cond m (without t (list_at old b) ++ cond (nat_eq (of_task (λ task. task.ageing) boot t 0) b) (t ∷ []) []) (list_at old b))
      → later.delays ≡ ages.delays
      → count_of later t ≡ cond m (some_if (not on) 0) (count_of ages t)
      → ((u : ℕ) → nat_eq u t ≡ false → count_of later u ≡ count_of ages u)
      → BandsStand boot before wishes old ages → BandsStand boot (entry ∷ before) wishes new later
  active-bands m wishes old new ages later declared alive moves each delays here others s = record {
    wish_count = s.wish_count;
    wishes = λ u lu. s.wishes u lu ∙ sym (wished u);
    bands = bands_by m old new declared alive moves each s.bands;
    delays = delays ∙ s.delays;
    ages = ages-one boot entry before t ages later (counted_by m (count_of ages t) alive moves (sym (s.ages t declared)) ∙ sym here) counted_there others s.ages;
  }

  account_here : (account : Account) → IsAccount boot before t account → IsAccount boot (entry ∷ before) t (record account { active = on })
  account_here account s = record {
    live = s.live ∙ sym (lives t);
    counts = s.counts ∙ sym (only-counts boot entry before (active-only who on was) t);
    active = sym (active_of t true itself);
    when_active = s.when_active ∙ sym (ap (λ (x : Rattle.kernel_model.specs.Bands.Limits). x.when_active) (limits-kept boot entry before t refl));
    when_inactive = s.when_inactive ∙ sym (ap (λ (x : Rattle.kernel_model.specs.Bands.Limits). x.when_inactive) (limits-kept boot entry before t refl));
    internal = s.internal;
  }

  account_other : (u : ℕ) (account : Account) → (u ≡ t → ⊥) → IsAccount boot before u account → IsAccount boot (entry ∷ before) u account
  account_other u account differs_from s =
      let other : nat_eq u t ≡ false = grind (arith, nat_tests) in
      kept-account boot entry before u account (lives u) (only-counts boot entry before (active-only who on was) u) (active_of u false other) (limits-kept boot entry before u refl) s

  pub active-accounts : (accounts : List Account) → t < length accounts → AccountsStand boot before accounts → t < length boot.tasks → AccountsStand boot (entry ∷ before) (set accounts t (record (account_of accounts t) { active = on }))
  active-accounts accounts l s declared = accounts-set boot entry before accounts t _ l (account_here _ (s.accounts t declared)) account_other s

-- the caller's task is declared
pub active-task : (boot : System) (past : List Entry) (who t : ℕ) (on : Bool) → IsValidBoot boot → IsTrue (fits boot who (SetActive on)) → task_of boot who ≡ Some t → t < length boot.tasks
active-task boot past who t on valid f is = subst (λ o. unwrap_or o 0 < length boot.tasks) is (declared_task boot who valid (fitting-side boot past who (SetActive on) f))

pub active-reply : (boot : System) (past : List Entry) (who t : ℕ) (on : Bool) (accounts : List Account) → task_of boot who ≡ Some t → t < length boot.tasks → AccountsStand boot past accounts → refusal boot past who (SetActive on) ≡ None → Was (account_of accounts t).active ≡ answer boot past who (SetActive on)
active-reply boot past who t on accounts is declared s h = ap Was ((s.accounts t declared).active ∙ ap (λ o. active boot past (unwrap_or o 0)) (sym is)) ∙ sym (accepted-answer boot past who (SetActive on) h)

pub active-stand : (tables : TableValues) (past : List Entry) (who t ageing : ℕ) (on was m : Bool) (accounts : List Account) (bands : List (List ℕ)) (ages : Ageing) (wishes : List ℕ)
    → IsTrue (fits tables.boot who (SetActive on)) → refusal tables.boot past who (SetActive on) ≡ None → Stands tables past
    → task_of tables.boot who ≡ Some t
    → t < length tables.boot.tasks
    → ageing ≡ of_task (λ task. task.ageing) tables.boot t 0
    → m ≡ (differs (account_of tables.accounts t).active on && nat_eq (get_or tables.wishes t 0) 0)
    → was ≡ (account_of tables.accounts t).active
    → accounts ≡ set tables.accounts t (record (account_of tables.accounts t) { active = on })
    → wishes ≡ tables.wishes
    → ((b : ℕ) → b < 21 → list_at bands b ≡ cond m (without t (list_at tables.bands b) ++ cond (nat_eq ageing b) (t ∷ []) []) (list_at tables.bands b))
    → ages.delays ≡ tables.ages.delays
    → count_of ages t ≡ cond m (some_if (not on) 0) (count_of tables.ages t)
    → ((u : ℕ) → nat_eq u t ≡ false → count_of ages u ≡ count_of tables.ages u)
    → Stands (record tables { accounts = accounts; bands = bands; ages = ages; wishes = wishes }) (entry_of who (SetActive on) (Was was) ∷ past)
active-stand tables past who t ageing on was m accounts bands ages wishes f h s is declared ages_in moves was_is accounts_set wishes_stay each delays here others =
    let boot = tables.boot in
    let inside : t < length tables.accounts = subst (λ n. t < n) (sym s.accounts.account_count) declared in
    let moved : (differs (active boot past t) on && nat_eq (wish boot past t) 0) ≡ m = sym (moves ∙ ap₂ (λ a w. differs a on && nat_eq w 0) (s.accounts.accounts t declared).active (s.bands.wishes t declared)) in
    only-stands tables (active_entry who on was) past accounts bands ages wishes (active-only who on was) (f, ap Was was_is ∙ active-reply boot past who t on tables.accounts is declared s.accounts h, s.legal) s
    (subst (AccountsStand boot (active_entry who on was ∷ past)) (sym accounts_set) (active-accounts boot who t on was past is tables.accounts inside s.accounts declared))
    (subst (λ ws. BandsStand boot (active_entry who on was ∷ past) ws bands ages) (sym wishes_stay)
    (active-bands boot who t on was past is m tables.wishes tables.bands bands tables.ages ages declared (accepted-live boot past who (SetActive on) t is h) moved
    (λ b l. each b l ∙ ap (λ g. cond m (without t (list_at tables.bands b) ++ cond (nat_eq g b) (t ∷ []) []) (list_at tables.bands b)) ages_in)
    delays here others s.bands))
