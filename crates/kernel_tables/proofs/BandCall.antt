-- SetBand: a task wishes a band, goes to its tail or to that of its ageing band, and counts there from now on where it wishes band 0.
use Rattle.std.proofs.Common.{◌≡◌, ℕ, suc, ◌<◌, List, [], ◌∷◌, ◌++◌, set, length, Some, None, refl, sym, ap, ◌∙◌, subst, Bool, true, false, ◌&&◌, not, cond, nat_eq, nat_lt, get_or, inl, inr, arith}
use Rattle.std.specs.Prelude.{IsTrue, min}
use Rattle.std.proofs.lemmas.Bool.Decides.{eqb_tells, nat_tests}
use Rattle.std.proofs.lemmas.List.{get_or-set_same, get_or-set_other, length-set}
use Rattle.kern_ids.specs.declared.entries.Entry.{Entry}
use Rattle.kern_ids.specs.declared.calls.Call.TheVariants.{SetBand}
use Rattle.kern_ids.specs.declared.replies.Reply.TheVariants.{Banded}
use Rattle.kernel_model.specs.System.{System}
use Rattle.kernel_model.specs.Answers.{answer, refusal}
use Rattle.kernel_model.specs.Histories.{fits}
use Rattle.kernel_model.specs.Mapping.{live}
use Rattle.kernel_model.specs.Lists.{some_if}
use Rattle.kernel_model.specs.Bands.{Placing, active, wish, band, placing, ticks, counts_for_ageing, of_task}
use Rattle.kernel_model.specs.Laws.Kinds.{band_entry}
use Rattle.kernel_model.proofs.Laws.Kept.{active-kept, band-kept, limits-kept, counts_for_ageing-kept}
use Rattle.kernel_model.proofs.Laws.Kinds.{wish-band, placing-band, ticks-band, sets_active-none}
use Rattle.link_list.specs.KeyLists.{list_at, without}
use Rattle.task_ledger.specs.declared.account.Account.{Account}
use Rattle.task_ledger.specs.Accounts.{account_of}
use Rattle.idle_ageing.specs.Ageing.{Ageing, count_of}
use Rattle.kernel_tables.specs.Values.{TableValues, entry_of}
use Rattle.kernel_tables.specs.Stands.{Stands, AccountsStand, BandsStand, HasWishes, counted_ticks}
use Rattle.kernel_tables.proofs.Kept.{kept-accounts}
use Rattle.kernel_tables.proofs.Accepted.{accepted-answer, accepted-named, fitting-names}
use Rattle.kernel_tables.proofs.TaskCalls.{OnlyTasks, only-live, only-counts, only-stands}
use Rattle.kernel_tables.proofs.Placing.{placed-bands, counted-kept, ages-one, nat-other}

band-only : (who t w : ℕ) → OnlyTasks (band_entry who t w)
band-only who t w = record {
  map = λ o. refl;
  attach = λ o. refl;
  unmap = λ o. refl;
  exit = refl;
  write = λ p. refl;
  read = λ p. refl;
  wish = λ o. refl;
  set = refl;
  purged = refl;
  killed = refl;
  move = λ p. refl;
  deactivation = refl;
}

-- where it wishes band 0 it is in its ageing band, and counts from 0 while it isn't active
begun : (a : Bool) (w g n d : ℕ) → cond (((true && not a) && nat_eq w 0) && nat_eq (cond (nat_eq w 0) g w) g) (Some (min (cond (true && nat_eq 0 w) 0 n) d)) None ≡ some_if (not a && nat_eq w 0) 0
begun true w g n d = refl
begun false w g n d = elim (eqb_tells w 0) [
  | inl same ↦
      let e : nat_eq g g ≡ true = grind (arith, nat_tests) in
      let z : nat_eq 0 w ≡ true = grind (arith, nat_tests) in
      let m : min 0 d ≡ 0 = omega arith in
      rw (same.0, e, z, m) refl
  | inr other ↦ rw other.0 refl
]

module _ (boot : System) (who t w : ℕ) (before : List Entry) where
  abbrev entry : Entry
  entry = band_entry who t w

  abbrev anew : Placing
  anew = record { aged = false; bstamp = (suc (length before), 0) }

  lives : (u : ℕ) → live boot (entry ∷ before) u ≡ live boot before u
  lives = only-live boot entry before (band-only who t w)

  activity : (u : ℕ) → active boot (entry ∷ before) u ≡ active boot before u
  activity u = active-kept boot entry before u (sets_active-none boot entry u refl)

  wish_of : (u : ℕ) (b : Bool) → nat_eq u t ≡ b → wish boot (entry ∷ before) u ≡ cond b w (wish boot before u)
  wish_of u b h = wish-band boot who t w before u ∙ ap (λ x. cond x w (wish boot before u)) h

  placing_of : (u : ℕ) (b : Bool) → nat_eq u t ≡ b → placing boot (entry ∷ before) u ≡ cond b anew (placing boot before u)
  placing_of u b h = placing-band boot who t w before u ∙ ap (λ x. cond x anew (placing boot before u)) h

  ticks_of : (u : ℕ) (b : Bool) → nat_eq u t ≡ b → ticks boot (entry ∷ before) u ≡ cond (b && nat_eq 0 w) 0 (ticks boot before u)
  ticks_of u b h = ticks-band boot who t w before u ∙ ap (λ x. cond (x && nat_eq 0 w) 0 (ticks boot before u)) h

  itself : nat_eq t t ≡ true
  itself = grind (arith, nat_tests)

  band_here : band boot (entry ∷ before) t ≡ cond (nat_eq w 0) (of_task (λ task. task.ageing) boot t 0) w
  unfolding band
  band_here = rw (placing_of t true itself, wish_of t true itself) refl

  band_there : (u : ℕ) → nat_eq u t ≡ false → band boot (entry ∷ before) u ≡ band boot before u
  band_there u h = band-kept boot entry before u (placing_of u false h) (wish_of u false h)

  counted_here : live boot before t ≡ true → counted_ticks boot (entry ∷ before) t ≡ some_if (not (active boot before t) && nat_eq w 0) 0
  unfolding counts_for_ageing
  counted_here alive = rw (band_here, ticks_of t true itself, wish_of t true itself, activity t, lives t, alive) (begun (active boot before t) w (of_task (λ task. task.ageing) boot t 0) (ticks boot before t) (of_task (λ task. task.delay) boot t 0))

  counted_there : (u : ℕ) → nat_eq u t ≡ false → counted_ticks boot (entry ∷ before) u ≡ counted_ticks boot before u
  counted_there u h = counted-kept boot entry before u (counts_for_ageing-kept boot entry before u (lives u) (activity u) (wish_of u false h) (band_there u h)) (ticks_of u false h)

  wishes_set : (wishes : List ℕ) → t < length wishes → HasWishes boot before wishes → HasWishes boot (entry ∷ before) (set wishes t w)
  wishes_set wishes l h u lu = elim (eqb_tells u t) [
    | inl same ↦ ap (λ v. get_or (set wishes t w) v 0) same.1 ∙ get_or-set_same wishes t w 0 l ∙ sym (wish_of u true same.0)
    | inr other ↦ get_or-set_other wishes t u w 0 other.1 ∙ h u lu ∙ sym (wish_of u false other.0)
  ]

  pub wished-bands : (wishes : List ℕ) (old new : List (List ℕ)) (ages later : Ageing) → t < length boot.tasks → live boot before t ≡ true
      → ((b : ℕ) → b < 21 → list_at new b ≡ without t (list_at old b) ++ cond (nat_eq (cond (nat_eq w 0) (of_task (λ task. task.ageing) boot t 0) w) b) (t ∷ []) [])
      → later.delays ≡ ages.delays
      → count_of later t ≡ some_if (not (active boot before t) && nat_eq w 0) 0
      → ((u : ℕ) → nat_eq u t ≡ false → count_of later u ≡ count_of ages u)
      → BandsStand boot before wishes old ages → BandsStand boot (entry ∷ before) (set wishes t w) new later
  wished-bands wishes old new ages later declared alive each delays here others s = record {
    wish_count = length-set wishes t w ∙ s.wish_count;
    wishes = wishes_set wishes (subst (λ n. t < n) (sym s.wish_count) declared) s.wishes;
    bands = placed-bands boot entry before t _ declared lives alive (λ u m. band_there u (nat-other t u m)) (λ u m. placing_of u false (nat-other t u m)) band_here (ap (λ (x : Placing). x.bstamp) (placing_of t true itself)) old new each s.bands;
    delays = delays ∙ s.delays;
    ages = ages-one boot entry before t ages later (counted_here alive ∙ sym here) counted_there others s.ages;
  }

  pub wished-accounts : (accounts : List Account) → AccountsStand boot before accounts → AccountsStand boot (entry ∷ before) accounts
  wished-accounts accounts s = kept-accounts boot entry before accounts lives (only-counts boot entry before (band-only who t w)) activity (λ u. limits-kept boot entry before u refl) s

pub band-reply : (boot : System) (past : List Entry) (who t w : ℕ) → refusal boot past who (SetBand t w) ≡ None → Banded ≡ answer boot past who (SetBand t w)
band-reply boot past who t w h = sym (accepted-answer boot past who (SetBand t w) h)

-- the task is declared
band-task : (boot : System) (past : List Entry) (who t w : ℕ) → IsTrue (fits boot who (SetBand t w)) → t < length boot.tasks
band-task boot past who t w f = let declared : nat_lt t (length boot.tasks) ≡ true = fitting-names boot past who (SetBand t w) f in grind (arith, nat_tests)

pub band-stand : (tables : TableValues) (past : List Entry) (who t w ageing : ℕ) (accounts : List Account) (bands : List (List ℕ)) (ages : Ageing) (wishes : List ℕ)
    → IsTrue (fits tables.boot who (SetBand t w)) → refusal tables.boot past who (SetBand t w) ≡ None → Stands tables past
    → ageing ≡ of_task (λ task. task.ageing) tables.boot t 0
    → accounts ≡ tables.accounts
    → wishes ≡ set tables.wishes t w
    → ((b : ℕ) → b < 21 → list_at bands b ≡ without t (list_at tables.bands b) ++ cond (nat_eq (cond (nat_eq w 0) ageing w) b) (t ∷ []) [])
    → ages.delays ≡ tables.ages.delays
    → count_of ages t ≡ some_if (not (account_of tables.accounts t).active && nat_eq w 0) 0
    → ((u : ℕ) → nat_eq u t ≡ false → count_of ages u ≡ count_of tables.ages u)
    → Stands (record tables { accounts = accounts; bands = bands; ages = ages; wishes = wishes }) (entry_of who (SetBand t w) Banded ∷ past)
band-stand tables past who t w ageing accounts bands ages wishes f h s ages_in accounts_stay wish_set each delays here others =
    let boot = tables.boot in
    let declared = band-task boot past who t w f in
    only-stands tables (band_entry who t w) past accounts bands ages wishes (band-only who t w) (f, band-reply boot past who t w h, s.legal) s
    (subst (AccountsStand boot (band_entry who t w ∷ past)) (sym accounts_stay) (wished-accounts boot who t w past tables.accounts s.accounts))
    (subst (λ ws. BandsStand boot (band_entry who t w ∷ past) ws bands ages) (sym wish_set)
    (wished-bands boot who t w past tables.wishes tables.bands bands tables.ages ages declared (accepted-named boot past who (SetBand t w) t refl h)
    (λ b l. each b l ∙ ap (λ g. without t (list_at tables.bands b) ++ cond (nat_eq (cond (nat_eq w 0) g w) b) (t ∷ []) []) ages_in)
    delays
    (here ∙ ap (λ a. some_if (not a && nat_eq w 0) 0) (s.accounts.accounts t declared).active)
    others s.bands))
