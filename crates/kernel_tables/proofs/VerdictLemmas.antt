-- Jetsam's verdict by the tables is the one over the history.
use Rattle.std.proofs.Common.{◌≡◌, ℕ, suc, zero, ◌+◌, ◌<◌, ◌≤◌, List, [], ◌∷◌, ◌++◌, length, find, Option, Some, None, get_or, refl, sym, ap, ap₂, ◌∙◌, subst, Bool, true, false, ◌&&◌, not, cond, nat_eq, nat_lt, nat_le, inl, inr, arith}
use Rattle.std.specs.List.{flat_map}
use Rattle.std.specs.Option.{option_map_or}
use Rattle.std.proofs.lemmas.Bool.{cases_Bool, cases_lt, false≢true, true≢false}
use Rattle.std.proofs.lemmas.List.{drop_more, get_or_past}
use Rattle.kern_ids.specs.declared.entries.Entry.{Entry}
use Rattle.kern_ids.specs.declared.calls.Limit.{Limit}
use Rattle.kern_ids.specs.declared.replies.Cause.TheVariants.{Limit as by_limit, HighWater, Pressure}
use Rattle.kern_ids.specs.declared.replies.Reply.{Reply}
use Rattle.kern_ids.specs.declared.replies.Reply.TheVariants.{Killed, Quiet as told_quiet, NoVictim as told_none}
use Rattle.kernel_model.specs.System.{System}
use Rattle.kernel_model.specs.Valid.{IsValidBoot}
use Rattle.kernel_model.specs.Mapping.{live, tasks_of}
use Rattle.kernel_model.specs.Pages.{free}
use Rattle.kernel_model.specs.Bands.{active, band, placing, wish, of_task, present_limit as limit_now}
use Rattle.kernel_model.specs.Victims.{victim, band_lt, least_task as least_over, over_fatal as fatal_now, over_soft as soft_now, is_eligible as eligible_now, is_over as over_now}
use Rattle.kernel_model.specs.Laws.Order.{Has, Rising, Keeps}
use Rattle.kernel_model.proofs.Laws.Order.{rising-append, has-append_cases, has-append_left, has-append_right, least-find}
use Rattle.kernel_model.proofs.Laws.Pressed.{band_lt-asym}
use Rattle.kernel_model.proofs.Laws.Queues.{has-range}
use Rattle.link_list.specs.KeyLists.{list_at, has}
use Rattle.priority_bands.specs.Banded.{tasks_from}
use Rattle.priority_bands.proofs.TasksFrom.{tasks_from_past}
use Rattle.task_ledger.specs.declared.account.Account.{Account}
use Rattle.task_ledger.specs.Accounts.{account_of, no_account, present_limit}
use Rattle.jetsam_pick.specs.declared.verdict.JetsamVerdict.{JetsamVerdict}
use Rattle.jetsam_pick.specs.declared.verdict.JetsamVerdict.TheVariants.{Quiet, NoVictim}
use Rattle.jetsam_pick.specs.Victims.{HoldLive, is_live, is_eligible, over_fatal, over_soft, least_task, verdict, killed_for}
use Rattle.kernel_tables.specs.Stands.{AccountsStand, IsAccount, HasBands, HasWishes}
use Rattle.kernel_tables.specs.Verdicts.{reply_of}
use Rattle.kernel_tables.proofs.Lists.{has-fact, fact-has}
use Rattle.kernel_tables.proofs.Placing.{task-there}
use Rattle.kernel_tables.proofs.TickCall.{within-band, rising-band, lower-band, ageing-in}

-- the tasks of a band and of those above it
more : (bands : List (List ℕ)) (b : ℕ) → b < length bands → tasks_from bands b ≡ list_at bands b ++ tasks_from bands (b + 1)
more bands b l = ap (λ (ls : List (List ℕ)). flat_map (λ tasks. tasks) ls) (drop_more bands b [] l)

in_one : (bands : List (List ℕ)) (rest low t : ℕ) → low + rest ≡ length bands → Has (tasks_from bands low) t → (b : ℕ) × (low ≤ b) × (b < length bands) × Has (list_at bands b) t
in_one bands zero low t e h = absurd (subst (λ (ts : List ℕ). Has ts t) (tasks_from_past bands low (omega arith)) h)
in_one bands (suc rest) low t e h = elim (has-append_cases (list_at bands low) (tasks_from bands (low + 1)) t (subst (λ (ts : List ℕ). Has ts t) (more bands low (omega arith)) h)) [
  | inl here ↦ (low, omega arith, omega arith, here)
  | inr there ↦ (let q = in_one bands rest (low + 1) t (omega arith) there in (q.0, (let m : low + 1 ≤ q.0 = q.1 in omega arith), q.2, q.3))
]

in_all : (bands : List (List ℕ)) (between low b t : ℕ) → low + between ≡ b → b < length bands → Has (list_at bands b) t → Has (tasks_from bands low) t
in_all bands zero low b t e l h =
    let same : b ≡ low = omega arith in
    subst (λ (ts : List ℕ). Has ts t) (sym (more bands low (omega arith))) (has-append_left (list_at bands low) (tasks_from bands (low + 1)) t (subst (λ n. Has (list_at bands n) t) same h))
in_all bands (suc between) low b t e l h =
    subst (λ (ts : List ℕ). Has ts t) (sym (more bands low (omega arith))) (has-append_right (list_at bands low) (tasks_from bands (low + 1)) t (in_all bands between (low + 1) b t (omega arith) l h))

find_within : (p q : ℕ → Bool) (xs : List ℕ) → ((x : ℕ) → Has xs x → p x ≡ q x) → find p xs ≡ find q xs
find_within p q [] h = refl
find_within p q (x ∷ xs) h = elim (cases_Bool (q x)) [
  | inl t ↦ rw (h x (inl refl), t) refl
  | inr f ↦ rw (h x (inl refl), f) (find_within p q xs (λ y m. h y (inr m)))
]

first_true : (a b : Bool) → (a && b) ≡ true → a ≡ true
first_true true b h = refl
first_true false b h = absurd (false≢true h)

same_test : (a b : Bool) → (a ≡ true → b ≡ true) → (b ≡ true → a ≡ true) → a ≡ b
same_test true b h k = sym (h refl)
same_test false true h k = k refl
same_test false false h k = refl

module _ (boot : System) (past : List Entry) (bands : List (List ℕ)) (count : length bands ≡ 21) (banded : HasBands boot past bands) where
  keeps_at : (b : ℕ) → b < length bands → Rattle.kernel_model.specs.Laws.Queues.KeepsBand boot past b (list_at bands b)
  keeps_at b l = banded b (omega (arith, count))

  rising_from : (rest low : ℕ) → low + rest ≡ length bands → Rising (band_lt boot past) (tasks_from bands low)
  rising_from zero low e = subst (Rising (band_lt boot past)) (sym (tasks_from_past bands low (omega arith))) tt
  rising_from (suc rest) low e =
      let inside : low < length bands = omega arith in
      subst (Rising (band_lt boot past)) (sym (more bands low inside))
      (rising-append (band_lt boot past) (list_at bands low) (tasks_from bands (low + 1)) (rising-band boot past low (list_at bands low) (keeps_at low inside)) (rising_from rest (low + 1) (omega arith))
      (λ t u ht hu.
      let q = in_one bands rest (low + 1) u (omega arith) hu in
      lower-band boot past low q.0 t u (within-band boot past low (list_at bands low) (keeps_at low inside) t ht).1 (within-band boot past q.0 (list_at bands q.0) (keeps_at q.0 q.2) u q.3).1 (let m : low + 1 ≤ q.0 = q.1 in omega arith)))

  found : (t : ℕ) → Has (tasks_from bands 0) t → (live boot past t ≡ true) × (t < length boot.tasks)
  found t h =
      let q = in_one bands (length bands) 0 t (omega arith) h in
      let w = within-band boot past q.0 (list_at bands q.0) (keeps_at q.0 q.2) t q.3 in
      (w.0, w.2)

  module _ (below : (t : ℕ) → t < length boot.tasks → band boot past t < 21) where
    finds : (t : ℕ) → t < length boot.tasks → live boot past t ≡ true → Has (tasks_from bands 0) t
    finds t l alive =
        let b = band boot past t in
        let small : b < length bands = (let m : b < 21 = below t l in omega (arith, count)) in
        let same : nat_eq b b ≡ true = grind (arith, Rattle.std.proofs.lemmas.Bool.Decides.nat_tests) in
        in_all bands b 0 b t (omega arith) small ((keeps_at b small).all t (task-there boot t l) (rw (alive, same) refl))

    -- all bands together keep the live tasks, the least first
    keeps_live : Keeps (tasks_of boot) (live boot past) (band_lt boot past) (tasks_from bands 0)
    keeps_live = record {
      rising = rising_from (length bands) 0 (omega arith);
      within = λ t h. task-there boot t (found t h).1;
      passes = λ t h. (found t h).0;
      all = λ t w h. (let r = has-range 0 (length boot.tasks) t w in finds t (let m : t < 0 + length boot.tasks = r.1 in omega arith) h);
    }

    least_found : (p : ℕ → Bool) → ((t : ℕ) → p t ≡ true → live boot past t ≡ true) → least_over boot past p ≡ find p (tasks_from bands 0)
    least_found p within = least-find (tasks_of boot) (live boot past) p (band_lt boot past) (tasks_from bands 0) (band_lt-asym boot past) within keeps_live

    module _ (accounts : List Account) (s : AccountsStand boot past accounts) where
      account_at : (t : ℕ) → t < length boot.tasks → IsAccount boot past t (account_of accounts t)
      account_at = s.accounts

      live_declared : (t : ℕ) → is_live accounts t ≡ true → t < length boot.tasks
      live_declared t h = elim (cases_lt t (length accounts)) [
        | inl l ↦ subst (λ n. t < n) s.account_count l
        | inr past_end ↦ absurd (false≢true (sym (ap (λ (a : Account). a.live) (get_or_past accounts t no_account past_end)) ∙ h))
      ]

      pub hold-live : HoldLive bands accounts
      hold-live t = same_test (has t (tasks_from bands 0)) (is_live accounts t)
          (λ h. let q = found t (has-fact t (tasks_from bands 0) h) in (account_at t q.1).live ∙ q.0)
          (λ h. let l = live_declared t h in fact-has t (tasks_from bands 0) (finds t l (sym (account_at t l).live ∙ h)))

      limit_at : (t : ℕ) → t < length boot.tasks → present_limit (account_of accounts t) ≡ limit_now boot past t
      limit_at t l =
          let a = account_at t l in
          ap (λ on. cond on (account_of accounts t).when_active (account_of accounts t).when_inactive) a.active
          ∙ ap₂ (λ (x y : Limit). cond (active boot past t) x y) a.when_active a.when_inactive

      over_at : (t : ℕ) → t < length boot.tasks → nat_lt (present_limit (account_of accounts t)).pages (account_of accounts t).counts.footprint ≡ over_now boot past t
      over_at t l = ap₂ (λ (x : Limit) (c : Rattle.kern_ids.specs.declared.replies.Counts.Counts). nat_lt x.pages c.footprint) (limit_at t l) (account_at t l).counts

      fatal_at : (t : ℕ) → t < length boot.tasks → over_fatal accounts t ≡ fatal_now boot past t
      fatal_at t l = ap₂ (λ x y. x && y) (ap₂ (λ x y. x && y) (account_at t l).live (over_at t l)) (ap (λ (x : Limit). x.fatal) (limit_at t l))

      eligible_at : (t : ℕ) → t < length boot.tasks → is_eligible accounts t ≡ eligible_now boot past t
      eligible_at t l = ap₂ (λ x y. x && not y) (account_at t l).live (account_at t l).internal

      soft_at : (t : ℕ) → t < length boot.tasks → over_soft accounts t ≡ soft_now boot past t
      soft_at t l = ap₂ (λ x y. x && y) (ap₂ (λ x y. x && y) (eligible_at t l) (over_at t l)) (ap (λ (x : Limit). not x.fatal) (limit_at t l))

      least_at : (p q : ℕ → Bool) → ((t : ℕ) → t < length boot.tasks → p t ≡ q t) → ((t : ℕ) → q t ≡ true → live boot past t ≡ true) → least_task bands p ≡ least_over boot past q
      least_at p q same within = find_within p q (tasks_from bands 0) (λ t h. same t (found t h).1) ∙ sym (least_found q within)

      fatal_live : (t : ℕ) → fatal_now boot past t ≡ true → live boot past t ≡ true
      fatal_live t h = first_true (live boot past t) (over_now boot past t) (first_true (live boot past t && over_now boot past t) (limit_now boot past t).fatal h)

      eligible_live : (t : ℕ) → eligible_now boot past t ≡ true → live boot past t ≡ true
      eligible_live t h = first_true (live boot past t) (not (of_task (λ task. task.internal) boot t false)) h

      soft_live : (t : ℕ) → soft_now boot past t ≡ true → live boot past t ≡ true
      soft_live t h = eligible_live t (first_true (eligible_now boot past t) (over_now boot past t) (first_true (eligible_now boot past t && over_now boot past t) (not (limit_now boot past t).fatal) h))

      abbrev decided : Option ℕ → Bool → Option ℕ → Option ℕ → JetsamVerdict
      decided a b c d = option_map_or (killed_for by_limit) a (cond b Quiet (option_map_or (killed_for HighWater) c (option_map_or (killed_for Pressure) d NoVictim)))

      abbrev told : Option ℕ → Bool → Option ℕ → Option ℕ → Reply
      told a b c d = option_map_or (λ t. Killed t by_limit) a (cond b told_quiet (option_map_or (λ t. Killed t HighWater) c (option_map_or (λ t. Killed t Pressure) d told_none)))

      told_is : (a : Option ℕ) (b : Bool) (c d : Option ℕ) → reply_of (decided a b c d) ≡ told a b c d
      told_is (Some t) b c d = refl
      told_is None true c d = refl
      told_is None false (Some t) d = refl
      told_is None false None (Some t) = refl
      told_is None false None None = refl

      pub verdict-victim : (free_in critical : ℕ) → free_in ≡ free boot past → critical ≡ boot.params.critical → reply_of (verdict free_in critical bands accounts) ≡ victim boot past
      unfolding victim
      verdict-victim free_in critical f c =
          told_is (least_task bands (over_fatal accounts)) (nat_le critical free_in) (least_task bands (over_soft accounts)) (least_task bands (is_eligible accounts))
          ∙ ap₂ (λ a b. told a b (least_task bands (over_soft accounts)) (least_task bands (is_eligible accounts))) (least_at (over_fatal accounts) (fatal_now boot past) fatal_at fatal_live) (ap₂ nat_le c f)
          ∙ ap₂ (λ a b. told (least_over boot past (fatal_now boot past)) (nat_le boot.params.critical (free boot past)) a b) (least_at (over_soft accounts) (soft_now boot past) soft_at soft_live) (least_at (is_eligible accounts) (eligible_now boot past) eligible_at eligible_live)

chosen : (a b : Bool) (g w : ℕ) → g < 21 → w < 21 → cond a 0 (cond b g w) < 21
chosen true b g w h k = omega arith
chosen false true g w h k = h
chosen false false g w h k = k

-- the band of a declared task is one of the bands
pub band-below : (boot : System) (past : List Entry) (wishes : List ℕ) → IsValidBoot boot → HasWishes boot past wishes → ((t : ℕ) → get_or wishes t 0 < 21) → (t : ℕ) → t < length boot.tasks → band boot past t < 21
unfolding band
band-below boot past wishes valid h small t l =
    let wished : wish boot past t < 21 = subst (λ n. n < 21) (h t l) (small t) in
    let g : of_task (λ task. task.ageing) boot t 0 ≤ 2 = (ageing-in boot valid t l).1 in
    chosen (placing boot past t).aged (nat_eq (wish boot past t) 0) (of_task (λ task. task.ageing) boot t 0) (wish boot past t) (omega arith) wished
