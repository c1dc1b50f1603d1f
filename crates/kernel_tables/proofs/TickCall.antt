-- Tick: the tasks that are due go to band 0 in the order of their bands and count no more, and the others that count count one more.
use Rattle.std.proofs.Common.{◌≡◌, ℕ, suc, ◌+◌, ◌<◌, ◌≤◌, List, [], ◌∷◌, ◌++◌, length, filter, Some, None, get_or, refl, sym, ap, ap₂, ◌∙◌, subst, Bool, true, false, ◌&&◌, ◌||◌, not, cond, nat_eq, nat_lt, nat_le, inl, inr, ◌⊎◌, arith}
use Rattle.std.specs.Prelude.{IsTrue, min, slice_get}
use Rattle.std.specs.Option.{option_map_or, option_map}
use Rattle.std.proofs.lemmas.Bool.{cases_lt, lt-leb, le-leb, false≢true, true≢false}
use Rattle.std.proofs.lemmas.Bool.Decides.{nat_tests}
use Rattle.std.proofs.lemmas.List.FromFn.{length-map-range_with_len, get_or-map-range_with_len}
use Rattle.std.proofs.lemmas.List.Elements.{All-get_or}
use Rattle.std.proofs.lemmas.Option.{get_or_from_slice_get}
use Rattle.std.proofs.lemmas.List.{length-map}
use Rattle.kern_ids.specs.declared.entries.Entry.{Entry}
use Rattle.kern_ids.specs.declared.calls.Call.TheVariants.{Tick}
use Rattle.kern_ids.specs.declared.replies.Reply.TheVariants.{Aged}
use Rattle.kernel_model.specs.declared.boot.TaskBoot.{TaskBoot}
use Rattle.kernel_model.specs.System.{System}
use Rattle.kernel_model.specs.Valid.{IsValidBoot, IsValidTask}
use Rattle.kernel_model.specs.Answers.{answer, refusal}
use Rattle.kernel_model.specs.Histories.{fits, IsLegal}
use Rattle.kernel_model.specs.Mapping.{live, tasks_of}
use Rattle.kernel_model.specs.Lists.{pair_lt, in_order}
use Rattle.kernel_model.specs.Victims.{band_lt}
use Rattle.kernel_model.specs.Bands.{Placing, active, wish, band, bstamp, placing, ticks, counts_for_ageing, due, of_task}
use Rattle.kernel_model.specs.Laws.Kinds.{tick_entry}
use Rattle.kernel_model.specs.Laws.Order.{Has, Rising, Keeps, Distinct}
use Rattle.kernel_model.specs.Laws.Queues.{KeepsBand, bstamp_lt}
use Rattle.kernel_model.proofs.Laws.Kept.{wish-kept, active-kept, band-kept, limits-kept, counts_for_ageing-kept}
use Rattle.kernel_model.proofs.Laws.Kinds.{placing-tick, ticks-tick, sets_active-none}
use Rattle.kernel_model.proofs.Laws.Order.{rising-filter, rising-append, rising-agree, filter-has, has-filter, has-append_cases, has-append_left, has-append_right, in_order-keeps}
use Rattle.kernel_model.proofs.Laws.Queues.{band-enter, has-range, distinct-range}
use Rattle.kernel_model.proofs.Laws.Pressed.{bstamps-differ, band_lt-asym, band_lt-trans}
use Rattle.link_list.specs.KeyLists.{list_at, has}
use Rattle.task_ledger.specs.declared.account.Account.{Account}
use Rattle.idle_ageing.specs.Ageing.{Ageing, count_of, delay_of, one_more, counted, is_due, aged, ticked}
use Rattle.kernel_tables.specs.Values.{TableValues, entry_of}
use Rattle.kernel_tables.specs.Stands.{Stands, AccountsStand, BandsStand, HasBands, counted_ticks}
use Rattle.kernel_tables.proofs.Kept.{kept-accounts}
use Rattle.kernel_tables.proofs.Lists.{at-some, get_or-mapped, has-fact, fact-has}
use Rattle.kernel_tables.proofs.Accepted.{accepted-answer}
use Rattle.kernel_tables.proofs.TaskCalls.{OnlyTasks, only-live, only-counts, only-stands}
use Rattle.kernel_tables.proofs.Placing.{nat-is, both-true}
use Rattle.kernel_tables.proofs.Positions.{placed_all, placed_all-at, place_in, position-place, position-none, rising-places}

tick-only : (who : ℕ) (line : List ℕ) → OnlyTasks (tick_entry who line)
tick-only who line = record {
  map = λ o. refl;
  attach = λ o. refl;
  unmap = λ o. refl;
  exit = refl;
  write = λ p. refl;
  read = λ p. refl;
  wish = λ o. refl;
  set = refl;
  purged = refl;
  killed = refl;
  move = λ p. refl;
  deactivation = refl;
}

-- a count that stands still at the delay reaches it by the same Tick
reached : (c : Bool) (n d : ℕ) → option_map_or (λ k. nat_le d (k + 1)) (cond c (Some (min n d)) None) false ≡ (c && nat_le d (n + 1))
reached true n d = elim (cases_lt (n + 1) d) [
  | inl below ↦ lt-leb d (min n d + 1) (omega arith) ∙ sym (lt-leb d (n + 1) below)
  | inr past ↦ le-leb d (min n d + 1) (omega arith) ∙ sym (le-leb d (n + 1) past)
]
reached false n d = refl

-- and counts on by one
counts_on : (c : Bool) (n d : ℕ) → option_map (one_more d) (cond c (Some (min n d)) None) ≡ cond c (Some (min (n + 1) d)) None
counts_on true n d = ap Some (let e : min (min n d + 1) d ≡ min (n + 1) d = omega arith in e)
counts_on false n d = refl

last_off : (b : Bool) → (b && false) ≡ false
last_off true = refl
last_off false = refl

-- two tasks of different stamps are in one order
lower_first : (a b : ℕ) (p q : ℕ × ℕ) → a < b → (nat_lt a b || (nat_eq a b && pair_lt p q)) ≡ true
lower_first a b p q h = grind (arith, nat_tests)

lower_second : (a b : ℕ) (p q : ℕ × ℕ) → a ≡ b → pair_lt p q ≡ true → (nat_lt a b || (nat_eq a b && pair_lt p q)) ≡ true
lower_second a b p q e h = grind (arith, nat_tests)

pair_first : (p q : ℕ × ℕ) → p.0 < q.0 → pair_lt p q ≡ true
pair_first p q h = grind (arith, nat_tests)

pair_second : (p q : ℕ × ℕ) → p.0 ≡ q.0 → p.1 < q.1 → pair_lt p q ≡ true
pair_second p q e h = grind (arith, nat_tests)

pair_total : (p q : ℕ × ℕ) → (p ≡ q → ⊥) → (pair_lt p q ≡ true) ⊎ (pair_lt q p ≡ true)
pair_total p q d = elim (cases_lt p.0 q.0) [
  | inl l ↦ inl (pair_first p q l)
  | inr ge ↦ elim (cases_lt q.0 p.0) [
    | inl g ↦ inr (pair_first q p g)
    | inr le ↦ (let e : p.0 ≡ q.0 = omega arith in elim (cases_lt p.1 q.1) [
      | inl l ↦ inl (pair_second p q e l)
      | inr ge' ↦ elim (cases_lt q.1 p.1) [
        | inl g ↦ inr (pair_second q p (sym e) g)
        | inr le' ↦ absurd (d (let f : p.1 ≡ q.1 = omega arith in ap₂ (λ x y. (x, y)) e f))
      ]
    ])
  ]
]

lower_total : (a b : ℕ) (p q : ℕ × ℕ) → (p ≡ q → ⊥) → ((nat_lt a b || (nat_eq a b && pair_lt p q)) ≡ true) ⊎ ((nat_lt b a || (nat_eq b a && pair_lt q p)) ≡ true)
lower_total a b p q d = elim (cases_lt a b) [
  | inl l ↦ inl (lower_first a b p q l)
  | inr ge ↦ elim (cases_lt b a) [
    | inl g ↦ inr (lower_first b a q p g)
    | inr le ↦ (let e : a ≡ b = omega arith in elim (pair_total p q d) [ inl l ↦ inl (lower_second a b p q e l) | inr g ↦ inr (lower_second b a q p (sym e) g) ])
  ]
]

pub band_lt-total : (boot : System) (past : List Entry) → IsLegal boot past → (t u : ℕ) → (t ≡ u → ⊥) → (band_lt boot past t u ≡ true) ⊎ (band_lt boot past u t ≡ true)
band_lt-total boot past legal t u d = lower_total (band boot past t) (band boot past u) (bstamp boot past t) (bstamp boot past u) (bstamps-differ boot past t u legal d)

-- the tasks of one band are in the order of all bands, and below those of a higher one
pub within-band : (boot : System) (past : List Entry) (b : ℕ) (ts : List ℕ) → KeepsBand boot past b ts → (t : ℕ) → Has ts t → (live boot past t ≡ true) × (band boot past t ≡ b) × (t < length boot.tasks)
within-band boot past b ts k t h =
    let p = both-true (live boot past t) (nat_eq (band boot past t) b) (k.passes t h) in
    let r = has-range 0 (length boot.tasks) t (k.within t h) in
    (p.0, nat-is (band boot past t) b p.1, (let l : t < 0 + length boot.tasks = r.1 in omega arith))

pub rising-band : (boot : System) (past : List Entry) (b : ℕ) (ts : List ℕ) → KeepsBand boot past b ts → Rising (band_lt boot past) ts
rising-band boot past b ts k =
    let lt : nat_lt b b ≡ false = grind (arith, nat_tests) in
    let eq : nat_eq b b ≡ true = grind (arith, nat_tests) in
    rising-agree (bstamp_lt boot past) (band_lt boot past) ts
    (λ x y hx hy. rw ((within-band boot past b ts k x hx).1, (within-band boot past b ts k y hy).1, lt, eq) refl)
    k.rising

pub lower-band : (boot : System) (past : List Entry) (a b t u : ℕ) → band boot past t ≡ a → band boot past u ≡ b → a < b → band_lt boot past t u ≡ true
lower-band boot past a b t u ht hu l = lower_first (band boot past t) (band boot past u) (bstamp boot past t) (bstamp boot past u) (rw (ht, hu) l)

-- a declared task's boot
task-valid : (boot : System) → IsValidBoot boot → (t : ℕ) → t < length boot.tasks → (task : TaskBoot) × (slice_get boot.tasks t ≡ Some task) × IsValidTask task
task-valid boot valid t l =
    let q = at-some boot.tasks t l in
    (q.0, q.1, subst IsValidTask (get_or_from_slice_get boot.tasks t q.0 q.0 q.1) (All-get_or IsValidTask boot.tasks t q.0 l valid.tasks))

pub ageing-in : (boot : System) → IsValidBoot boot → (t : ℕ) → t < length boot.tasks → (1 ≤ of_task (λ task. task.ageing) boot t 0) × (of_task (λ task. task.ageing) boot t 0 ≤ 2)
ageing-in boot valid t l =
    let q = task-valid boot valid t l in
    let e : of_task (λ task. task.ageing) boot t 0 ≡ q.0.ageing = ap (λ o. option_map_or (λ task. task.ageing) o 0) q.1 in
    (subst (λ n. 1 ≤ n) (sym e) q.2.ages, subst (λ n. n ≤ 2) (sym e) q.2.ageing)

one_or_two : (n : ℕ) → 1 ≤ n → n ≤ 2 → (n ≡ 1) ⊎ (n ≡ 2)
one_or_two n a b = elim (cases_lt n 2) [ inl l ↦ inl (omega arith) | inr g ↦ inr (omega arith) ]

module _ (boot : System) (past : List Entry) (valid : IsValidBoot boot) (legal : IsLegal boot past) (wishes : List ℕ) (bands : List (List ℕ)) (ages : Ageing) (s : BandsStand boot past wishes bands ages) where
  abbrev line : List ℕ
  line = aged ages bands

  delay_in : (t : ℕ) → t < length boot.tasks → delay_of ages t ≡ of_task (λ task. task.delay) boot t 0
  delay_in t l =
      let q = at-some boot.tasks t l in
      ap (λ ds. get_or ds t 0) s.delays ∙ get_or-mapped (λ (task : TaskBoot). task.delay) boot.tasks t q.0 0 q.1 ∙ sym (ap (λ o. option_map_or (λ (task : TaskBoot). task.delay) o 0) q.1)

  due_in : (t : ℕ) → t < length boot.tasks → is_due ages t ≡ due boot past t
  unfolding due
  due_in t l =
      ap₂ (λ d c. option_map_or (λ k. nat_le d (k + 1)) c false) (delay_in t l) (s.ages t l)
      ∙ reached (counts_for_ageing boot past t) (ticks boot past t) (of_task (λ task. task.delay) boot t 0)

  first : KeepsBand boot past 1 (list_at bands 1)
  first = s.bands 1 (let l : 1 < 21 = omega arith in l)

  second : KeepsBand boot past 2 (list_at bands 2)
  second = s.bands 2 (let l : 2 < 21 = omega arith in l)

  -- a task that is due is live, and stands in its ageing band
  due_parts : (t : ℕ) → due boot past t ≡ true → (live boot past t ≡ true) × (band boot past t ≡ of_task (λ task. task.ageing) boot t 0)
  unfolding due counts_for_ageing
  due_parts t h =
      let g = of_task (λ task. task.ageing) boot t 0 in
      let a = both-true (((live boot past t && not (active boot past t)) && nat_eq (wish boot past t) 0) && nat_eq (band boot past t) g) (nat_le (of_task (λ task. task.delay) boot t 0) (ticks boot past t + 1)) h in
      let b = both-true ((live boot past t && not (active boot past t)) && nat_eq (wish boot past t) 0) (nat_eq (band boot past t) g) a.0 in
      let c = both-true (live boot past t && not (active boot past t)) (nat_eq (wish boot past t) 0) b.0 in
      ((both-true (live boot past t) (not (active boot past t)) c.0).0, nat-is (band boot past t) g b.1)

  stands_at : (b t : ℕ) → live boot past t ≡ true → band boot past t ≡ b → (live boot past t && nat_eq (band boot past t) b) ≡ true
  stands_at b t l e = let same : nat_eq b b ≡ true = grind (arith, nat_tests) in rw (l, e, same) refl

  line_task : (t : ℕ) → Has line t → (t < length boot.tasks) × (Has (tasks_of boot) t) × (is_due ages t ≡ true) × (live boot past t ≡ true)
  line_task t h =
      let q = filter-has (is_due ages) (list_at bands 1 ++ list_at bands 2) t h in
      elim (has-append_cases (list_at bands 1) (list_at bands 2) t q.0) [
        | inl m ↦ (let w = within-band boot past 1 (list_at bands 1) first t m in (w.2, first.within t m, q.1, w.0))
        | inr m ↦ (let w = within-band boot past 2 (list_at bands 2) second t m in (w.2, second.within t m, q.1, w.0))
      ]

  line_rising : Rising (band_lt boot past) line
  line_rising = rising-filter (band_lt boot past) (is_due ages) (list_at bands 1 ++ list_at bands 2)
      (rising-append (band_lt boot past) (list_at bands 1) (list_at bands 2) (rising-band boot past 1 (list_at bands 1) first) (rising-band boot past 2 (list_at bands 2) second)
      (λ x y hx hy. lower-band boot past 1 2 x y (within-band boot past 1 (list_at bands 1) first x hx).1 (within-band boot past 2 (list_at bands 2) second y hy).1 (omega arith)))

  line_has : (t : ℕ) → Has (tasks_of boot) t → due boot past t ≡ true → Has line t
  line_has t w h =
      let r = has-range 0 (length boot.tasks) t w in
      let l : t < length boot.tasks = (let m : t < 0 + length boot.tasks = r.1 in omega arith) in
      let p = due_parts t h in
      let g = ageing-in boot valid t l in
      has-filter (is_due ages) (list_at bands 1 ++ list_at bands 2) t
      (elim (one_or_two (of_task (λ task. task.ageing) boot t 0) g.0 g.1) [
        | inl e ↦ has-append_left (list_at bands 1) (list_at bands 2) t (first.all t w (stands_at 1 t p.0 (p.1 ∙ e)))
        | inr e ↦ has-append_right (list_at bands 1) (list_at bands 2) t (second.all t w (stands_at 2 t p.0 (p.1 ∙ e)))
      ])
      (due_in t l ∙ h)

  line_keeps : Keeps (tasks_of boot) (due boot past) (band_lt boot past) line
  line_keeps = record {
    rising = line_rising;
    within = λ t h. (line_task t h).1;
    passes = λ t h. (let q = line_task t h in sym (due_in t q.0) ∙ q.2);
    all = line_has;
  }

  pub line-is : in_order (band_lt boot past) (filter (due boot past) (tasks_of boot)) ≡ line
  line-is = in_order-keeps (tasks_of boot) (due boot past) (band_lt boot past) line (band_lt-asym boot past) (band_lt-trans boot past) (λ t u ht hu d. band_lt-total boot past legal t u d) (distinct-range 0 (length boot.tasks)) line_keeps

  not_before : (t : ℕ) (xs : List ℕ) → Rising (band_lt boot past) xs → ((y : ℕ) → Has xs y → band_lt boot past t y ≡ true) → Has xs t → ⊥
  not_before t xs r h m = true≢false (sym (h t m) ∙ band_lt-asym boot past t t (h t m))

  distinct_line : (xs : List ℕ) → Rising (band_lt boot past) xs → Distinct xs
  distinct_line [] r = tt
  distinct_line (x ∷ xs) r = (not_before x xs r.1 r.0, distinct_line xs r.1)

  pub line-distinct : Distinct line
  line-distinct = distinct_line line line_rising

  -- the entry
  module _ (who : ℕ) where
    abbrev entry : Entry
    entry = tick_entry who line

    lives : (u : ℕ) → live boot (entry ∷ past) u ≡ live boot past u
    lives = only-live boot entry past (tick-only who line)

    wished : (u : ℕ) → wish boot (entry ∷ past) u ≡ wish boot past u
    wished u = wish-kept boot entry past u refl

    activity : (u : ℕ) → active boot (entry ∷ past) u ≡ active boot past u
    activity u = active-kept boot entry past u (sets_active-none boot entry u refl)

    -- a task that isn't aged stays where it is
    stays : (u : ℕ) → has u line ≡ false → placing boot (entry ∷ past) u ≡ placing boot past u
    stays u h = placing-tick boot who line past u ∙ ap (λ o. option_map_or (λ i. record { aged = true; bstamp = (suc (length past), i) }) o (placing boot past u)) (position-none u line h)

    band_stays : (u : ℕ) → has u line ≡ false → band boot (entry ∷ past) u ≡ band boot past u
    band_stays u h = band-kept boot entry past u (stays u h) (wished u)

    -- and one that is aged is at its place of the line in band 0
    moves : (u : ℕ) → has u line ≡ true → placing boot (entry ∷ past) u ≡ record { aged = true; bstamp = (suc (length past), place_in 0 line u) }
    moves u h = placing-tick boot who line past u ∙ ap (λ o. option_map_or (λ i. record { aged = true; bstamp = (suc (length past), i) }) o (placing boot past u)) (position-place u line h)

    band_lowest : (u : ℕ) → has u line ≡ true → band boot (entry ∷ past) u ≡ 0
    unfolding band
    band_lowest u h = rw (moves u h) refl

    stamp_lt : (m i j : ℕ) → pair_lt (m, i) (m, j) ≡ nat_lt i j
    stamp_lt m i j = let t : nat_lt m m ≡ false = grind (arith, nat_tests) in let u : nat_eq m m ≡ true = grind (arith, nat_tests) in rw (t, u) refl

    line_order : Rising (bstamp_lt boot (entry ∷ past)) line
    line_order = rising-agree (λ t u. nat_lt (place_in 0 line t) (place_in 0 line u)) (bstamp_lt boot (entry ∷ past)) line
        (λ t u ht hu. ap₂ (λ (x y : Placing). pair_lt x.bstamp y.bstamp) (moves t (fact-has t line ht)) (moves u (fact-has u line hu)) ∙ stamp_lt (suc (length past)) (place_in 0 line t) (place_in 0 line u))
        (rising-places 0 line line-distinct)

    enters : (b : ℕ) (c : Bool) (ts : List ℕ) → nat_eq 0 b ≡ c → KeepsBand boot past b ts → KeepsBand boot (entry ∷ past) b (filter (λ t. not (has t line)) ts ++ cond c line [])
    enters b true ts is k = band-enter boot entry past b (λ t. has t line) ts line (λ t m. lives t) band_stays (λ t m. ap (λ (x : Placing). x.bstamp) (stays t m))
        (λ t w h m. has-fact t line m)
        (λ t h. (let q = line_task t h in (q.1, rw (lives t, q.3, band_lowest t (fact-has t line h), is) refl)))
        (λ t h. ap (λ (x : Placing). x.bstamp.0) (moves t (fact-has t line h)))
        line_order k
    enters b false ts is k = band-enter boot entry past b (λ t. has t line) ts [] (λ t m. lives t) band_stays (λ t m. ap (λ (x : Placing). x.bstamp) (stays t m))
        (λ t w h m. absurd (false≢true (sym is ∙ ap (λ n. nat_eq n b) (sym (band_lowest t m)) ∙ (both-true (live boot (entry ∷ past) t) (nat_eq (band boot (entry ∷ past) t) b) h).1)))
        (λ t h. absurd h)
        (λ t h. absurd h)
        tt k

    aged_bands : length bands ≡ 21 → HasBands boot (entry ∷ past) (placed_all bands line 0)
    aged_bands count b l = subst (KeepsBand boot (entry ∷ past) b) (sym (placed_all-at line bands 0 b (omega (arith, count)) line-distinct)) (enters b (nat_eq 0 b) (list_at bands b) refl (s.bands b l))

    -- the counts
    off_band : (l a w g : Bool) → g ≡ false → (l && not a && w && g) ≡ false
    off_band l a w g h = rw h (last_off (l && not a && w))

    counted_by : (u : ℕ) (h : Bool) → u < length boot.tasks → has u line ≡ h → cond h None (option_map (one_more (delay_of ages u)) (count_of ages u)) ≡ counted_ticks boot (entry ∷ past) u
    unfolding counts_for_ageing
    counted_by u true l h =
        let g = of_task (λ task. task.ageing) boot u 0 in
        let some : 1 ≤ g = (ageing-in boot valid u l).0 in
        let off : nat_eq 0 g ≡ false = grind (arith, nat_tests) in
        rw (band_lowest u h, off_band (live boot (entry ∷ past) u) (active boot (entry ∷ past) u) (nat_eq (wish boot (entry ∷ past) u) 0) (nat_eq 0 g) off) refl
    counted_by u false l h =
        ap₂ (λ d c. option_map (one_more d) c) (delay_in u l) (s.ages u l)
        ∙ counts_on (counts_for_ageing boot past u) (ticks boot past u) (of_task (λ task. task.delay) boot u 0)
        ∙ sym (ap₂ (λ c n. cond c (Some (min n (of_task (λ task. task.delay) boot u 0))) None) (counts_for_ageing-kept boot entry past u (lives u) (activity u) (wished u) (band_stays u h)) (ticks-tick boot who line past u))

    count_in : (u : ℕ) → u < length ages.counts → count_of (ticked ages bands) u ≡ cond (has u line) None (option_map (one_more (delay_of ages u)) (count_of ages u))
    count_in u l =
        let many : length (counted ages).counts ≡ length ages.counts = length-map-range_with_len (λ t. option_map (one_more (delay_of ages t)) (count_of ages t)) 0 (length ages.counts) in
        get_or-map-range_with_len (λ t. cond (has t line) None (count_of (counted ages) t)) 0 (length (counted ages).counts) u u None (omega (arith, many)) (omega arith)
        ∙ ap (λ c. cond (has u line) None c) (get_or-map-range_with_len (λ t. option_map (one_more (delay_of ages t)) (count_of ages t)) 0 (length ages.counts) u u None l (omega arith))

    pub ticked-bands : length bands ≡ 21 → length ages.counts ≡ length ages.delays → BandsStand boot (entry ∷ past) wishes (placed_all bands line 0) (ticked ages bands)
    ticked-bands count paired =
        let many : length ages.counts ≡ length boot.tasks = paired ∙ ap length s.delays ∙ length-map boot.tasks (λ (task : TaskBoot). task.delay) in
        record {
          wish_count = s.wish_count;
          wishes = λ u l. s.wishes u l ∙ sym (wished u);
          bands = aged_bands count;
          delays = s.delays;
          ages = λ u l. count_in u (subst (λ n. u < n) (sym many) l) ∙ counted_by u (has u line) l refl;
        }

    pub ticked-accounts : (accounts : List Account) → AccountsStand boot past accounts → AccountsStand boot (entry ∷ past) accounts
    ticked-accounts accounts a = kept-accounts boot entry past accounts lives (only-counts boot entry past (tick-only who line)) activity (λ u. limits-kept boot entry past u refl) a

pub tick-reply : (tables : TableValues) (past : List Entry) (who : ℕ) → IsValidBoot tables.boot → refusal tables.boot past who Tick ≡ None → Stands tables past → Aged (aged tables.ages tables.bands) ≡ answer tables.boot past who Tick
tick-reply tables past who valid h s = ap Aged (sym (line-is tables.boot past valid s.legal tables.wishes tables.bands tables.ages s.bands)) ∙ sym (accepted-answer tables.boot past who Tick h)

pub tick-stand : (tables : TableValues) (past : List Entry) (who : ℕ) (told : List ℕ) (accounts : List Account) (bands : List (List ℕ)) (ages : Ageing) (wishes : List ℕ)
    → IsValidBoot tables.boot → IsTrue (fits tables.boot who Tick) → refusal tables.boot past who Tick ≡ None → Stands tables past
    → length tables.bands ≡ 21
    → length tables.ages.counts ≡ length tables.ages.delays
    → told ≡ aged tables.ages tables.bands
    → accounts ≡ tables.accounts
    → wishes ≡ tables.wishes
    → bands ≡ placed_all tables.bands (aged tables.ages tables.bands) 0
    → ages ≡ ticked tables.ages tables.bands
    → Stands (record tables { accounts = accounts; bands = bands; ages = ages; wishes = wishes }) (entry_of who Tick (Aged told) ∷ past)
tick-stand tables past who told accounts bands ages wishes valid f h s count paired told_is accounts_stay wishes_stay bands_are ages_are =
    let boot = tables.boot in
    let line = aged tables.ages tables.bands in
    let e : Entry = tick_entry who line in
    let stand : BandsStand boot (e ∷ past) tables.wishes (placed_all tables.bands line 0) (ticked tables.ages tables.bands) = ticked-bands boot past valid s.legal tables.wishes tables.bands tables.ages s.bands who count paired in
    subst (λ ts. Stands (record tables { accounts = accounts; bands = bands; ages = ages; wishes = wishes }) (tick_entry who ts ∷ past)) (sym told_is)
    (only-stands tables e past accounts bands ages wishes (tick-only who line) (f, tick-reply tables past who valid h s, s.legal) s
    (subst (AccountsStand boot (e ∷ past)) (sym accounts_stay) (ticked-accounts boot past valid s.legal tables.wishes tables.bands tables.ages s.bands who tables.accounts s.accounts))
    (subst (λ ws. BandsStand boot (e ∷ past) ws bands ages) (sym wishes_stay) (subst (λ bs. BandsStand boot (e ∷ past) tables.wishes bs ages) (sym bands_are) (subst (BandsStand boot (e ∷ past) tables.wishes (placed_all tables.bands line 0)) (sym ages_are) stand))))
