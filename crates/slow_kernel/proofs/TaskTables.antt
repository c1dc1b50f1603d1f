-- What is known of a task, one entry more.
use Rattle.std.proofs.Common.{◌≡◌, ℕ, suc, ◌+◌, ◌<◌, List, [], ◌∷◌, length, get_or, cond, Bool, true, false, ◌&&◌, ◌||◌, Option, Some, None, option_map, refl, ap, ap₂, ◌∙◌, if◌then◌else◌, ◌-◌, ◌≤◌, not, is_some, nat_eq, slice_get, filter, insert, arith}
use Rattle.std.specs.Option.{option_map_or, unwrap_or}
use Rattle.kern_ids.specs.declared.entries.Entry.{Entry}
use Rattle.kern_ids.specs.declared.calls.Limit.{Limit}
use Rattle.kernel_model.specs.System.{System}
use Rattle.kernel_model.specs.Newest.{newest, since}
use Rattle.kernel_model.specs.Bands.{wish, active, limits, placing, ticks, Limits, Placing, sets_band, sets_active, restarts, is_tick_call, aged_place, of_task, differs, band, due, counts_for_ageing}
use Rattle.kernel_model.proofs.Laws.Bands.{wish-more, active-more, placing-more, ticks-more}
use Rattle.kernel_model.specs.declared.boot.TaskBoot.{TaskBoot}
use Rattle.kernel_model.specs.Mapping.{tasks_of}
use Rattle.kernel_model.specs.Victims.{band_lt}
use Rattle.kernel_model.specs.Lists.{put, in_order}
use Rattle.std.specs.List.{position_or_len, range_with_len}
use Rattle.std.proofs.lemmas.List.Sums.{length-filter, count_by-le-length}
use Rattle.std.proofs.lemmas.List.FromFn.{length-range_with_len}
use Rattle.slow_kernel.proofs.DeadlineLists.{insert-suc}
use Rattle.slow_kernel.specs.declared.tasks.TaskPass.{TaskPass}
use Rattle.slow_kernel.specs.Tables.{past_at}
use Rattle.slow_kernel.specs.TaskTables.{task_pass, next_pass, next_ticks, tells_placing, tells_limits, tells_restart, start_pass, band_in, task_row, row_due, with_due, due_of_last}
use Rattle.slow_kernel.proofs.Loops.{past_loop, past_length}

limits-more : (boot : System) (e : Entry) (before : List Entry) (t : ℕ) → limits boot (e ∷ before) t ≡ unwrap_or (tells_limits t e) (limits boot before t)
unfolding limits newest tells_limits
limits-more boot e before t = refl

part-of : {A B : Type 0} (f : A → B) (o : Option A) (was : A) → f (unwrap_or o was) ≡ option_map_or f o (f was)
part-of f None was = refl
part-of f (Some x) was = refl

aged-of : (c : Bool) (o : Option ℕ) (n : ℕ) (was : Placing) → (unwrap_or (cond c (Some (record { aged = false; bstamp = (n, 0) })) (option_map (λ i. record { aged = true; bstamp = (n, i) }) o)) was).aged ≡ option_map_or (λ (x : Bool × ℕ). x.0) (cond c (Some (false, 0)) (option_map (λ i. (true, i)) o)) was.aged
aged-of true o n was = refl
aged-of false None n was = refl
aged-of false (Some i) n was = refl

stamp-of : (c : Bool) (o : Option ℕ) (n : ℕ) (was : Placing) → (unwrap_or (cond c (Some (record { aged = false; bstamp = (n, 0) })) (option_map (λ i. record { aged = true; bstamp = (n, i) }) o)) was).bstamp ≡ option_map_or (λ (x : Bool × ℕ). (n, x.1)) (cond c (Some (false, 0)) (option_map (λ i. (true, i)) o)) was.bstamp
stamp-of true o n was = refl
stamp-of false None n was = refl
stamp-of false (Some i) n was = refl

ticks-of : (c b : Bool) (was : ℕ) → (if c then 0 else cond b 1 0 + was) ≡ (if c then 0 else if b then 1 + was else was)
ticks-of true b was = refl
ticks-of false true was = refl
ticks-of false false was = omega arith

when_active-more : (boot : System) (e : Entry) (before : List Entry) (t : ℕ) → (limits boot (e ∷ before) t).when_active ≡ option_map_or (λ l. l.when_active) (tells_limits t e) (limits boot before t).when_active
when_active-more boot e before t = ap (λ (l : Limits). l.when_active) (limits-more boot e before t) ∙ part-of (λ (l : Limits). l.when_active) (tells_limits t e) (limits boot before t)

when_inactive-more : (boot : System) (e : Entry) (before : List Entry) (t : ℕ) → (limits boot (e ∷ before) t).when_inactive ≡ option_map_or (λ l. l.when_inactive) (tells_limits t e) (limits boot before t).when_inactive
when_inactive-more boot e before t = ap (λ (l : Limits). l.when_inactive) (limits-more boot e before t) ∙ part-of (λ (l : Limits). l.when_inactive) (tells_limits t e) (limits boot before t)

aged-more : (boot : System) (e : Entry) (before : List Entry) (t : ℕ) → (placing boot (e ∷ before) t).aged ≡ option_map_or (λ (x : Bool × ℕ). x.0) (tells_placing boot t (wish boot before t) (active boot before t) e) (placing boot before t).aged
unfolding tells_placing
aged-more boot e before t =
    ap (λ (p : Placing). p.aged) (placing-more boot e before t)
    ∙ aged-of (is_some (sets_band t e) || (option_map_or (differs (active boot before t)) (sets_active boot t e) false && nat_eq (wish boot before t) 0)) (aged_place t e) (suc (length before)) (placing boot before t)

stamp-more : (boot : System) (e : Entry) (before : List Entry) (t : ℕ) → (placing boot (e ∷ before) t).bstamp ≡ option_map_or (λ (x : Bool × ℕ). (suc (length before), x.1)) (tells_placing boot t (wish boot before t) (active boot before t) e) (placing boot before t).bstamp
unfolding tells_placing
stamp-more boot e before t =
    ap (λ (p : Placing). p.bstamp) (placing-more boot e before t)
    ∙ stamp-of (is_some (sets_band t e) || (option_map_or (differs (active boot before t)) (sets_active boot t e) false && nat_eq (wish boot before t) 0)) (aged_place t e) (suc (length before)) (placing boot before t)

ticks-next : (boot : System) (e : Entry) (before : List Entry) (t : ℕ) → ticks boot (e ∷ before) t ≡ next_ticks boot t (active boot before t) (ticks boot before t) e
unfolding next_ticks tells_restart
ticks-next boot e before t = ticks-more boot e before t ∙ ticks-of (restarts boot t before e) (is_tick_call e.call) (ticks boot before t)

abbrev pass : ℕ → Bool → Limit → Limit → Bool → ℕ × ℕ → ℕ → TaskPass
pass a b c d e f g = record { wish = a; active = b; when_active = c; when_inactive = d; aged = e; stamp = f; ticks = g }

same-pass : (a a' : ℕ) (b b' : Bool) (c c' d d' : Limit) (e e' : Bool) (f f' : ℕ × ℕ) (g g' : ℕ) → a ≡ a' → b ≡ b' → c ≡ c' → d ≡ d' → e ≡ e' → f ≡ f' → g ≡ g' → pass a b c d e f g ≡ pass a' b' c' d' e' f' g'
same-pass a a' b b' c c' d d' e e' f f' g g' pa pb pc pd pe pf pg = cc

task_pass-more : (boot : System) (e : Entry) (before : List Entry) (t : ℕ) → task_pass boot (e ∷ before) t ≡ next_pass boot t (length before) (task_pass boot before t) e
unfolding next_pass
task_pass-more boot e before t =
    same-pass _ _ _ _ _ _ _ _ _ _ _ _ _ _ (wish-more boot e before t) (active-more boot e before t) (when_active-more boot e before t) (when_inactive-more boot e before t) (aged-more boot e before t) (stamp-more boot e before t) (ticks-next boot e before t)

pub task_pass_loop : (boot : System) (h : List Entry) (i : ℕ) (e : Entry) (t : ℕ) → i < length h → e ≡ get_or h i e → task_pass boot (past_at h (i + 1)) t ≡ next_pass boot t i (task_pass boot (past_at h i) t) e
task_pass_loop boot h i e t l r =
    ap (λ past. task_pass boot past t) (past_loop h i e l r)
    ∙ task_pass-more boot e (past_at h i) t
    ∙ ap (λ n. next_pass boot t n (task_pass boot (past_at h i) t) e) (past_length h i l)

abbrev start_limits : Limit → Limit → Limits
start_limits a b = record { when_active = a; when_inactive = b }

limit-of : (o : Option TaskBoot) → (option_map_or (λ (task : TaskBoot). start_limits task.active task.inactive) o (start_limits (record { pages = 0; fatal = false }) (record { pages = 0; fatal = false }))).when_active ≡ option_map_or (λ (task : TaskBoot). task.active) o (record { pages = 0; fatal = false })
limit-of None = refl
limit-of (Some task) = refl

limit-of-inactive : (o : Option TaskBoot) → (option_map_or (λ (task : TaskBoot). start_limits task.active task.inactive) o (start_limits (record { pages = 0; fatal = false }) (record { pages = 0; fatal = false }))).when_inactive ≡ option_map_or (λ (task : TaskBoot). task.inactive) o (record { pages = 0; fatal = false })
limit-of-inactive None = refl
limit-of-inactive (Some task) = refl

pub task_pass_none : (boot : System) (t : ℕ) → task_pass boot [] t ≡ start_pass boot t
unfolding wish active limits placing ticks newest since start_pass
task_pass_none boot t =
    ap₂ (λ (a b : Limit). record { wish = of_task (λ task. task.band) boot t 0; active = false; when_active = a; when_inactive = b; aged = false; stamp = (0, t); ticks = 0 })
    (limit-of (slice_get boot.tasks t)) (limit-of-inactive (slice_get boot.tasks t))

pub band_from : (boot : System) (past : List Entry) (t : ℕ) → band boot past t ≡ band_in boot t (task_pass boot past t)
unfolding band
band_from boot past t = refl

pub due_from : (boot : System) (past : List Entry) (t : ℕ) → row_due boot (task_row boot past t) ≡ due boot past t
unfolding due counts_for_ageing
due_from boot past t = refl

pub put_at : (less : ℕ → ℕ → Bool) (x : ℕ) (xs : List ℕ) → put less x xs ≡ insert xs (position_or_len (less x) xs) x
put_at less x [] = refl
put_at less x (y ∷ ys) =
    elim (less x y) as (λ b. (if b then x ∷ y ∷ ys else y ∷ put less x ys) ≡ insert (y ∷ ys) (cond (not b) (1 + position_or_len (less x) ys) 0) x)
    [ true ↦ refl | false ↦ ap (λ zs. y ∷ zs) (put_at less x ys) ∙ insert-suc x y ys (position_or_len (less x) ys) ]

pub last_none : (boot : System) (past : List Entry) → due_of_last boot past 0 ≡ []
unfolding due_of_last
last_none boot past = refl

filter-cons : (p : ℕ → Bool) (less : ℕ → ℕ → Bool) (x : ℕ) (xs : List ℕ) → in_order less (filter p (x ∷ xs)) ≡ (if p x then put less x (in_order less (filter p xs)) else in_order less (filter p xs))
filter-cons p less x xs = elim (p x) as (λ b. in_order less (cond b (x ∷ filter p xs) (filter p xs)) ≡ (if b then put less x (in_order less (filter p xs)) else in_order less (filter p xs))) [ true ↦ refl | false ↦ refl ]

range-front : (n i : ℕ) → i < n → range_with_len (n - (i + 1)) (i + 1) ≡ (n - 1 - i) ∷ range_with_len (n - i) i
range-front n i l =
    let a : i + 1 ≡ suc i = omega arith in
    let b : n - (i + 1) + 1 ≡ n - i = omega arith in
    let d : n - (i + 1) ≡ n - 1 - i = omega arith in
    ap (range_with_len (n - (i + 1))) a ∙ ap₂ (λ x ys. x ∷ ys) d (ap (λ k. range_with_len k i) b)

pub last_more : (boot : System) (past : List Entry) (i : ℕ) → i < length boot.tasks → due_of_last boot past (i + 1) ≡ with_due boot past (length boot.tasks - 1 - i) (due_of_last boot past i)
unfolding due_of_last with_due
last_more boot past i l =
    ap (λ ks. in_order (band_lt boot past) (filter (due boot past) ks)) (range-front (length boot.tasks) i l)
    ∙ filter-cons (due boot past) (band_lt boot past) (length boot.tasks - 1 - i) (range_with_len (length boot.tasks - i) i)

pub last_all : (boot : System) (past : List Entry) (i : ℕ) → i ≡ length boot.tasks → due_of_last boot past i ≡ in_order (band_lt boot past) (filter (due boot past) (tasks_of boot))
unfolding due_of_last
last_all boot past i e =
    let z : length boot.tasks - i ≡ 0 = omega arith in
    ap₂ (λ a n. in_order (band_lt boot past) (filter (due boot past) (range_with_len a n))) z e

length-put : (less : ℕ → ℕ → Bool) (x : ℕ) (xs : List ℕ) → length (put less x xs) ≡ suc (length xs)
length-put less x [] = refl
length-put less x (y ∷ ys) = elim (less x y) as (λ b. length (if b then x ∷ y ∷ ys else y ∷ put less x ys) ≡ suc (suc (length ys))) [ true ↦ refl | false ↦ ap suc (length-put less x ys) ]

length-in_order : (less : ℕ → ℕ → Bool) (xs : List ℕ) → length (in_order less xs) ≡ length xs
length-in_order less [] = refl
length-in_order less (x ∷ xs) = length-put less x (in_order less xs) ∙ ap suc (length-in_order less xs)

pub few_due : (boot : System) (past : List Entry) → length (in_order (band_lt boot past) (filter (due boot past) (tasks_of boot))) ≤ length boot.tasks
few_due boot past =
    let a = length-in_order (band_lt boot past) (filter (due boot past) (tasks_of boot)) in
    let b = length-filter (due boot past) (tasks_of boot) in
    let d = count_by-le-length (due boot past) (tasks_of boot) in
    let e = length-range_with_len 0 (length boot.tasks) in
    omega arith

pub with_due_yes : (boot : System) (past : List Entry) (t : ℕ) (xs : List ℕ) → due boot past t ≡ true → with_due boot past t xs ≡ put (band_lt boot past) t xs
unfolding with_due
with_due_yes boot past t xs d = ap (λ b. if b then put (band_lt boot past) t xs else xs) d

pub with_due_no : (boot : System) (past : List Entry) (t : ℕ) (xs : List ℕ) → due boot past t ≡ false → with_due boot past t xs ≡ xs
unfolding with_due
with_due_no boot past t xs d = ap (λ b. if b then put (band_lt boot past) t xs else xs) d
