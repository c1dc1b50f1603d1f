-- The tables stand for the empty history at the start.
use Rattle.std.proofs.Common.{◌≡◌, ℕ, ◌+◌, ◌<◌, ◌≤◌, List, [], ◌∷◌, ◌++◌, length, map, filter, replicate, get_or, cond, if◌then◌else◌, Option, Some, None, slice_get, refl, sym, ap, ap₂, ◌∙◌, subst, Bool, true, false, not, ◌&&◌, inl, inr, arith, nat_eq, nat_lt}
use Rattle.std.specs.Prelude.{min}
use Rattle.std.specs.Option.{option_map_or}
use Rattle.std.specs.List.{range_with_len, list_any}
use Rattle.std.proofs.lemmas.Bool.{cases_Bool, false≢true, true≢false}
use Rattle.std.proofs.lemmas.Bool.Decides.{eqb_tells, nat_tests}
use Rattle.std.proofs.lemmas.List.{length-map}
use Rattle.std.proofs.lemmas.List.FromFn.{get_or-map-range_with_len}
use Rattle.kern_ids.specs.declared.entries.Entry.{Entry}
use Rattle.kern_ids.specs.declared.ids.PageId.{PageId}
use Rattle.kern_ids.specs.declared.calls.Queue.{Queue}
use Rattle.kern_ids.specs.declared.calls.State.{State}
use Rattle.kern_ids.specs.declared.calls.Queue.TheVariants.{Obsolete, Lifo, Fifo}
use Rattle.kernel_model.specs.declared.boot.TaskBoot.{TaskBoot}
use Rattle.kernel_model.specs.declared.boot.ObjBoot.{ObjBoot}
use Rattle.kernel_model.specs.declared.place.Place.{Place}
use Rattle.kernel_model.specs.declared.place.Place.TheVariants.{Absent}
use Rattle.kern_ids.specs.declared.replies.Counts.{Counts}
use Rattle.kernel_model.specs.System.{System}
use Rattle.kernel_model.specs.Newest.{newest, since}
use Rattle.kernel_model.specs.Lists.{some_if, pair_lt}
use Rattle.kernel_model.specs.Mapping.{live, maps, said_maps, mapped, owner, tasks_of}
use Rattle.kernel_model.specs.Pages.{place, placed, pages_of, pages_in, is_active, is_inactive, is_stored, touched_since, inactive_pages, entered, left}
use Rattle.kernel_model.specs.Groups.{volatile, stands_in, objects_of, is_volatile_state, standing, same_queue}
use Rattle.kernel_model.specs.State.{state}
use Rattle.kernel_model.specs.Deadlines.{deadlines, of_queue}
use Rattle.kernel_model.specs.Counted.{counts, count_of, owned_by, is_resident, is_nonvolatile_state}
use Rattle.kernel_model.specs.Bands.{of_task, wish, active, limits, ticks, band, placing, counts_for_ageing}
use Rattle.kernel_model.specs.Answers.{shares}
use Rattle.kernel_model.specs.Laws.Order.{Has, Rising, Keeps}
use Rattle.kernel_model.specs.Laws.Queues.{KeepsPages, KeepsGroup, KeepsBand, bstamp_lt}
use Rattle.kernel_model.proofs.Laws.Order.{any-none, find-none, filter-has, has-filter, rising-filter}
use Rattle.kernel_model.proofs.Laws.Queues.{has-range, range-has, pages-none}
use Rattle.link_list.specs.KeyLists.{list_at, place_of}
use Rattle.page_queues.specs.Pages.{Pages, key_of, page_of, is_marked, place_at, place as place_in}
use Rattle.volatile_groups.specs.Grouped.{members, first_list}
use Rattle.ripen_advance.specs.Queues.{QueueDues, dues_in}
use Rattle.vm_object.specs.TaskSets.{has_task, tasks_of as set_of}
use Rattle.vm_object.specs.Objects.{Object, object_at, new_object, no_object, shares as shares_in, maps as maps_in}
use Rattle.task_ledger.specs.declared.account.Account.{Account}
use Rattle.task_ledger.specs.Accounts.{account_of, first_account, no_account, no_pages}
use Rattle.idle_ageing.specs.Ageing.{Ageing, count_of as count_in}
use Rattle.kernel_tables.specs.Values.{TableValues}
use Rattle.kernel_tables.specs.Start.{first_band, begins_in, first_count}
use Rattle.kernel_tables.specs.Stands.{Stands, IsAccount, HasPlaces, HasMarks, HasGroups, HasDues, HasSharers, HasSizes, HasMappers, HasAccounts, HasWishes, HasBands, HasAges, counted_ticks}
use Rattle.kernel_tables.proofs.Lists.{at-some, get_or-mapped, get_or-same, count-none, range-rising}

-- no task maps an object, so that none is mapped and none has an owner
no_maps : (boot : System) (o t : ℕ) → maps boot [] o t ≡ false
unfolding maps live said_maps newest
no_maps boot o t = refl

none_mapped : (boot : System) (o : ℕ) → mapped boot [] o ≡ false
unfolding mapped
none_mapped boot o = any-none (maps boot [] o) (tasks_of boot) (λ t m. no_maps boot o t)

none_volatile : (boot : System) (o : ℕ) → volatile boot [] o ≡ false
unfolding volatile
none_volatile boot o = ap (λ m. m && is_volatile_state (state [] o)) (none_mapped boot o)

none_stands : (boot : System) (q : Queue) (g o : ℕ) → stands_in boot [] q g o ≡ false
none_stands boot q g o = ap (λ v. (v && same_queue (standing [] o).queue q) && nat_eq (standing [] o).group g) (none_volatile boot o)

-- no page is anywhere
all_absent : (boot : System) (p : PageId) → place boot [] p ≡ Absent
unfolding placed newest
all_absent boot p = refl

none_owned : (boot : System) (t : ℕ) (p : PageId) → owned_by boot [] t p ≡ false
unfolding owner
none_owned boot t p = ap (λ o. option_map_or (nat_eq t) o false) (find-none (maps boot [] p.obj) (tasks_of boot) (λ u m. no_maps boot p.obj u))

none_counted : (boot : System) (t : ℕ) (w : PageId → Bool) (s : State → Bool) → count_of boot [] t w s ≡ 0
none_counted boot t w s = count-none (λ p. owned_by boot [] t p && w p && s (state [] p.obj)) (pages_of boot) (λ p. ap (λ x. (x && w p) && s (state [] p.obj)) (none_owned boot t p))

abbrev counts_with : ℕ → ℕ → ℕ → ℕ → Counts
counts_with a b c d = record { res_non = a; res_vol = b; com_non = c; com_vol = d; footprint = a + c }

no_counts : (boot : System) (t : ℕ) → counts boot [] t ≡ no_pages
unfolding counts
no_counts boot t =
    let com_non = count_of boot [] t (λ p. is_stored (place boot [] p)) is_nonvolatile_state in
    let com_vol = count_of boot [] t (λ p. is_stored (place boot [] p)) is_volatile_state in
    ap₂ (λ a b. counts_with a b com_non com_vol) (none_counted boot t (is_resident boot []) is_nonvolatile_state) (none_counted boot t (is_resident boot []) is_volatile_state)
    ∙ ap₂ (λ c d. counts_with 0 0 c d) (none_counted boot t (λ p. is_stored (place boot [] p)) is_nonvolatile_state) (none_counted boot t (λ p. is_stored (place boot [] p)) is_volatile_state)

start-places : (boot : System) (pages : Pages) → pages.queues ≡ replicate 3 [] → HasPlaces boot [] pages
start-places boot pages none p m = ap (λ qs. place_at (place_of (key_of p) qs)) none ∙ sym (all_absent boot p)

start-marks : (boot : System) (pages : Pages) (n : ℕ) → pages.marks ≡ replicate n false → HasMarks boot [] pages
start-marks boot pages n none p m =
    ap (λ ms. get_or ms (key_of p) false) none ∙ get_or-same n (key_of p) false
    ∙ sym (ap (λ x. is_inactive x && touched_since boot [] p) (all_absent boot p))

start-groups : (boot : System) → HasGroups boot [] (replicate 24 [])
start-groups boot q g l =
    subst (KeepsGroup boot [] q g) (sym (get_or-same {A = List ℕ} 24 (first_list q + g) []))
    (record { rising = tt; within = λ x h. absurd h; passes = λ x h. absurd h; all = λ x w h. absurd (false≢true (sym (none_stands boot q g x) ∙ h)) })

start-dues : (boot : System) → HasDues boot [] (record { obsolete = []; lifo = []; fifo = []; ahead = 0 })
unfolding deadlines
start-dues boot Obsolete = refl
start-dues boot Lifo = refl
start-dues boot Fifo = refl

start-ahead : (boot : System) → 0 ≡ inactive_pages boot []
start-ahead boot = sym (count-none (λ p. is_inactive (place boot [] p)) (pages_of boot) (λ p. ap is_inactive (all_absent boot p)))

-- the objects
object_new : (objects : List ObjBoot) (o : ℕ) (object : ObjBoot) → slice_get objects o ≡ Some object → object_at (map new_object objects) o ≡ new_object object
object_new objects o object is = get_or-mapped new_object objects o object no_object is

in_set : (xs : List ℕ) (t : ℕ) → t < 64 → has_task (set_of xs) t ≡ list_any (nat_eq t) xs
unfolding set_of
in_set xs t l = get_or-map-range_with_len (λ k. list_any (nat_eq k) xs) 0 64 t t false l (let e : 0 + t ≡ t = omega arith in e)

start-sharers : (boot : System) → HasSharers boot (map new_object boot.objects)
start-sharers boot o t lo lt =
    let s = at-some boot.objects o lo in
    ap (λ (x : Object). has_task x.tasks t) (object_new boot.objects o s.0 s.1) ∙ in_set s.0.tasks t lt
    ∙ sym (ap (λ x. option_map_or (λ object. list_any (nat_eq t) object.tasks) x false) s.1)

start-sizes : (boot : System) → HasSizes boot (map new_object boot.objects)
start-sizes boot o l =
    let s = at-some boot.objects o l in
    ap (λ (x : Object). x.pages) (object_new boot.objects o s.0 s.1) ∙ sym (ap (λ x. option_map_or (λ object. object.pages) x 0) s.1)

start-mappers : (boot : System) → HasMappers boot [] (map new_object boot.objects)
start-mappers boot o t l =
    let s = at-some boot.objects o l in
    ap (λ (x : Object). has_task x.mapping t) (object_new boot.objects o s.0 s.1) ∙ get_or-same 64 t false ∙ sym (no_maps boot o t)

-- the tasks
start-account : (boot : System) (t : ℕ) (task : TaskBoot) → slice_get boot.tasks t ≡ Some task → IsAccount boot [] t (first_account task)
unfolding live active limits newest
start-account boot t task is = record {
  live = refl;
  counts = sym (no_counts boot t);
  active = refl;
  when_active = rw is refl;
  when_inactive = rw is refl;
  internal = rw is refl;
}

start-accounts : (boot : System) → HasAccounts boot [] (map first_account boot.tasks)
start-accounts boot t l =
    let s = at-some boot.tasks t l in
    subst (IsAccount boot [] t) (sym (get_or-mapped first_account boot.tasks t s.0 no_account s.1)) (start-account boot t s.0 s.1)

wish_first : (boot : System) (t : ℕ) (task : TaskBoot) → slice_get boot.tasks t ≡ Some task → wish boot [] t ≡ task.band
unfolding wish newest
wish_first boot t task is = ap (λ x. option_map_or (λ task. task.band) x 0) is

start-wishes : (boot : System) → HasWishes boot [] (map (λ task. task.band) boot.tasks)
start-wishes boot t l =
    let s = at-some boot.tasks t l in
    get_or-mapped (λ task. task.band) boot.tasks t s.0 0 s.1 ∙ sym (wish_first boot t s.0 s.1)

band_first : (boot : System) (t : ℕ) (task : TaskBoot) → slice_get boot.tasks t ≡ Some task → band boot [] t ≡ first_band task
unfolding band placing newest
band_first boot t task is = ap₂ (λ w a. if nat_eq w 0 then a else w) (wish_first boot t task is) (ap (λ x. option_map_or (λ task. task.ageing) x 0) is)

start-band : (boot : System) (b : ℕ) → KeepsBand boot [] b (filter (begins_in boot.tasks b) (tasks_of boot))
unfolding live placing newest
start-band boot b =
    let begins : (t : ℕ) → Has (tasks_of boot) t → begins_in boot.tasks b t ≡ nat_eq (band boot [] t) b =
    λ t m. (let s = at-some boot.tasks t (let q = has-range 0 (length boot.tasks) t m in omega (arith, q.1)) in
    ap (λ x. option_map_or (λ task. nat_eq (first_band task) b) x false) s.1 ∙ ap (λ x. nat_eq x b) (sym (band_first boot t s.0 s.1))) in
    record {
      rising = rising-filter (bstamp_lt boot []) (begins_in boot.tasks b) (tasks_of boot) (range-rising (bstamp_lt boot []) 0 (length boot.tasks) (λ x y l. let later : nat_lt x y ≡ true = grind (arith, nat_tests) in later));
      within = λ x h. (filter-has (begins_in boot.tasks b) (tasks_of boot) x h).0;
      passes = λ x h. (let q = filter-has (begins_in boot.tasks b) (tasks_of boot) x h in sym (begins x q.0) ∙ q.1);
      all = λ x w h. has-filter (begins_in boot.tasks b) (tasks_of boot) x w (begins x w ∙ h);
    }

start-bands : (boot : System) (bands : List (List ℕ)) → ((b : ℕ) → b < 21 → list_at bands b ≡ filter (begins_in boot.tasks b) (range_with_len 0 (length boot.tasks))) → HasBands boot [] bands
start-bands boot bands each b l = subst (KeepsBand boot [] b) (sym (each b l)) (start-band boot b)

first_counts : (b a d : ℕ) → (if nat_eq b 0 && nat_eq (if nat_eq b 0 then a else b) a then Some (min 0 d) else None) ≡ some_if (nat_eq b 0) 0
first_counts b a d = elim (eqb_tells b 0) [
  | inl same ↦ let e : nat_eq a a ≡ true = grind (arith, nat_tests) in let m : min 0 d ≡ 0 = omega arith in rw (same.0, e, m) refl
  | inr other ↦ rw other.0 refl
]

first_ticks : (boot : System) (t : ℕ) (task : TaskBoot) → slice_get boot.tasks t ≡ Some task → counted_ticks boot [] t ≡ some_if (nat_eq task.band 0) 0
unfolding counts_for_ageing ticks since live active newest
first_ticks boot t task is =
    let d = of_task (λ task. task.delay) boot t 0 in
    ap₂ (λ w b. if nat_eq w 0 && nat_eq b (of_task (λ task. task.ageing) boot t 0) then Some (min 0 d) else None) (wish_first boot t task is) (band_first boot t task is)
    ∙ ap (λ x. if nat_eq task.band 0 && nat_eq (first_band task) (option_map_or (λ task. task.ageing) x 0) then Some (min 0 d) else None) is
    ∙ first_counts task.band task.ageing d

start-ages : (boot : System) (ages : Ageing) → ((t : ℕ) → t < length boot.tasks → count_in ages t ≡ first_count boot.tasks t) → HasAges boot [] ages
start-ages boot ages each t l =
    let s = at-some boot.tasks t l in
    each t l ∙ ap (λ x. option_map_or (λ task. some_if (nat_eq task.band 0) 0) x None) s.1 ∙ sym (first_ticks boot t s.0 s.1)

-- all tables
pub start-stands : (tables : TableValues) (n : ℕ) → tables.pages ≡ record { frames = tables.boot.params.frames; sizes = map (λ object. object.pages) tables.boot.objects; queues = replicate 3 []; marks = replicate n false }
    → tables.groups ≡ replicate 24 []
    → tables.tokens ≡ record { obsolete = []; lifo = []; fifo = []; ahead = 0 }
    → tables.objects ≡ map new_object tables.boot.objects
    → tables.accounts ≡ map first_account tables.boot.tasks
    → ((b : ℕ) → b < 21 → list_at tables.bands b ≡ filter (begins_in tables.boot.tasks b) (range_with_len 0 (length tables.boot.tasks)))
    → tables.ages.delays ≡ map (λ task. task.delay) tables.boot.tasks
    → ((t : ℕ) → t < length tables.boot.tasks → count_in tables.ages t ≡ first_count tables.boot.tasks t)
    → tables.wishes ≡ map (λ task. task.band) tables.boot.tasks
    → tables.entered ≡ 0
    → Stands tables []
unfolding entered
start-stands tables n pages groups tokens objects accounts bands delays ages wishes none =
    let boot = tables.boot in
    let queues = ap (λ (p : Pages). p.queues) pages in
    record {
      legal = tt;
      pages = record {
        frames = ap (λ (p : Pages). p.frames) pages;
        page_sizes = ap (λ (p : Pages). p.sizes) pages;
        places = start-places boot tables.pages queues;
        active_order = subst (λ (qs : List (List ℕ)). KeepsPages boot [] is_active (map page_of (list_at qs 0))) (sym queues) (pages-none boot is_active refl);
        inactive_order = subst (λ (qs : List (List ℕ)). KeepsPages boot [] is_inactive (map page_of (list_at qs 1))) (sym queues) (pages-none boot is_inactive refl);
        stored_order = subst (λ (qs : List (List ℕ)). KeepsPages boot [] is_stored (map page_of (list_at qs 2))) (sym queues) (pages-none boot is_stored refl);
        marks = start-marks boot tables.pages n (ap (λ (p : Pages). p.marks) pages);
        entered = none;
      };
      queues = record {
        groups = subst (HasGroups boot []) (sym groups) (start-groups boot);
        ahead = ap (λ (v : QueueDues). v.ahead) tokens ∙ start-ahead boot;
        dues = subst (HasDues boot []) (sym tokens) (start-dues boot);
      };
      objects = record {
        object_count = ap length objects ∙ length-map boot.objects new_object;
        sharers = subst (HasSharers boot) (sym objects) (start-sharers boot);
        sizes = subst (HasSizes boot) (sym objects) (start-sizes boot);
        mappers = subst (HasMappers boot []) (sym objects) (start-mappers boot);
        states = λ o l m. absurd (false≢true (sym (none_mapped boot o) ∙ m));
        written = λ p h m. absurd (false≢true (sym (none_mapped boot p.obj) ∙ m));
      };
      accounts = record {
        account_count = ap length accounts ∙ length-map boot.tasks first_account;
        accounts = subst (HasAccounts boot []) (sym accounts) (start-accounts boot);
      };
      bands = record {
        wish_count = ap length wishes ∙ length-map boot.tasks (λ task. task.band);
        wishes = subst (HasWishes boot []) (sym wishes) (start-wishes boot);
        bands = start-bands boot tables.bands bands;
        delays = delays;
        ages = start-ages boot tables.ages ages;
      };
    }

-- the same, by an equal boot
pub start-by : (tables : TableValues) (boot : System) (n : ℕ) → tables.boot ≡ boot
    → tables.pages ≡ record { frames = boot.params.frames; sizes = map (λ object. object.pages) boot.objects; queues = replicate 3 []; marks = replicate n false }
    → tables.groups ≡ replicate 24 []
    → tables.tokens ≡ record { obsolete = []; lifo = []; fifo = []; ahead = 0 }
    → tables.objects ≡ map new_object boot.objects
    → tables.accounts ≡ map first_account boot.tasks
    → ((b : ℕ) → b < 21 → list_at tables.bands b ≡ filter (begins_in boot.tasks b) (range_with_len 0 (length boot.tasks)))
    → tables.ages.delays ≡ map (λ task. task.delay) boot.tasks
    → ((t : ℕ) → t < length boot.tasks → count_in tables.ages t ≡ first_count boot.tasks t)
    → tables.wishes ≡ map (λ task. task.band) boot.tasks
    → tables.entered ≡ 0
    → Stands tables []
start-by tables boot n same pages groups tokens objects accounts bands delays ages wishes none =
    let back : boot ≡ tables.boot = sym same in
    start-stands tables n
    (pages ∙ ap (λ (b : System). record { frames = b.params.frames; sizes = map (λ object. object.pages) b.objects; queues = replicate 3 []; marks = replicate n false }) back)
    groups tokens
    (objects ∙ ap (λ (b : System). map new_object b.objects) back)
    (accounts ∙ ap (λ (b : System). map first_account b.tasks) back)
    (λ k l. bands k l ∙ ap (λ (b : System). filter (begins_in b.tasks k) (range_with_len 0 (length b.tasks))) back)
    (delays ∙ ap (λ (b : System). map (λ (task : TaskBoot). task.delay) b.tasks) back)
    (λ t l. ages t (subst (λ (b : System). t < length b.tasks) same l) ∙ ap (λ (b : System). first_count b.tasks t) back)
    (wishes ∙ ap (λ (b : System). map (λ (task : TaskBoot). task.band) b.tasks) back)
    none
