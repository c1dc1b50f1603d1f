-- Unmap: one task less maps an object, which may change its owner, or leave it with no mapper.
use Rattle.std.proofs.Common.{◌≡◌, ℕ, suc, ◌+◌, ◌-◌, ◌<◌, ◌≤◌, List, [], ◌∷◌, length, map, filter, drop, set, get_or, cond, Some, None, refl, sym, ap, ap₂, ◌∙◌, subst, Bool, true, false, not, ◌&&◌, if◌then◌else◌, inl, inr, nat_eq, zero, zero-le, arith}
use Rattle.std.specs.Prelude.{fold, slice_index_or}
use Rattle.std.specs.List.{range_with_len}
use Rattle.std.proofs.lemmas.Bool.{cases_Bool, false≢true}
use Rattle.std.proofs.lemmas.Bool.Decides.{eqb_tells, nat_tests}
use Rattle.std.proofs.lemmas.List.{length-set, get_or-set_same, get_or-set_other}
use Rattle.kern_ids.specs.declared.entries.Entry.{Entry}
use Rattle.kern_ids.specs.declared.ids.PageId.{PageId}
use Rattle.kern_ids.specs.declared.calls.Queue.{Queue}
use Rattle.kernel_model.specs.declared.place.Place.{Place}
use Rattle.kernel_model.specs.declared.place.Place.TheVariants.{Absent}
use Rattle.kernel_model.specs.declared.place.Placed.{Placed}
use Rattle.kernel_model.specs.System.{System}
use Rattle.kernel_model.specs.Valid.{IsValidBoot}
use Rattle.kernel_model.specs.Events.{task_of}
use Rattle.kernel_model.specs.Mapping.{maps, mapped, owner, unmaps, tasks_of}
use Rattle.kernel_model.specs.State.{state}
use Rattle.kernel_model.specs.Pages.{place, placed, pages_in, is_inactive, is_stored, entered, left, inactive_pages, touched_since, written}
use Rattle.kernel_model.specs.Groups.{volatile, standing, stands_in, is_volatile_state}
use Rattle.kernel_model.specs.Deadlines.{Deadlines, deadlines, of_queue, without_first}
use Rattle.kernel_model.specs.Laws.Kinds.{unmap_entry}
use Rattle.kernel_model.specs.Laws.Frames.{is_in, pages_at}
use Rattle.kernel_model.specs.Laws.Queues.{KeepsGroup}
use Rattle.kernel_model.proofs.Laws.Agree.{count_by-agree}
use Rattle.kernel_model.proofs.Laws.Kept.{mapped-kept, owner-kept, unmaps-kept, placed-kept, touched_since-kept, written-kept, entered-kept, standing-kept, volatile-kept, stands_in-kept, deadlines-kept, counted-kept, left-kept}
use Rattle.kernel_model.proofs.Laws.Kinds.{maps-unmap, placed-unmapped, deadlines-unmapped}
use Rattle.kernel_model.proofs.Laws.Mapping.{unmaps-is, owner-is}
use Rattle.kernel_model.proofs.Laws.Order.{find-none}
use Rattle.kernel_model.proofs.Laws.Pages.{left-is}
use Rattle.kernel_model.proofs.Laws.Queues.{group-filter}
use Rattle.kernel_model.proofs.Laws.State.{state-kept}
use Rattle.kernel_model.proofs.Laws.Present.{inactive-entered}
use Rattle.link_list.specs.KeyLists.{without}
use Rattle.page_queues.specs.Pages.{Pages, is_marked, is_of_first, without_object, inactive as inactive_keys}
use Rattle.page_queues.specs.Tallies.{count_of}
use Rattle.purge_pick.specs.Follows.{Follows}
use Rattle.purge_pick.specs.Picks.{HasTokens}
use Rattle.purge_pick.proofs.FollowLemmas.{first-follows}
use Rattle.purge_pick.proofs.AsManyLemmas.{first-as-many, departed-as-many}
use Rattle.ripen_advance.specs.Queues.{QueueDues, dues_in, with_dues}
use Rattle.token_list.specs.Dues.{lowered_by}
use Rattle.volatile_groups.specs.Grouped.{members, first_list, queue_of, AreGroups}
use Rattle.vm_object.specs.TaskSets.{has_task}
use Rattle.vm_object.specs.Objects.{Object, object_at, changed, unmapped_by}
use Rattle.task_ledger.specs.declared.account.Account.{Account}
use Rattle.kernel_tables.specs.Charges.{charge, charge_of, relieved, burdened}
use Rattle.kernel_tables.specs.Stands.{PagesStand, QueuesStand, ObjectsStand, AccountsStand, HasGroups}
use Rattle.kernel_tables.proofs.Dropped.{pages-dropped, inactive-dropped}
use Rattle.kernel_tables.proofs.Kept.{kept-pages, kept-queues, kept-groups}
use Rattle.kernel_tables.proofs.Lists.{removed-at}
use Rattle.kernel_tables.proofs.MapCall.{runs-for, same-number, other-number}
use Rattle.kernel_tables.proofs.ObjectCharges.{accounts-object}
use Rattle.kernel_tables.proofs.ObjectEntries.{SparesTasks, spared-live, spared-active, spared-limits, changed-each}
use Rattle.kernel_tables.proofs.Unmapped.{caller-mapped, unmapped-by}

and_false : (b : Bool) → (b && false) ≡ false
and_false true = refl
and_false false = refl

and_true : (b : Bool) → (b && true) ≡ b
and_true true = refl
and_true false = refl

-- of a range one number passes, where the test does
filter-none : (p : ℕ → Bool) (a n : ℕ) → ((x : ℕ) → a ≤ x → p x ≡ false) → filter p (range_with_len a n) ≡ []
filter-none p a zero none = refl
filter-none p a (suc n) none = rw (none a (omega arith)) (filter-none p (a + 1) n (λ x l. none x (omega arith)))

filter-one : (p : ℕ → Bool) (b : Bool) (o a n : ℕ) → ((x : ℕ) → p x ≡ (b && nat_eq o x)) → a ≤ o → o < a + n → filter p (range_with_len a n) ≡ cond b (o ∷ []) []
filter-one p b o a zero is low high = absurd (omega arith)
filter-one p b o a (suc n) is low high = elim (eqb_tells o a) [
  | inl same ↦
      let rest : filter p (range_with_len (a + 1) n) ≡ [] = filter-none p (a + 1) n (λ x l. is x ∙ ap (λ c. b && c) (let d : nat_eq o x ≡ false = (let e = same.1 in grind (arith, nat_tests)) in d) ∙ and_false b) in
      let here : p a ≡ b = is a ∙ ap (λ c. b && c) same.0 ∙ and_true b in
      ap₂ (λ (c : Bool) (xs : List ℕ). cond c (a ∷ xs) xs) here rest ∙ ap (λ (m : ℕ). cond b (m ∷ []) []) (sym same.1)
  | inr other ↦
      let here : p a ≡ false = is a ∙ ap (λ c. b && c) other.0 ∙ and_false b in
      ap (λ (c : Bool). cond c (a ∷ filter p (range_with_len (a + 1) n)) (filter p (range_with_len (a + 1) n))) here
      ∙ filter-one p b o (a + 1) n is (let d = other.1 in omega arith) (omega arith)
]

-- a set of tasks with one less
task-removed : (tasks : List Bool) (t u : ℕ) → t < length tasks → has_task (set tasks t false) u ≡ (not (nat_eq u t) && has_task tasks u)
task-removed tasks t u l = elim (eqb_tells u t) [
  | inl same ↦ ap (λ (m : ℕ). get_or (set tasks t false) m false) same.1 ∙ get_or-set_same tasks t false false l ∙ ap (λ b. not b && has_task tasks u) (sym same.0)
  | inr other ↦ get_or-set_other tasks t u false false other.1 ∙ ap (λ b. not b && has_task tasks u) (sym other.0)
]

-- an object that nobody maps has no owner
pub owner-none : (boot : System) (past : List Entry) (o : ℕ) → IsValidBoot boot → mapped boot past o ≡ false → owner boot past o ≡ None
owner-none boot past o v n = owner-is boot past o ∙ find-none (maps boot past o) (tasks_of boot) (λ u h. unmapped-by boot past o u v n)

-- dues that were lowered by the pages that left since
lowered-more : (l k : ℕ) (xs : List ℕ) → lowered_by k (map (λ x. x - l) xs) ≡ map (λ x. x - (l + k)) xs
lowered-more l k [] = refl
lowered-more l k (x ∷ xs) = ap₂ (λ (y : ℕ) (ys : List ℕ). y ∷ ys) (omega arith) (lowered-more l k xs)

module _ (boot : System) (who o t : ℕ) (before : List Entry) (v : IsValidBoot boot) (by : task_of boot who ≡ Some t) (inside : o < length boot.objects) (own : maps boot before o t ≡ true) where
  abbrev entry : Entry
  entry = unmap_entry who o

  pub unmap-spares : SparesTasks boot entry
  unmap-spares = record { ends = λ u. refl; bands = λ u. refl; activity = refl; limits = λ u. refl; aged = refl; tick = refl }

  -- who maps
  pub unmap-maps : (x u : ℕ) → maps boot (entry ∷ before) x u ≡ (not (nat_eq o x && nat_eq u t) && maps boot before x u)
  unmap-maps x u = maps-unmap boot who o before x u ∙ ap (λ b. not (nat_eq o x && b) && maps boot before x u) (runs-for boot who t u by)

  maps_other : (x : ℕ) → nat_eq o x ≡ false → (u : ℕ) → maps boot (entry ∷ before) x u ≡ maps boot before x u
  maps_other x d u = unmap-maps x u ∙ ap (λ b. not (b && nat_eq u t) && maps boot before x u) d

  pub unmap-here : (u : ℕ) → maps boot (entry ∷ before) o u ≡ (not (nat_eq u t) && maps boot before o u)
  unmap-here u = unmap-maps o u ∙ ap (λ b. not (b && nat_eq u t) && maps boot before o u) (same-number o)

  mapped_other : (x : ℕ) → nat_eq o x ≡ false → mapped boot (entry ∷ before) x ≡ mapped boot before x
  mapped_other x d = mapped-kept boot entry before x (maps_other x d)

  owner_other : (x : ℕ) → nat_eq o x ≡ false → owner boot (entry ∷ before) x ≡ owner boot before x
  owner_other x d = owner-kept boot entry before x (maps_other x d)

  pub unmap-mapped : mapped boot before o ≡ true
  unmap-mapped = caller-mapped boot before o t v own

  pub unmap-was : (x : ℕ) → mapped boot (entry ∷ before) x ≡ true → mapped boot before x ≡ true
  unmap-was x h = elim (eqb_tells o x) [
    | inl same ↦ subst (λ (y : ℕ). mapped boot before y ≡ true) same.1 unmap-mapped
    | inr other ↦ sym (mapped_other x other.0) ∙ h
  ]

  unmaps_here : unmaps boot before entry o ≡ not (mapped boot (entry ∷ before) o)
  unmaps_here = unmaps-is boot entry before o ∙ ap (λ b. b && not (mapped boot (entry ∷ before) o)) unmap-mapped

  unmaps_other : (x : ℕ) → nat_eq o x ≡ false → unmaps boot before entry x ≡ false
  unmaps_other x d = unmaps-kept boot entry before x (mapped_other x d)

  -- the states, what is written and what entered stay, and so do the pages of the other objects
  pub unmap-state : (x : ℕ) → state (entry ∷ before) x ≡ state before x
  unmap-state x = state-kept entry before x refl refl refl

  pub unmap-standing : (x : ℕ) → standing (entry ∷ before) x ≡ standing before x
  unmap-standing x = standing-kept entry before x refl

  pub unmap-entered : entered (entry ∷ before) ≡ entered before
  unmap-entered = entered-kept entry before refl

  pub unmap-written : (p : PageId) → written (entry ∷ before) p ≡ written before p
  unmap-written p = written-kept entry before p refl

  placed_by : (p : PageId) → unmaps boot before entry p.obj ≡ false → placed boot (entry ∷ before) p ≡ placed boot before p
  placed_by p n = placed-kept boot entry before p (rw n refl)

  touched_by : (p : PageId) → unmaps boot before entry p.obj ≡ false → touched_since boot (entry ∷ before) p ≡ touched_since boot before p
  touched_by p n = touched_since-kept boot entry before p (rw n refl)

  -- a page of an object that is still mapped stays where it is
  unmaps_mapped : (x : ℕ) → mapped boot (entry ∷ before) x ≡ true → unmaps boot before entry x ≡ false
  unmaps_mapped x h = unmaps-is boot entry before x ∙ ap (λ b. mapped boot before x && not b) h ∙ and_false (mapped boot before x)

  pub unmap-placed : (p : PageId) → mapped boot (entry ∷ before) p.obj ≡ true → placed boot (entry ∷ before) p ≡ placed boot before p
  unmap-placed p h = placed_by p (unmaps_mapped p.obj h)

  pub unmap-touched : (p : PageId) → mapped boot (entry ∷ before) p.obj ≡ true → touched_since boot (entry ∷ before) p ≡ touched_since boot before p
  unmap-touched p h = touched_by p (unmaps_mapped p.obj h)

  -- and those of one that isn't are Absent, if they were where it wasn't before
  pub unmap-absent : (p : PageId) → (mapped boot before p.obj ≡ false → place boot before p ≡ Absent) → mapped boot (entry ∷ before) p.obj ≡ false → place boot (entry ∷ before) p ≡ Absent
  unmap-absent p absent h = elim (cases_Bool (mapped boot before p.obj)) [
    | inl m ↦ ap (λ (x : Placed). x.place) (placed-unmapped boot entry before p (unmaps-is boot entry before p.obj ∙ ap₂ (λ a b. a && not b) m h))
    | inr n ↦ ap (λ (x : Placed). x.place) (placed_by p (unmaps-is boot entry before p.obj ∙ ap (λ a. a && not (mapped boot (entry ∷ before) p.obj)) n)) ∙ absent n
  ]

  -- one object at most leaves its group, and takes the first of its queue with it
  leaves_one : (x : ℕ) → (volatile boot before x && unmaps boot before entry x) ≡ ((volatile boot before o && not (mapped boot (entry ∷ before) o)) && nat_eq o x)
  leaves_one x = elim (eqb_tells o x) [
    | inl same ↦ subst (λ (y : ℕ). (volatile boot before y && unmaps boot before entry y) ≡ ((volatile boot before o && not (mapped boot (entry ∷ before) o)) && nat_eq o y)) same.1 (ap (λ b. volatile boot before o && b) unmaps_here ∙ sym (ap (λ b. (volatile boot before o && not (mapped boot (entry ∷ before) o)) && b) (same-number o) ∙ and_true (volatile boot before o && not (mapped boot (entry ∷ before) o))))
    | inr other ↦ ap (λ b. volatile boot before x && b) (unmaps_other x other.0) ∙ and_false (volatile boot before x) ∙ sym (ap (λ b. (volatile boot before o && not (mapped boot (entry ∷ before) o)) && b) other.0 ∙ and_false (volatile boot before o && not (mapped boot (entry ∷ before) o)))
  ]

  taken_by : (b : Bool) (d : Deadlines) → fold (λ d' x. without_first (standing before x).queue d') d (cond b (o ∷ []) []) ≡ cond b (without_first (standing before o).queue d) d
  taken_by true d = refl
  taken_by false d = refl

  pub unmap-deadlines : deadlines boot (entry ∷ before) ≡ cond (volatile boot before o && not (mapped boot (entry ∷ before) o)) (without_first (standing before o).queue (deadlines boot before)) (deadlines boot before)
  unmap-deadlines =
      deadlines-unmapped boot entry before refl refl
      ∙ ap (fold (λ d x. without_first (standing before x).queue d) (deadlines boot before)) (filter-one (λ x. volatile boot before x && unmaps boot before entry x) (volatile boot before o && not (mapped boot (entry ∷ before) o)) o 0 (length boot.objects) leaves_one zero-le (omega arith))
      ∙ taken_by (volatile boot before o && not (mapped boot (entry ∷ before) o)) (deadlines boot before)

  -- the objects
  pub unmap-objects : (objects : List Object) → length (object_at objects o).mapping ≡ 64 → t < 64 → ObjectsStand boot before objects → ObjectsStand boot (entry ∷ before) (changed objects o (unmapped_by t))
  unmap-objects objects whole few s =
      let l : o < length objects = (let n = s.object_count in omega (arith, n, inside)) in
      let there : t < length (object_at objects o).mapping = omega (arith, few, whole) in
      record {
        object_count = length-set objects o (unmapped_by t (object_at objects o)) ∙ s.object_count;
        sharers = λ x u m k. changed-each (λ y object. y < length boot.objects → has_task object.tasks u ≡ Rattle.kernel_model.specs.Answers.shares boot y u) objects o (unmapped_by t) l (λ n. s.sharers o u n k) (λ y d n. s.sharers y u n k) x m;
        sizes = λ x m. changed-each (λ y object. y < length boot.objects → object.pages ≡ pages_in boot y) objects o (unmapped_by t) l (λ n. s.sizes o n) (λ y d n. s.sizes y n) x m;
        mappers = λ x u m. changed-each (λ y object. y < length boot.objects → has_task object.mapping u ≡ maps boot (entry ∷ before) y u) objects o (unmapped_by t) l
            (λ n. task-removed (object_at objects o).mapping t u there ∙ ap (λ b. not (nat_eq u t) && b) (s.mappers o u n) ∙ sym (unmap-here u))
            (λ y d n. s.mappers y u n ∙ sym (maps_other y (other-number y o d) u)) x m;
        states = λ x m k. changed-each (λ y object. y < length boot.objects → mapped boot (entry ∷ before) y ≡ true → object.state ≡ state (entry ∷ before) y) objects o (unmapped_by t) l
            (λ n h. s.states o n (unmap-was o h) ∙ sym (unmap-state o))
            (λ y d n h. s.states y n (unmap-was y h) ∙ sym (unmap-state y)) x m k;
        written = λ p m k. changed-each (λ y object. y ≡ p.obj → get_or object.written p.page false ≡ written (entry ∷ before) p) objects o (unmapped_by t) l
            (λ e. ap (λ (z : ℕ). get_or (object_at objects z).written p.page false) e ∙ s.written p m (unmap-was p.obj k) ∙ sym (unmap-written p))
            (λ y d e. ap (λ (z : ℕ). get_or (object_at objects z).written p.page false) e ∙ s.written p m (unmap-was p.obj k) ∙ sym (unmap-written p)) p.obj refl;
      }

  -- the accounts
  place_other : (x : ℕ) → nat_eq o x ≡ false → (n : ℕ) → place boot (entry ∷ before) (record { obj = x; page = n }) ≡ place boot before (record { obj = x; page = n })
  place_other x d n = ap (λ (y : Placed). y.place) (placed_by (record { obj = x; page = n }) (unmaps_other x d))

  pub unmap-accounts : (accounts : List Account) → AccountsStand boot before accounts → AccountsStand boot (entry ∷ before) (burdened (owner boot (entry ∷ before) o) (charge_of boot (entry ∷ before) o) (relieved (owner boot before o) (charge_of boot before o) accounts))
  unmap-accounts accounts s = accounts-object boot entry before o inside owner_other (λ x d. unmap-state x) place_other accounts s
      (spared-live boot entry before unmap-spares) (spared-active boot entry before unmap-spares) (spared-limits boot entry before unmap-spares)

  pub unmap-fits : (accounts : List Account) → AccountsStand boot before accounts → (u : ℕ) → owner boot (entry ∷ before) o ≡ Some u → Rattle.task_ledger.specs.Accounts.AreWithin (Rattle.task_ledger.specs.Accounts.counts_plus (Rattle.task_ledger.specs.Accounts.account_of (relieved (owner boot before o) (charge_of boot before o) accounts) u).counts (charge_of boot (entry ∷ before) o))
  unmap-fits accounts s u is = Rattle.kernel_tables.proofs.ObjectCharges.burden-fits boot entry before o inside owner_other (λ x d. unmap-state x) place_other accounts s u v is

  -- where another task maps the object yet
  module _ (still : mapped boot (entry ∷ before) o ≡ true) where
    mapped_same : (x : ℕ) → mapped boot (entry ∷ before) x ≡ mapped boot before x
    mapped_same x = elim (eqb_tells o x) [
      | inl same ↦ subst (λ (y : ℕ). mapped boot (entry ∷ before) y ≡ mapped boot before y) same.1 (still ∙ sym unmap-mapped)
      | inr other ↦ mapped_other x other.0
    ]

    unmaps_none : (x : ℕ) → unmaps boot before entry x ≡ false
    unmaps_none x = unmaps-kept boot entry before x (mapped_same x)

    placed_same : (p : PageId) → placed boot (entry ∷ before) p ≡ placed boot before p
    placed_same p = placed_by p (unmaps_none p.obj)

    pub still-pages : (pages : Pages) (n : ℕ) → PagesStand boot before pages n → PagesStand boot (entry ∷ before) pages n
    still-pages pages n s = kept-pages boot entry before pages n placed_same (λ p. touched_by p (unmaps_none p.obj)) unmap-entered s

    pub still-queues : (groups : List (List ℕ)) (tokens : QueueDues) → QueuesStand boot before groups tokens → QueuesStand boot (entry ∷ before) groups tokens
    still-queues groups tokens s = kept-queues boot entry before groups tokens
        (λ q g x. stands_in-kept boot entry before q g x (volatile-kept boot entry before x (mapped_same x) (unmap-state x)) (unmap-standing x))
        unmap-standing
        (deadlines-kept boot entry before refl refl unmaps_none) (left-kept boot entry before placed_same unmap-entered) (counted-kept boot entry before placed_same is_inactive) s

    pages_same : (k : Place → Bool) → pages_at boot (entry ∷ before) k o ≡ pages_at boot before k o
    pages_same k = count_by-agree (λ n. k (place boot (entry ∷ before) (record { obj = o; page = n }))) (λ n. k (place boot before (record { obj = o; page = n }))) (λ n. ap (λ (x : Placed). k x.place) (placed_same (record { obj = o; page = n }))) (range_with_len 0 (pages_in boot o))

    pub still-charge : charge_of boot (entry ∷ before) o ≡ charge_of boot before o
    still-charge =
        ap₂ (charge (state (entry ∷ before) o)) (pages_same is_in) (pages_same is_stored)
        ∙ ap (λ x. charge x (pages_at boot before is_in o) (pages_at boot before is_stored o)) (unmap-state o)

  -- where none does
  module _ (last : mapped boot (entry ∷ before) o ≡ false) where
    gone : (p : PageId) → nat_eq o p.obj ≡ true → place boot (entry ∷ before) p ≡ Absent
    gone p h = elim (eqb_tells o p.obj) [
      | inl same ↦ ap (λ (x : Placed). x.place) (placed-unmapped boot entry before p (subst (λ (y : ℕ). unmaps boot before entry y ≡ true) same.1 (unmaps_here ∙ ap not last)))
      | inr other ↦ absurd (false≢true (sym other.0 ∙ h))
    ]

    rest : (p : PageId) → nat_eq o p.obj ≡ false → placed boot (entry ∷ before) p ≡ placed boot before p
    rest p h = placed_by p (unmaps_other p.obj h)

    module _ (old new : Pages) (n : ℕ) (queues : new.queues ≡ without_object o (slice_index_or old.sizes o 0) old.queues) (s : PagesStand boot before old n) where
      pub last-pages : new.frames ≡ old.frames → new.sizes ≡ old.sizes → ((key : ℕ) → is_marked new key ≡ (is_marked old key && not (is_of_first o (slice_index_or old.sizes o 0) key))) → PagesStand boot (entry ∷ before) new n
      last-pages frames sizes marks = pages-dropped boot v entry before o old new n gone rest queues s frames sizes marks (λ p h. touched_by p (unmaps_other p.obj h)) unmap-entered

      pub last-inactive : PagesStand boot (entry ∷ before) new n → inactive_pages boot (entry ∷ before) + count_of o (inactive_keys old) ≡ inactive_pages boot before
      last-inactive later = inactive-dropped boot v entry before o old new n gone rest queues s later

      pub last-left : PagesStand boot (entry ∷ before) new n → left boot (entry ∷ before) ≡ left boot before + count_of o (inactive_keys old)
      last-left later =
          let i = last-inactive later in
          let few = inactive-entered boot before in
          let was = left-is boot before in
          let now = left-is boot (entry ∷ before) in
          let same = unmap-entered in
          omega (arith, i, few, was, now, same)

    -- the groups
    volatile_none : volatile boot (entry ∷ before) o ≡ false
    unfolding volatile
    volatile_none = ap (λ b. b && is_volatile_state (state (entry ∷ before) o)) last

    stands_after : (q : Queue) (g x : ℕ) → stands_in boot (entry ∷ before) q g x ≡ (not (nat_eq o x) && stands_in boot before q g x)
    stands_after q g x = elim (eqb_tells o x) [
      | inl same ↦ (let out : volatile boot (entry ∷ before) x ≡ false = subst (λ (y : ℕ). volatile boot (entry ∷ before) y ≡ false) same.1 volatile_none in rw (same.0, out) refl)
      | inr other ↦ rw other.0 (stands_in-kept boot entry before q g x (volatile-kept boot entry before x (mapped_other x other.0) (unmap-state x)) (unmap-standing x))
    ]

    groups_left : (groups : List (List ℕ)) → HasGroups boot before groups → HasGroups boot (entry ∷ before) (map (without o) groups)
    groups_left groups s q g l =
        subst (KeepsGroup boot (entry ∷ before) q g) (sym (removed-at groups o (first_list q + g)))
        (group-filter boot entry before q g (λ x. not (nat_eq o x)) (members groups q g) (stands_after q g) (λ x h. unmap-standing x) (s q g l))

    groups_same : (groups : List (List ℕ)) → volatile boot before o ≡ false → HasGroups boot before groups → HasGroups boot (entry ∷ before) groups
    groups_same groups n s = kept-groups boot entry before groups (λ q g x. stands_after q g x ∙ elim (eqb_tells o x) [
      | inl same ↦ (let out : volatile boot before x ≡ false = subst (λ (y : ℕ). volatile boot before y ≡ false) same.1 n in rw (same.0, out) refl)
      | inr other ↦ rw other.0 refl
    ]) unmap-standing s

    -- the dues, from tokens that follow the deadlines and were told of the pages that left
    dues_told : (taken tokens : QueueDues) (e k : ℕ) → Follows (deadlines boot (entry ∷ before)) e (left boot before) taken → ((q : Queue) → dues_in tokens q ≡ lowered_by k (dues_in taken q)) → left boot (entry ∷ before) ≡ left boot before + k → (q : Queue) → dues_in tokens q ≡ map (λ x. x - left boot (entry ∷ before)) (of_queue (deadlines boot (entry ∷ before)) q)
    dues_told taken tokens e k follows dues later q =
        dues q ∙ ap (lowered_by k) (follows.dues q) ∙ lowered-more (left boot before) k (of_queue (deadlines boot (entry ∷ before)) q)
        ∙ ap (λ (m : ℕ). map (λ x. x - m) (of_queue (deadlines boot (entry ∷ before)) q)) (sym later)

    taken_follows : (b : Bool) (tokens : QueueDues) (e : ℕ) (q : Queue) → volatile boot before o ≡ b → (standing before o).queue ≡ q → Follows (deadlines boot before) e (left boot before) tokens → Follows (deadlines boot (entry ∷ before)) e (left boot before) (if b then with_dues tokens q (drop 1 (dues_in tokens q)) else tokens)
    taken_follows true tokens e q vol is f =
        subst (λ (d : Deadlines). Follows d e (left boot before) (with_dues tokens q (drop 1 (dues_in tokens q)))) (sym (unmap-deadlines ∙ rw (vol, last, is) refl)) (first-follows (deadlines boot before) e (left boot before) tokens q f)
    taken_follows false tokens e q vol is f =
        subst (λ (d : Deadlines). Follows d e (left boot before) tokens) (sym (unmap-deadlines ∙ rw vol refl)) f

    module _ (groups : List (List ℕ)) (tokens tokens' : QueueDues) (k : ℕ) (s : QueuesStand boot before groups tokens) (later : left boot (entry ∷ before) ≡ left boot before + k) (ahead : tokens'.ahead ≡ inactive_pages boot (entry ∷ before)) where
      tokens_follow : Follows (deadlines boot before) (left boot before + tokens.ahead) (left boot before) tokens
      tokens_follow = record { dues = s.dues; ahead = omega arith }

      pub last-queues : (b : Bool) (q : Queue) → volatile boot before o ≡ b → (standing before o).queue ≡ q → ((r : Queue) → dues_in tokens' r ≡ lowered_by k (dues_in (if b then with_dues tokens q (drop 1 (dues_in tokens q)) else tokens) r)) → QueuesStand boot (entry ∷ before) (if b then map (without o) groups else groups) tokens'
      last-queues true q vol is dues = record {
        groups = groups_left groups s.groups;
        ahead = ahead;
        dues = dues_told (with_dues tokens q (drop 1 (dues_in tokens q))) tokens' (left boot before + tokens.ahead) k (taken_follows true tokens (left boot before + tokens.ahead) q vol is tokens_follow) dues later;
      }
      last-queues false q vol is dues = record {
        groups = groups_same groups vol s.groups;
        ahead = ahead;
        dues = dues_told tokens tokens' (left boot before + tokens.ahead) k (taken_follows false tokens (left boot before + tokens.ahead) q vol is tokens_follow) dues later;
      }

-- each queue has as many tokens as objects
pub tokens-left : (groups : List (List ℕ)) (tokens tokens' : QueueDues) (k o : ℕ) (b : Bool) (q : Queue) → AreGroups groups → (b ≡ true → queue_of o groups ≡ Some q) → ((r : Queue) → dues_in tokens' r ≡ lowered_by k (dues_in (if b then with_dues tokens q (drop 1 (dues_in tokens q)) else tokens) r)) → HasTokens tokens groups → HasTokens tokens' (if b then map (without o) groups else groups)
tokens-left groups tokens tokens' k o true q are found dues h = departed-as-many (with_dues tokens q (drop 1 (dues_in tokens q))) tokens' (map (without o) groups) k dues (first-as-many tokens groups q o are (found refl) h)
tokens-left groups tokens tokens' k o false q are found dues h = departed-as-many tokens tokens' groups k dues h
