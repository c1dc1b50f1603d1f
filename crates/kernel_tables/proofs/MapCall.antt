-- Map: an object that nobody maps is mapped by one task, NONVOLATILE, with no page anywhere.
use Rattle.std.proofs.Common.{◌≡◌, ℕ, ◌-◌, ◌<◌, List, ◌∷◌, length, map, Option, Some, None, refl, sym, ap, ap₂, ◌∙◌, subst, Bool, true, false, ◌&&◌, ◌||◌, inl, inr, nat_eq, arith}
use Rattle.std.specs.Option.{option_map_or}
use Rattle.std.specs.Prelude.{count_by, IsTrue}
use Rattle.std.proofs.lemmas.Bool.{false≢true}
use Rattle.std.proofs.lemmas.Bool.Decides.{eqb_tells, nat_tests}
use Rattle.std.proofs.lemmas.List.{length-set, length-replicate}
use Rattle.kern_ids.specs.declared.entries.Entry.{Entry}
use Rattle.kern_ids.specs.declared.ids.PageId.{PageId}
use Rattle.kern_ids.specs.declared.calls.State.TheVariants.{Nonvolatile}
use Rattle.kernel_model.specs.declared.place.Place.{Place}
use Rattle.kernel_model.specs.declared.place.Place.TheVariants.{Absent}
use Rattle.kernel_model.specs.declared.place.Placed.{Placed}
use Rattle.kernel_model.specs.System.{System}
use Rattle.kernel_model.specs.Valid.{IsValidBoot}
use Rattle.kernel_model.specs.Events.{task_of}
use Rattle.kernel_model.specs.Lists.{pair_lt}
use Rattle.kernel_model.specs.Mapping.{live, maps, mapped, owner, unmaps}
use Rattle.kernel_model.specs.State.{state}
use Rattle.kernel_model.specs.Contents.{empties}
use Rattle.kernel_model.specs.Pages.{place, placed, pages_of, is_active, is_inactive, is_stored, entered, left, inactive_pages, touched_since, written}
use Rattle.kernel_model.specs.Groups.{volatile, is_volatile_state}
use Rattle.kernel_model.specs.Histories.{IsLegal}
use Rattle.kernel_model.specs.Scan.{stamp_lt}
use Rattle.kernel_model.specs.Laws.Kinds.{map_entry, runs_for}
use Rattle.kernel_model.specs.Laws.Queues.{KeepsPages}
use Rattle.kernel_model.proofs.Laws.Agree.{count_by-agree}
use Rattle.kernel_model.proofs.Laws.Kept.{mapped-kept, owner-kept, placed-kept, touched_since-kept, written-kept, entered-kept, standing-kept, stands_in-kept, deadlines-kept}
use Rattle.kernel_model.proofs.Laws.Kinds.{maps-map, state-map, empties-map, placed-emptied, written-emptied}
use Rattle.kernel_model.proofs.Laws.Lost.{nat_is}
use Rattle.kernel_model.proofs.Laws.Mapping.{unmaps-no}
use Rattle.kernel_model.proofs.Laws.Order.{keeps-same}
use Rattle.kernel_model.proofs.Laws.Pages.{left-is}
use Rattle.page_queues.specs.Pages.{Pages}
use Rattle.ripen_advance.specs.Queues.{QueueDues}
use Rattle.vm_object.specs.TaskSets.{has_task, no_task}
use Rattle.vm_object.specs.Objects.{Object, object_at, changed, mapped_by}
use Rattle.task_ledger.specs.declared.account.Account.{Account}
use Rattle.kernel_tables.specs.Values.{TableValues}
use Rattle.kernel_tables.specs.Stands.{Stands, PagesStand, QueuesStand, ObjectsStand, AccountsStand}
use Rattle.kernel_tables.proofs.Kept.{kept-queues, kept-accounts}
use Rattle.kernel_tables.proofs.Lists.{get_or-same}
use Rattle.kernel_tables.proofs.Objects.{task-declared}
use Rattle.kernel_tables.proofs.ObjectCharges.{counts-uncharged}
use Rattle.kernel_tables.proofs.ObjectEntries.{SparesTasks, spared-live, spared-active, spared-limits, spared-bands, changed-each, task-added}
use Rattle.kernel_tables.proofs.Unmapped.{absent-unmapped, unmapped-by}
use Rattle.kernel_tables.proofs.Accepted.{accepted-answer, accepted-live, fitting-names}
use Rattle.kernel_tables.proofs.ObjectCalls.{declared, accepted-shares}
use Rattle.kernel_tables.proofs.Objects.{mapped-stands}
use Rattle.kernel_model.specs.Answers.{answer, refusal}
use Rattle.kernel_model.specs.Histories.{fits}
use Rattle.kernel_model.proofs.Laws.Answers.{accepted-already}
use Rattle.kern_ids.specs.declared.calls.Call.TheVariants.{Map}
use Rattle.kern_ids.specs.declared.replies.Reply.TheVariants.{Mapped}
use Rattle.vm_object.specs.Objects.{is_mapped, shares as shares_in}

pub runs-for : (boot : System) (who t u : ℕ) → task_of boot who ≡ Some t → runs_for boot u who ≡ nat_eq u t
runs-for boot who t u by = ap (λ (x : Option ℕ). option_map_or (nat_eq u) x false) by

pub alive-by : (boot : System) (past : List Entry) (who t u : ℕ) → task_of boot who ≡ Some t → live boot past t ≡ true → runs_for boot u who ≡ true → live boot past u ≡ true
alive-by boot past who t u by alive h = ap (live boot past) (nat_is u t (sym (runs-for boot who t u by) ∙ h)) ∙ alive

and_none : (b : Bool) → (b && false) ≡ false
and_none true = refl
and_none false = refl

or_false : (b c : Bool) → c ≡ false → (b || c) ≡ b
or_false true c h = refl
or_false false c h = h

pub same-number : (n : ℕ) → nat_eq n n ≡ true
same-number n = grind (arith, nat_tests)

pub other-number : (x o : ℕ) → (x ≡ o → ⊥) → nat_eq o x ≡ false
other-number x o d = grind (arith, nat_tests)

module _ (boot : System) (who o t : ℕ) (before : List Entry) (v : IsValidBoot boot) (legal : IsLegal boot before) (by : task_of boot who ≡ Some t) (alive : live boot before t ≡ true) (unmapped : mapped boot before o ≡ false) (inside : o < length boot.objects) where
  abbrev entry : Entry
  entry = map_entry who o

  spares : SparesTasks boot entry
  spares = record { ends = λ u. refl; bands = λ u. refl; activity = refl; limits = λ u. refl; aged = refl; tick = refl }

  -- who maps
  maps_after : (x u : ℕ) → maps boot (entry ∷ before) x u ≡ ((nat_eq o x && nat_eq u t) || maps boot before x u)
  maps_after x u = maps-map boot who o before x u (alive-by boot before who t u by alive) ∙ ap (λ b. (nat_eq o x && b) || maps boot before x u) (runs-for boot who t u by)

  maps_other : (x : ℕ) → nat_eq o x ≡ false → (u : ℕ) → maps boot (entry ∷ before) x u ≡ maps boot before x u
  maps_other x d u = maps_after x u ∙ ap (λ b. (b && nat_eq u t) || maps boot before x u) d

  maps_here : (u : ℕ) → maps boot (entry ∷ before) o u ≡ nat_eq u t
  maps_here u = maps_after o u ∙ ap (λ b. (b && nat_eq u t) || maps boot before o u) (same-number o) ∙ or_false (nat_eq u t) (maps boot before o u) (unmapped-by boot before o u v unmapped)

  mapped_other : (x : ℕ) → nat_eq o x ≡ false → mapped boot (entry ∷ before) x ≡ mapped boot before x
  mapped_other x d = mapped-kept boot entry before x (maps_other x d)

  owner_other : (x : ℕ) → nat_eq o x ≡ false → owner boot (entry ∷ before) x ≡ owner boot before x
  owner_other x d = owner-kept boot entry before x (maps_other x d)

  unmaps_none : (x : ℕ) → unmaps boot before entry x ≡ false
  unmaps_none x = unmaps-no boot entry before x (λ u. refl) refl

  -- the states
  state_here : state (entry ∷ before) o ≡ Nonvolatile
  state_here = state-map who o before o ∙ ap (λ b. Rattle.std.specs.Prelude.cond b Nonvolatile (state before o)) (same-number o)

  state_other : (x : ℕ) → nat_eq o x ≡ false → state (entry ∷ before) x ≡ state before x
  state_other x d = state-map who o before x ∙ ap (λ b. Rattle.std.specs.Prelude.cond b Nonvolatile (state before x)) d

  volatile_same : (x : ℕ) → volatile boot (entry ∷ before) x ≡ volatile boot before x
  unfolding volatile
  volatile_same x = elim (eqb_tells o x) [
    | inl same ↦ subst (λ (y : ℕ). volatile boot (entry ∷ before) y ≡ volatile boot before y) same.1 (ap (λ s. mapped boot (entry ∷ before) o && is_volatile_state s) state_here ∙ and_none (mapped boot (entry ∷ before) o) ∙ sym (ap (λ b. b && is_volatile_state (state before o)) unmapped))
    | inr other ↦ ap₂ (λ b s. b && is_volatile_state s) (mapped_other x other.0) (state_other x other.0)
  ]

  -- the places
  absent : (p : PageId) → o ≡ p.obj → place boot before p ≡ Absent
  absent p e = absent-unmapped boot before p v legal (ap (mapped boot before) (sym e) ∙ unmapped)

  spared : (p : PageId) → nat_eq o p.obj ≡ false → empties p.obj before entry ≡ false
  spared p d = empties-map who o before p.obj ∙ d

  emptied : (p : PageId) → nat_eq o p.obj ≡ true → empties p.obj before entry ≡ true
  emptied p d = empties-map who o before p.obj ∙ d

  placed_other : (p : PageId) → nat_eq o p.obj ≡ false → placed boot (entry ∷ before) p ≡ placed boot before p
  placed_other p d = placed-kept boot entry before p (rw (spared p d, unmaps_none p.obj) refl)

  place_same : (p : PageId) → place boot (entry ∷ before) p ≡ place boot before p
  place_same p = elim (eqb_tells o p.obj) [
    | inl same ↦ ap (λ (x : Placed). x.place) (placed-emptied boot entry before p (emptied p same.0)) ∙ sym (absent p same.1)
    | inr other ↦ ap (λ (x : Placed). x.place) (placed_other p other.0)
  ]

  placed_in : (k : Place → Bool) → k Absent ≡ false → (p : PageId) → k (place boot before p) ≡ true → placed boot (entry ∷ before) p ≡ placed boot before p
  placed_in k none p h = elim (eqb_tells o p.obj) [
    | inl same ↦ absurd (false≢true (sym none ∙ ap k (sym (absent p same.1)) ∙ h))
    | inr other ↦ placed_other p other.0
  ]

  order : (k : Place → Bool) (ps : List PageId) → k Absent ≡ false → KeepsPages boot before k ps → KeepsPages boot (entry ∷ before) k ps
  unfolding stamp_lt
  order k ps none keeps = keeps-same (pages_of boot) (λ p. k (place boot before p)) (λ p. k (place boot (entry ∷ before) p)) (stamp_lt boot before) (stamp_lt boot (entry ∷ before)) ps
      (λ p. ap k (place_same p))
      (λ p q hp hq. ap₂ (λ (x y : Placed). pair_lt (x.number, p.page) (y.number, q.page)) (placed_in k none p hp) (placed_in k none q hq)) keeps

  touched_same : (p : PageId) → (is_inactive (place boot (entry ∷ before) p) && touched_since boot (entry ∷ before) p) ≡ (is_inactive (place boot before p) && touched_since boot before p)
  touched_same p = elim (eqb_tells o p.obj) [
    | inl same ↦ ap (λ x. is_inactive x && touched_since boot (entry ∷ before) p) (place_same p ∙ absent p same.1) ∙ sym (ap (λ x. is_inactive x && touched_since boot before p) (absent p same.1))
    | inr other ↦ ap₂ (λ x b. is_inactive x && b) (place_same p) (touched_since-kept boot entry before p (rw (spared p other.0, unmaps_none p.obj) refl))
  ]

  entered_same : entered (entry ∷ before) ≡ entered before
  entered_same = entered-kept entry before refl

  inactive_same : inactive_pages boot (entry ∷ before) ≡ inactive_pages boot before
  inactive_same = count_by-agree (λ p. is_inactive (place boot (entry ∷ before) p)) (λ p. is_inactive (place boot before p)) (λ p. ap is_inactive (place_same p)) (pages_of boot)

  left_same : left boot (entry ∷ before) ≡ left boot before
  left_same = left-is boot (entry ∷ before) ∙ ap₂ (λ (a b : ℕ). a - b) entered_same inactive_same ∙ sym (left-is boot before)

  map_pages : (pages : Pages) (n : ℕ) → PagesStand boot before pages n → PagesStand boot (entry ∷ before) pages n
  map_pages pages n s = record {
    frames = s.frames;
    page_sizes = s.page_sizes;
    places = λ p m. s.places p m ∙ sym (place_same p);
    active_order = order is_active _ refl s.active_order;
    inactive_order = order is_inactive _ refl s.inactive_order;
    stored_order = order is_stored _ refl s.stored_order;
    marks = λ p m. s.marks p m ∙ sym (touched_same p);
    entered = s.entered ∙ sym entered_same;
  }

  map_queues : (groups : List (List ℕ)) (tokens : QueueDues) → QueuesStand boot before groups tokens → QueuesStand boot (entry ∷ before) groups tokens
  map_queues groups tokens s = kept-queues boot entry before groups tokens
      (λ q g x. stands_in-kept boot entry before q g x (volatile_same x) (standing-kept entry before x refl))
      (λ x. standing-kept entry before x refl)
      (deadlines-kept boot entry before refl refl unmaps_none) left_same inactive_same s

  map_accounts : (accounts : List Account) → AccountsStand boot before accounts → AccountsStand boot (entry ∷ before) accounts
  map_accounts accounts s = kept-accounts boot entry before accounts (spared-live boot entry before spares)
      (counts-uncharged boot entry before o inside owner_other state_other place_same (λ n. absent (record { obj = o; page = n }) refl))
      (spared-active boot entry before spares) (spared-limits boot entry before spares) s

  written_other : (p : PageId) → nat_eq o p.obj ≡ false → written (entry ∷ before) p ≡ written before p
  written_other p d = written-kept entry before p (rw (spared p d) refl)

  map_objects : (objects : List Object) → ObjectsStand boot before objects → ObjectsStand boot (entry ∷ before) (changed objects o (mapped_by t))
  map_objects objects s =
      let l : o < length objects = (let n = s.object_count in omega (arith, n)) in
      let few : t < length no_task = (let d = task-declared boot who t v by in let m = v.few_tasks in let n : length no_task ≡ 64 = length-replicate 64 false in omega (arith, d, m, n)) in
      record {
        object_count = length-set objects o (mapped_by t (object_at objects o)) ∙ s.object_count;
        sharers = λ x u m k. changed-each (λ y object. y < length boot.objects → has_task object.tasks u ≡ Rattle.kernel_model.specs.Answers.shares boot y u) objects o (mapped_by t) l (λ n. s.sharers o u n k) (λ y d n. s.sharers y u n k) x m;
        sizes = λ x m. changed-each (λ y object. y < length boot.objects → object.pages ≡ Rattle.kernel_model.specs.Pages.pages_in boot y) objects o (mapped_by t) l (λ n. s.sizes o n) (λ y d n. s.sizes y n) x m;
        mappers = λ x u m. changed-each (λ y object. y < length boot.objects → has_task object.mapping u ≡ maps boot (entry ∷ before) y u) objects o (mapped_by t) l
            (λ n. task-added no_task t u few ∙ or_false (nat_eq u t) (has_task no_task u) (get_or-same 64 u false) ∙ sym (maps_here u))
            (λ y d n. s.mappers y u n ∙ sym (maps_other y (other-number y o d) u)) x m;
        states = λ x m k. changed-each (λ y object. y < length boot.objects → mapped boot (entry ∷ before) y ≡ true → object.state ≡ state (entry ∷ before) y) objects o (mapped_by t) l
            (λ n h. sym state_here)
            (λ y d n h. s.states y n (sym (mapped_other y (other-number y o d)) ∙ h) ∙ sym (state_other y (other-number y o d))) x m k;
        written = λ p m k. changed-each (λ y object. y ≡ p.obj → Rattle.std.proofs.Common.get_or object.written p.page false ≡ written (entry ∷ before) p) objects o (mapped_by t) l
            (λ e. get_or-same 256 p.page false ∙ sym (written-emptied entry before p (emptied p (ap (nat_eq o) (sym e) ∙ same-number o))))
            (λ y d e.
            let other : nat_eq o p.obj ≡ false = ap (nat_eq o) (sym e) ∙ other-number y o d in
            ap (λ (z : ℕ). Rattle.std.proofs.Common.get_or (object_at objects z).written p.page false) e ∙ s.written p m (sym (mapped_other p.obj other) ∙ k) ∙ sym (written_other p other)) p.obj refl;
      }

-- all tables after a Map
pub map-stands : (tables : TableValues) (past : List Entry) (who o t : ℕ) → IsValidBoot tables.boot → task_of tables.boot who ≡ Some t → live tables.boot past t ≡ true → mapped tables.boot past o ≡ false → o < length tables.boot.objects → IsLegal tables.boot (map_entry who o ∷ past) → Stands tables past → Stands (record tables { objects = changed tables.objects o (mapped_by t) }) (map_entry who o ∷ past)
map-stands tables past who o t v by alive unmapped inside legal s =
    let boot = tables.boot in
    record {
      legal = legal;
      pages = map_pages boot who o t past v s.legal by alive unmapped inside tables.pages tables.entered s.pages;
      queues = map_queues boot who o t past v s.legal by alive unmapped inside tables.groups tables.tokens s.queues;
      objects = map_objects boot who o t past v s.legal by alive unmapped inside tables.objects s.objects;
      accounts = map_accounts boot who o t past v s.legal by alive unmapped inside tables.accounts s.accounts;
      bands = spared-bands boot (map_entry who o) past (spares boot who o t past v s.legal by alive unmapped inside) tables.wishes tables.bands tables.ages s.bands;
    }

-- a Map that is not refused
module _ (tables : TableValues) (past : List Entry) (who o t : ℕ) (v : IsValidBoot tables.boot) (s : Stands tables past) (f : IsTrue (fits tables.boot who (Map o))) (a : refusal tables.boot past who (Map o) ≡ None) (by : task_of tables.boot who ≡ Some t) where
  map_inside : o < length tables.boot.objects
  map_inside = declared tables.boot o (fitting-names tables.boot past who (Map o) f)

  map_free : mapped tables.boot past o ≡ false
  map_free = accepted-already tables.boot past who (Map o) a

  pub map-unmapped : is_mapped tables.objects o ≡ false
  map-unmapped = mapped-stands tables.boot past tables.objects v s.objects.mappers o map_inside ∙ map_free

  pub map-shares : shares_in tables.objects o t ≡ true
  map-shares =
      let few : t < 64 = (let d = task-declared tables.boot who t v by in let m = v.few_tasks in omega (arith, d, m)) in
      s.objects.sharers o t map_inside few ∙ accepted-shares tables.boot past who (Map o) o t refl by a

  pub map-reply : Mapped ≡ answer tables.boot past who (Map o)
  map-reply = sym (accepted-answer tables.boot past who (Map o) a)

  pub map-done : (objects : List Object) → objects ≡ changed tables.objects o (mapped_by t) → Stands (record tables { objects = objects }) (map_entry who o ∷ past)
  map-done objects is =
      subst (λ (x : List Object). Stands (record tables { objects = x }) (map_entry who o ∷ past)) (sym is)
      (map-stands tables past who o t v by (accepted-live tables.boot past who (Map o) t by a) map_free map_inside (f, map-reply, s.legal) s)
