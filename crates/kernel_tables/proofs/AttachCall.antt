-- Attach: one task more maps an object, which may change its owner.
use Rattle.std.proofs.Common.{◌≡◌, ℕ, ◌-◌, ◌<◌, List, ◌∷◌, length, Option, Some, None, refl, sym, ap, ap₂, ◌∙◌, subst, Bool, true, false, ◌&&◌, ◌||◌, inl, inr, nat_eq, arith}
use Rattle.std.proofs.lemmas.Bool.Decides.{eqb_tells}
use Rattle.std.proofs.lemmas.List.{length-set}
use Rattle.std.specs.Prelude.{IsTrue}
use Rattle.kern_ids.specs.declared.entries.Entry.{Entry}
use Rattle.kern_ids.specs.declared.ids.PageId.{PageId}
use Rattle.kernel_model.specs.declared.place.Placed.{Placed}
use Rattle.kernel_model.specs.System.{System}
use Rattle.kernel_model.specs.Valid.{IsValidBoot}
use Rattle.kernel_model.specs.Events.{task_of}
use Rattle.kernel_model.specs.Mapping.{live, maps, mapped, owner, unmaps}
use Rattle.kernel_model.specs.State.{state}
use Rattle.kernel_model.specs.Pages.{place, placed, pages_of, is_inactive, entered, left, inactive_pages, touched_since, written}
use Rattle.kernel_model.specs.Histories.{IsLegal}
use Rattle.kernel_model.specs.Laws.Kinds.{attach_entry}
use Rattle.kernel_model.proofs.Laws.Kept.{mapped-kept, owner-kept, placed-kept, touched_since-kept, written-kept, entered-kept, standing-kept, volatile-kept, stands_in-kept, deadlines-kept, counted-kept, left-kept}
use Rattle.kernel_model.proofs.Laws.Kinds.{maps-attach}
use Rattle.kernel_model.proofs.Laws.Mapping.{unmaps-no}
use Rattle.kernel_model.proofs.Laws.State.{state-kept}
use Rattle.page_queues.specs.Pages.{Pages}
use Rattle.ripen_advance.specs.Queues.{QueueDues}
use Rattle.vm_object.specs.TaskSets.{has_task}
use Rattle.vm_object.specs.Objects.{Object, object_at, changed, attached_by}
use Rattle.task_ledger.specs.declared.account.Account.{Account}
use Rattle.kernel_tables.specs.Values.{TableValues}
use Rattle.kernel_tables.specs.Charges.{charge_of, relieved, burdened}
use Rattle.kernel_tables.specs.Stands.{Stands, PagesStand, QueuesStand, ObjectsStand, AccountsStand}
use Rattle.kernel_tables.proofs.Kept.{kept-pages, kept-queues}
use Rattle.kernel_tables.proofs.MapCall.{runs-for, alive-by, same-number, other-number}
use Rattle.kernel_tables.proofs.Objects.{task-declared}
use Rattle.kernel_tables.proofs.ObjectCharges.{accounts-object}
use Rattle.kernel_tables.proofs.ObjectEntries.{SparesTasks, spared-live, spared-active, spared-limits, spared-bands, changed-each, task-added}
use Rattle.kernel_tables.proofs.Unmapped.{caller-mapped}
use Rattle.kernel_tables.proofs.Accepted.{accepted-answer, accepted-live, fitting-names}
use Rattle.kernel_tables.proofs.ObjectCalls.{declared, caller, accepted-shares}
use Rattle.kernel_tables.proofs.ObjectCharges.{burden-fits, owner-declared, table-charge, length-relieved}
use Rattle.kernel_tables.proofs.Objects.{owner-stands, mapped-stands}
use Rattle.kernel_model.specs.Answers.{answer, refusal}
use Rattle.kernel_model.specs.Histories.{fits}
use Rattle.kernel_model.specs.Pages.{pages_in, is_stored}
use Rattle.kernel_model.specs.Laws.Frames.{pages_at, is_in}
use Rattle.kernel_model.specs.declared.place.Place.{Place}
use Rattle.kernel_model.proofs.Laws.Agree.{count_by-agree}
use Rattle.kernel_model.proofs.Laws.Answers.{accepted-already, accepted-no_object}
use Rattle.kernel_model.proofs.Laws.Held.{not_false}
use Rattle.kern_ids.specs.declared.calls.Call.TheVariants.{Attach}
use Rattle.kern_ids.specs.declared.replies.Reply.TheVariants.{Attached}
use Rattle.kern_ids.specs.declared.replies.Counts.{Counts}
use Rattle.vm_object.specs.Objects.{is_mapped, owner as owner_in, shares as shares_in, maps as maps_in}
use Rattle.task_ledger.specs.Accounts.{account_of, counts_plus, AreWithin}
use Rattle.kernel_tables.specs.Charges.{charge, framed_of, stored_of}
use Rattle.std.specs.List.{range_with_len}

module _ (boot : System) (who o t : ℕ) (before : List Entry) (v : IsValidBoot boot) (by : task_of boot who ≡ Some t) (alive : live boot before t ≡ true) (already : mapped boot before o ≡ true) (inside : o < length boot.objects) where
  abbrev entry : Entry
  entry = attach_entry who o

  spares : SparesTasks boot entry
  spares = record { ends = λ u. refl; bands = λ u. refl; activity = refl; limits = λ u. refl; aged = refl; tick = refl }

  -- who maps
  maps_after : (x u : ℕ) → maps boot (entry ∷ before) x u ≡ ((nat_eq o x && nat_eq u t) || maps boot before x u)
  maps_after x u = maps-attach boot who o before x u (alive-by boot before who t u by alive) ∙ ap (λ b. (nat_eq o x && b) || maps boot before x u) (runs-for boot who t u by)

  maps_other : (x : ℕ) → nat_eq o x ≡ false → (u : ℕ) → maps boot (entry ∷ before) x u ≡ maps boot before x u
  maps_other x d u = maps_after x u ∙ ap (λ b. (b && nat_eq u t) || maps boot before x u) d

  maps_here : (u : ℕ) → maps boot (entry ∷ before) o u ≡ (nat_eq u t || maps boot before o u)
  maps_here u = maps_after o u ∙ ap (λ b. (b && nat_eq u t) || maps boot before o u) (same-number o)

  owner_other : (x : ℕ) → nat_eq o x ≡ false → owner boot (entry ∷ before) x ≡ owner boot before x
  owner_other x d = owner-kept boot entry before x (maps_other x d)

  mapped_here : mapped boot (entry ∷ before) o ≡ true
  mapped_here = caller-mapped boot (entry ∷ before) o t v (maps_here t ∙ ap (λ b. b || maps boot before o t) (same-number t))

  mapped_same : (x : ℕ) → mapped boot (entry ∷ before) x ≡ mapped boot before x
  mapped_same x = elim (eqb_tells o x) [
    | inl same ↦ subst (λ (y : ℕ). mapped boot (entry ∷ before) y ≡ mapped boot before y) same.1 (mapped_here ∙ sym already)
    | inr other ↦ mapped-kept boot entry before x (maps_other x other.0)
  ]

  unmaps_none : (x : ℕ) → unmaps boot before entry x ≡ false
  unmaps_none x = unmaps-no boot entry before x (λ u. refl) refl

  -- nothing else changes
  state_same : (x : ℕ) → state (entry ∷ before) x ≡ state before x
  state_same x = state-kept entry before x refl refl refl

  placed_same : (p : PageId) → placed boot (entry ∷ before) p ≡ placed boot before p
  placed_same p = placed-kept boot entry before p (rw (unmaps_none p.obj) refl)

  touched_same : (p : PageId) → touched_since boot (entry ∷ before) p ≡ touched_since boot before p
  touched_same p = touched_since-kept boot entry before p (rw (unmaps_none p.obj) refl)

  entered_same : entered (entry ∷ before) ≡ entered before
  entered_same = entered-kept entry before refl

  attach_pages : (pages : Pages) (n : ℕ) → PagesStand boot before pages n → PagesStand boot (entry ∷ before) pages n
  attach_pages pages n s = kept-pages boot entry before pages n placed_same touched_same entered_same s

  attach_queues : (groups : List (List ℕ)) (tokens : QueueDues) → QueuesStand boot before groups tokens → QueuesStand boot (entry ∷ before) groups tokens
  attach_queues groups tokens s = kept-queues boot entry before groups tokens
      (λ q g x. stands_in-kept boot entry before q g x (volatile-kept boot entry before x (mapped_same x) (state_same x)) (standing-kept entry before x refl))
      (λ x. standing-kept entry before x refl)
      (deadlines-kept boot entry before refl refl unmaps_none) (left-kept boot entry before placed_same entered_same) (counted-kept boot entry before placed_same is_inactive) s

  attach_accounts : (accounts : List Account) → AccountsStand boot before accounts → AccountsStand boot (entry ∷ before) (burdened (owner boot (entry ∷ before) o) (charge_of boot (entry ∷ before) o) (relieved (owner boot before o) (charge_of boot before o) accounts))
  attach_accounts accounts s = accounts-object boot entry before o inside owner_other (λ x d. state_same x) (λ x d n. ap (λ (y : Placed). y.place) (placed_same (record { obj = x; page = n }))) accounts s
      (spared-live boot entry before spares) (spared-active boot entry before spares) (spared-limits boot entry before spares)

  attach_objects : (objects : List Object) → length (object_at objects o).mapping ≡ 64 → ObjectsStand boot before objects → ObjectsStand boot (entry ∷ before) (changed objects o (attached_by t))
  attach_objects objects whole s =
      let l : o < length objects = (let n = s.object_count in omega (arith, n)) in
      let few : t < length (object_at objects o).mapping = (let d = task-declared boot who t v by in let m = v.few_tasks in omega (arith, d, m, whole)) in
      record {
        object_count = length-set objects o (attached_by t (object_at objects o)) ∙ s.object_count;
        sharers = λ x u m k. changed-each (λ y object. y < length boot.objects → has_task object.tasks u ≡ Rattle.kernel_model.specs.Answers.shares boot y u) objects o (attached_by t) l (λ n. s.sharers o u n k) (λ y d n. s.sharers y u n k) x m;
        sizes = λ x m. changed-each (λ y object. y < length boot.objects → object.pages ≡ Rattle.kernel_model.specs.Pages.pages_in boot y) objects o (attached_by t) l (λ n. s.sizes o n) (λ y d n. s.sizes y n) x m;
        mappers = λ x u m. changed-each (λ y object. y < length boot.objects → has_task object.mapping u ≡ maps boot (entry ∷ before) y u) objects o (attached_by t) l
            (λ n. task-added (object_at objects o).mapping t u few ∙ ap (λ b. nat_eq u t || b) (s.mappers o u n) ∙ sym (maps_here u))
            (λ y d n. s.mappers y u n ∙ sym (maps_other y (other-number y o d) u)) x m;
        states = λ x m k. changed-each (λ y object. y < length boot.objects → mapped boot (entry ∷ before) y ≡ true → object.state ≡ state (entry ∷ before) y) objects o (attached_by t) l
            (λ n h. s.states o n (sym (mapped_same o) ∙ h) ∙ sym (state_same o))
            (λ y d n h. s.states y n (sym (mapped_same y) ∙ h) ∙ sym (state_same y)) x m k;
        written = λ p m k. changed-each (λ y object. y ≡ p.obj → Rattle.std.proofs.Common.get_or object.written p.page false ≡ written (entry ∷ before) p) objects o (attached_by t) l
            (λ e. ap (λ (z : ℕ). Rattle.std.proofs.Common.get_or (object_at objects z).written p.page false) e ∙ s.written p m (sym (mapped_same p.obj) ∙ k) ∙ sym (written-kept entry before p refl))
            (λ y d e. ap (λ (z : ℕ). Rattle.std.proofs.Common.get_or (object_at objects z).written p.page false) e ∙ s.written p m (sym (mapped_same p.obj) ∙ k) ∙ sym (written-kept entry before p refl)) p.obj refl;
      }

-- all tables after an Attach
pub attach-stands : (tables : TableValues) (past : List Entry) (who o t : ℕ) → IsValidBoot tables.boot → task_of tables.boot who ≡ Some t → live tables.boot past t ≡ true → mapped tables.boot past o ≡ true → o < length tables.boot.objects → length (object_at tables.objects o).mapping ≡ 64 → IsLegal tables.boot (attach_entry who o ∷ past) → Stands tables past → Stands (record tables { objects = changed tables.objects o (attached_by t); accounts = burdened (owner tables.boot (attach_entry who o ∷ past) o) (charge_of tables.boot (attach_entry who o ∷ past) o) (relieved (owner tables.boot past o) (charge_of tables.boot past o) tables.accounts) }) (attach_entry who o ∷ past)
attach-stands tables past who o t v by alive already inside whole legal s =
    let boot = tables.boot in
    record {
      legal = legal;
      pages = attach_pages boot who o t past v by alive already inside tables.pages tables.entered s.pages;
      queues = attach_queues boot who o t past v by alive already inside tables.groups tables.tokens s.queues;
      objects = attach_objects boot who o t past v by alive already inside tables.objects whole s.objects;
      accounts = attach_accounts boot who o t past v by alive already inside tables.accounts s.accounts;
      bands = spared-bands boot (attach_entry who o) past (spares boot who o t past v by alive already inside) tables.wishes tables.bands tables.ages s.bands;
    }

-- an Attach that is not refused
module _ (tables : TableValues) (past : List Entry) (who o t : ℕ) (v : IsValidBoot tables.boot) (s : Stands tables past) (f : IsTrue (fits tables.boot who (Attach o))) (a : refusal tables.boot past who (Attach o) ≡ None) (by : task_of tables.boot who ≡ Some t) where
  abbrev later : List Entry
  later = attach_entry who o ∷ past

  pub attach-inside : o < length tables.boot.objects
  attach-inside = declared tables.boot o (fitting-names tables.boot past who (Attach o) f)

  attach_alive : live tables.boot past t ≡ true
  attach_alive = accepted-live tables.boot past who (Attach o) t by a

  pub attach-found : mapped tables.boot past o ≡ true
  attach-found = not_false (mapped tables.boot past o) (accepted-no_object tables.boot past who (Attach o) a)

  pub attach-mapped : is_mapped tables.objects o ≡ true
  attach-mapped = mapped-stands tables.boot past tables.objects v s.objects.mappers o attach-inside ∙ attach-found

  pub attach-shares : shares_in tables.objects o t ≡ true
  attach-shares =
      let few : t < 64 = (let d = task-declared tables.boot who t v by in let m = v.few_tasks in omega (arith, d, m)) in
      s.objects.sharers o t attach-inside few ∙ accepted-shares tables.boot past who (Attach o) o t refl by a

  pub attach-other : maps_in tables.objects o t ≡ false
  attach-other = s.objects.mappers o t attach-inside ∙ ap (maps tables.boot past o) (sym (caller tables.boot who t by)) ∙ accepted-already tables.boot past who (Attach o) a

  pub attach-reply : Attached ≡ answer tables.boot past who (Attach o)
  attach-reply = sym (accepted-answer tables.boot past who (Attach o) a)

  -- what it counts stays
  attach_pages_at : (k : Place → Bool) → pages_at tables.boot later k o ≡ pages_at tables.boot past k o
  attach_pages_at k = count_by-agree (λ n. k (place tables.boot later (record { obj = o; page = n }))) (λ n. k (place tables.boot past (record { obj = o; page = n }))) (λ n. ap (λ (x : Placed). k x.place) (placed_same tables.boot who o t past v by attach_alive attach-found attach-inside (record { obj = o; page = n }))) (range_with_len 0 (pages_in tables.boot o))

  attach_charge : charge_of tables.boot later o ≡ charge_of tables.boot past o
  attach_charge =
      ap₂ (charge (state later o)) (attach_pages_at is_in) (attach_pages_at is_stored)
      ∙ ap (λ x. charge x (pages_at tables.boot past is_in o) (pages_at tables.boot past is_stored o)) (state_same tables.boot who o t past v by attach_alive attach-found attach-inside o)

  module _ (whole : length (object_at tables.objects o).mapping ≡ 64) (from to : Option ℕ) (c : Counts) (objects : List Object) (off : List Account) (first : from ≡ owner_in tables.objects o) (counted : c ≡ charge (object_at tables.objects o).state (framed_of tables.pages o) (stored_of tables.pages o)) (attached : objects ≡ changed tables.objects o (attached_by t)) (taken : off ≡ relieved from c tables.accounts) (then_by : to ≡ owner_in objects o) where
    attach_objects_stand : ObjectsStand tables.boot later objects
    attach_objects_stand = subst (ObjectsStand tables.boot later) (sym attached) (attach_objects tables.boot who o t past v by attach_alive attach-found attach-inside tables.objects whole s.objects)

    from_is : from ≡ owner tables.boot past o
    from_is = first ∙ owner-stands tables.boot past tables.objects v s.objects.mappers o attach-inside

    to_is : to ≡ owner tables.boot later o
    to_is = then_by ∙ owner-stands tables.boot later objects v attach_objects_stand.mappers o attach-inside

    c_is : c ≡ charge_of tables.boot past o
    c_is = counted ∙ table-charge tables past s o attach-inside attach-found

    off_is : off ≡ relieved (owner tables.boot past o) (charge_of tables.boot past o) tables.accounts
    off_is = taken ∙ ap₂ (λ x y. relieved x y tables.accounts) from_is c_is

    pub attach-burden : (u : ℕ) → to ≡ Some u → (u < length off) × AreWithin (counts_plus (account_of off u).counts c)
    attach-burden u is =
        let now : owner tables.boot later o ≡ Some u = sym to_is ∙ is in
        let d = owner-declared tables.boot later o u now in
        let n : length off ≡ length tables.boot.tasks = ap length taken ∙ length-relieved from c tables.accounts ∙ s.accounts.account_count in (
          omega (arith, d, n),
          subst (λ (x : List Account). AreWithin (counts_plus (account_of x u).counts c)) (sym off_is)
              (subst (λ (x : Counts). AreWithin (counts_plus (account_of (relieved (owner tables.boot past o) (charge_of tables.boot past o) tables.accounts) u).counts x)) (sym (c_is ∙ sym attach_charge))
              (burden-fits tables.boot (attach_entry who o) past o attach-inside (owner_other tables.boot who o t past v by attach_alive attach-found attach-inside) (λ x d. state_same tables.boot who o t past v by attach_alive attach-found attach-inside x) (λ x d n. ap (λ (y : Placed). y.place) (placed_same tables.boot who o t past v by attach_alive attach-found attach-inside (record { obj = x; page = n }))) tables.accounts s.accounts u v now)),
        )

    pub attach-done : (accounts : List Account) → accounts ≡ burdened to c off → Stands (record tables { objects = objects; accounts = accounts }) later
    attach-done accounts given =
        let by_definition : accounts ≡ burdened (owner tables.boot later o) (charge_of tables.boot later o) (relieved (owner tables.boot past o) (charge_of tables.boot past o) tables.accounts) =
        given ∙ ap₂ (λ x y. burdened x y off) to_is (c_is ∙ sym attach_charge) ∙ ap (burdened (owner tables.boot later o) (charge_of tables.boot later o)) off_is in
        subst (λ (x : List Object). Stands (record tables { objects = x; accounts = accounts }) later) (sym attached)
        (subst (λ (x : List Account). Stands (record tables { objects = changed tables.objects o (attached_by t); accounts = x }) later) (sym by_definition)
        (attach-stands tables past who o t v by attach_alive attach-found attach-inside whole (f, attach-reply, s.legal) s))
