-- What an entry that empties one object makes of the pages, of the pages that left, of the objects and of the accounts.
use Rattle.std.proofs.Common.{◌≡◌, ℕ, ◌+◌, ◌-◌, ◌<◌, List, [], ◌∷◌, length, get_or, refl, sym, ap, ap₂, ◌∙◌, subst, Bool, true, false, not, ◌&&◌, nat_eq, if◌then◌else◌, inl, inr, arith}
use Rattle.std.specs.Prelude.{slice_index_or}
use Rattle.std.proofs.lemmas.Bool.Decides.{eqb_tells, nat_tests}
use Rattle.std.proofs.lemmas.List.{length-set, get_or-set_same, get_or-set_other}
use Rattle.kern_ids.specs.declared.entries.Entry.{Entry}
use Rattle.kern_ids.specs.declared.ids.PageId.{PageId}
use Rattle.kern_ids.specs.declared.calls.State.{State}
use Rattle.kern_ids.specs.declared.calls.State.TheVariants.{Empty}
use Rattle.kern_ids.specs.declared.replies.Counts.{Counts}
use Rattle.kernel_model.specs.declared.place.Placed.{Placed}
use Rattle.kernel_model.specs.System.{System}
use Rattle.kernel_model.specs.Valid.{IsValidBoot}
use Rattle.kernel_model.specs.Mapping.{mapped, owner}
use Rattle.kernel_model.specs.State.{state}
use Rattle.kernel_model.specs.Pages.{place, pages_of, is_stored, written, inactive_pages, left}
use Rattle.kernel_model.specs.Bands.{Limits}
use Rattle.kernel_model.specs.Counted.{counts}
use Rattle.kernel_model.specs.Laws.Frames.{is_in, pages_at}
use Rattle.kernel_model.specs.Laws.Order.{Has}
use Rattle.kernel_model.proofs.Laws.Kept.{mapped-kept, owner-kept}
use Rattle.kernel_model.proofs.Laws.Present.{inactive-entered}
use Rattle.kernel_model.proofs.Laws.Pages.{left-is}
use Rattle.page_queues.specs.Pages.{Pages, is_marked, is_of_first, without_object, inactive as inactive_keys}
use Rattle.page_queues.specs.Tallies.{count_of}
use Rattle.vm_object.specs.Objects.{Object, object_at, no_object, purged, changed}
use Rattle.task_ledger.specs.declared.account.Account.{Account}
use Rattle.task_ledger.specs.Accounts.{counts_less, counts_plus, no_pages}
use Rattle.kernel_tables.specs.Charges.{charge, charge_of, owed, is_owner, relieved}
use Rattle.kernel_tables.specs.Emptying.{IsEmptying}
use Rattle.kernel_tables.specs.Stands.{PagesStand, ObjectsStand, AccountsStand, IsAccount}
use Rattle.kernel_tables.proofs.Lists.{get_or-same}
use Rattle.kernel_tables.proofs.ObjectCharges.{counts-object, relieved-at, length-relieved}
use Rattle.kernel_tables.proofs.Dropped.{pages-dropped, inactive-dropped}

-- an object of the table after a change of one
pub object-changed : (objects : List Object) (o : ℕ) (change : Object → Object) (x : ℕ) → o < length objects → object_at (changed objects o change) x ≡ (if nat_eq o x then change (object_at objects x) else object_at objects x)
object-changed objects o change x l = elim (eqb_tells o x) [
  | inl same ↦
      subst (λ (k : ℕ). object_at (changed objects o change) k ≡ change (object_at objects k)) same.1 (get_or-set_same objects o (change (object_at objects o)) no_object l)
      ∙ sym (ap (λ b. if b then change (object_at objects x) else object_at objects x) same.0)
  | inr other ↦
      get_or-set_other objects o x (change (object_at objects o)) no_object (λ e. other.1 (sym e))
      ∙ sym (ap (λ b. if b then change (object_at objects x) else object_at objects x) other.0)
]

tasks_purged : (b : Bool) (x : Object) → (if b then purged x else x).tasks ≡ x.tasks
tasks_purged true x = refl
tasks_purged false x = refl

mapping_purged : (b : Bool) (x : Object) → (if b then purged x else x).mapping ≡ x.mapping
mapping_purged true x = refl
mapping_purged false x = refl

pages_purged : (b : Bool) (x : Object) → (if b then purged x else x).pages ≡ x.pages
pages_purged true x = refl
pages_purged false x = refl

state_purged : (b : Bool) (x : Object) → (if b then purged x else x).state ≡ (if b then Empty else x.state)
state_purged true x = refl
state_purged false x = refl

abbrev mk_counts : ℕ → ℕ → ℕ → ℕ → ℕ → Counts
mk_counts a b c d f = record { res_non = a; res_vol = b; com_non = c; com_vol = d; footprint = f }

plus_none : (c : Counts) → counts_plus c no_pages ≡ c
plus_none c =
    let a : c.res_non + 0 ≡ c.res_non = omega arith in
    let b : c.res_vol + 0 ≡ c.res_vol = omega arith in
    let d : c.com_non + 0 ≡ c.com_non = omega arith in
    let v : c.com_vol + 0 ≡ c.com_vol = omega arith in
    let f : c.footprint + 0 ≡ c.footprint = omega arith in
    ap₂ (λ (x y : ℕ). mk_counts x y (c.com_non + 0) (c.com_vol + 0) (c.footprint + 0)) a b
    ∙ ap₂ (λ (x y : ℕ). mk_counts c.res_non c.res_vol x y (c.footprint + 0)) d v
    ∙ ap (mk_counts c.res_non c.res_vol c.com_non c.com_vol) f

none_either : (b : Bool) → (if b then no_pages else no_pages) ≡ no_pages
none_either true = refl
none_either false = refl

module _ (boot : System) (e : Entry) (before : List Entry) (o : ℕ) (is : IsEmptying boot e before o) where
  pub mapped-emptied : (x : ℕ) → mapped boot (e ∷ before) x ≡ mapped boot before x
  mapped-emptied x = mapped-kept boot e before x (is.mappers_kept x)

  -- the objects
  module _ (objects : List Object) (l : o < length boot.objects) (s : ObjectsStand boot before objects) where
    inside : o < length objects
    inside = (let n = s.object_count in omega arith)

    at : (x : ℕ) → object_at (changed objects o purged) x ≡ (if nat_eq o x then purged (object_at objects x) else object_at objects x)
    at x = object-changed objects o purged x inside

    written-emptied : (p : PageId) → Has (pages_of boot) p → mapped boot (e ∷ before) p.obj ≡ true → slice_index_or (object_at (changed objects o purged) p.obj).written p.page false ≡ written (e ∷ before) p
    written-emptied p h m = elim (eqb_tells o p.obj) [
      | inl same ↦
          ap (λ (x : Object). get_or x.written p.page false) (at p.obj ∙ ap (λ b. if b then purged (object_at objects p.obj) else object_at objects p.obj) same.0)
          ∙ get_or-same 256 p.page false ∙ sym (is.unwritten p same.0)
      | inr other ↦
          ap (λ (x : Object). get_or x.written p.page false) (at p.obj ∙ ap (λ b. if b then purged (object_at objects p.obj) else object_at objects p.obj) other.0)
          ∙ s.written p h (sym (mapped-emptied p.obj) ∙ m) ∙ sym (is.written_kept p other.0)
    ]

    pub objects-emptied : ObjectsStand boot (e ∷ before) (changed objects o purged)
    objects-emptied = record {
      object_count = length-set objects o (purged (object_at objects o)) ∙ s.object_count;
      sharers = λ x t lx lt. ap (λ (y : List Bool). get_or y t false) (ap (λ (y : Object). y.tasks) (at x) ∙ tasks_purged (nat_eq o x) (object_at objects x)) ∙ s.sharers x t lx lt;
      sizes = λ x lx. ap (λ (y : Object). y.pages) (at x) ∙ pages_purged (nat_eq o x) (object_at objects x) ∙ s.sizes x lx;
      mappers = λ x t lx. ap (λ (y : List Bool). get_or y t false) (ap (λ (y : Object). y.mapping) (at x) ∙ mapping_purged (nat_eq o x) (object_at objects x)) ∙ s.mappers x t lx ∙ sym (is.mappers_kept x t);
      states = λ x lx m.
          ap (λ (y : Object). y.state) (at x) ∙ state_purged (nat_eq o x) (object_at objects x)
          ∙ ap (λ (y : State). if nat_eq o x then Empty else y) (s.states x lx (sym (mapped-emptied x) ∙ m)) ∙ sym (is.states x);
      written = written-emptied;
    }

  -- the pages, and the Inactive ones that left
  module _ (valid : IsValidBoot boot) (old new : Pages) (n : ℕ) (queues : new.queues ≡ without_object o (slice_index_or old.sizes o 0) old.queues) (s : PagesStand boot before old n) where
    pub pages-emptied : new.frames ≡ old.frames → new.sizes ≡ old.sizes → ((key : ℕ) → is_marked new key ≡ (is_marked old key && not (is_of_first o (slice_index_or old.sizes o 0) key))) → PagesStand boot (e ∷ before) new n
    pages-emptied frames sizes marks = pages-dropped boot valid e before o old new n is.gone is.places_kept queues s frames sizes marks is.marks_kept is.none_entered

    pub inactive-emptied : PagesStand boot (e ∷ before) new n → inactive_pages boot (e ∷ before) + count_of o (inactive_keys old) ≡ inactive_pages boot before
    inactive-emptied later = inactive-dropped boot valid e before o old new n is.gone is.places_kept queues s later

    pub left-emptied : PagesStand boot (e ∷ before) new n → left boot (e ∷ before) - left boot before ≡ count_of o (inactive_keys old)
    left-emptied later =
        let i = inactive-emptied later in
        let few = inactive-entered boot before in
        let was = left-is boot before in
        let now = left-is boot (e ∷ before) in
        let same = is.none_entered in
        omega (arith, i, few, was, now, same)

  -- the accounts: the object's charge is off the account of its owner
  states_other : (x : ℕ) → nat_eq o x ≡ false → state (e ∷ before) x ≡ state before x
  states_other x h = is.states x ∙ ap (λ b. if b then Empty else state before x) h

  empty : state (e ∷ before) o ≡ Empty
  empty = (let same : nat_eq o o ≡ true = grind (arith, nat_tests) in is.states o ∙ ap (λ b. if b then Empty else state before o) same)

  nothing_owed : (t : ℕ) → owed (owner boot (e ∷ before) o) (charge_of boot (e ∷ before) o) t ≡ no_pages
  nothing_owed t =
      ap (λ (x : State). owed (owner boot (e ∷ before) o) (charge x (pages_at boot (e ∷ before) is_in o) (pages_at boot (e ∷ before) is_stored o)) t) empty
      ∙ none_either (is_owner (owner boot (e ∷ before) o) t)

  counts-emptied : o < length boot.objects → (t : ℕ) → counts boot (e ∷ before) t ≡ counts_less (counts boot before t) (owed (owner boot before o) (charge_of boot before o) t)
  counts-emptied l t =
      counts-object boot e before o l (λ x h. owner-kept boot e before x (is.mappers_kept x)) states_other (λ x h n. ap (λ (y : Placed). y.place) (is.places_kept (record { obj = x; page = n }) h)) t
      ∙ ap (counts_plus (counts_less (counts boot before t) (owed (owner boot before o) (charge_of boot before o) t))) (nothing_owed t)
      ∙ plus_none (counts_less (counts boot before t) (owed (owner boot before o) (charge_of boot before o) t))

  pub accounts-emptied : (accounts : List Account) → o < length boot.objects → AccountsStand boot before accounts → AccountsStand boot (e ∷ before) (relieved (owner boot before o) (charge_of boot before o) accounts)
  accounts-emptied accounts l s = record {
    account_count = length-relieved (owner boot before o) (charge_of boot before o) accounts ∙ s.account_count;
    accounts = λ t m.
        (let inside : t < length accounts = (let n = s.account_count in omega (arith, n)) in
        let a = s.accounts t m in
        subst (IsAccount boot (e ∷ before) t) (sym (relieved-at (owner boot before o) (charge_of boot before o) accounts t inside)) (record {
          live = a.live ∙ sym (is.lives_kept t);
          counts = ap (λ (c : Counts). counts_less c (owed (owner boot before o) (charge_of boot before o) t)) a.counts ∙ sym (counts-emptied l t);
          active = a.active ∙ sym (is.activity_kept t);
          when_active = a.when_active ∙ sym (ap (λ (x : Limits). x.when_active) (is.limits_kept t));
          when_inactive = a.when_inactive ∙ sym (ap (λ (x : Limits). x.when_inactive) (is.limits_kept t));
          internal = a.internal;
        }));
  }
