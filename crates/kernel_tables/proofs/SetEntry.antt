-- An accepted SetState that empties nothing: what it makes of each definition.
use Rattle.std.proofs.Common.{◌≡◌, ℕ, ◌+◌, ◌-◌, ◌<◌, ◌≤◌, List, [], ◌∷◌, length, map, Option, Some, None, option_map, refl, sym, ap, ap₂, ◌∙◌, subst, Bool, true, false, not, ◌&&◌, ◌||◌, if◌then◌else◌, inl, inr, nat_eq, arith}
use Rattle.std.specs.Option.{unwrap_or}
use Rattle.std.proofs.lemmas.Bool.{true≢false}
use Rattle.std.proofs.lemmas.Bool.Decides.{eqb_tells}
use Rattle.std.proofs.lemmas.List.{length-set}
use Rattle.kern_ids.specs.declared.entries.Entry.{Entry}
use Rattle.kern_ids.specs.declared.ids.PageId.{PageId}
use Rattle.kern_ids.specs.declared.calls.Queue.{Queue}
use Rattle.kern_ids.specs.declared.calls.State.{State}
use Rattle.kern_ids.specs.declared.calls.State.TheVariants.{Nonvolatile, Volatile, Empty}
use Rattle.kern_ids.specs.declared.calls.Wish.{Wish}
use Rattle.kern_ids.specs.declared.calls.Wish.TheVariants.{Nonvolatile as ask_nonvolatile, Volatile as ask_volatile, Empty as ask_empty}
use Rattle.kern_ids.specs.StateWord.{decoded}
use Rattle.kernel_model.specs.declared.place.Placed.{Placed}
use Rattle.kernel_model.specs.declared.place.Standing.{Standing}
use Rattle.kernel_model.specs.System.{System}
use Rattle.kernel_model.specs.Mapping.{maps, mapped, owner, unmaps}
use Rattle.kernel_model.specs.State.{state, state_asked, is_empty}
use Rattle.kernel_model.specs.Contents.{empties, is_ask_empty}
use Rattle.kernel_model.specs.Pages.{placed, pages_in, is_inactive, entered, left, inactive_pages, touched_since, written}
use Rattle.kernel_model.specs.Groups.{volatile, standing, standing_asked, stands_in, same_queue, is_volatile_state}
use Rattle.kernel_model.specs.Answers.{shares}
use Rattle.kernel_model.specs.Laws.Kinds.{set_entry}
use Rattle.kernel_model.proofs.Laws.Kept.{maps-kept, mapped-kept, owner-kept, placed-kept, touched_since-kept, written-kept, entered-kept, volatile-kept, stands_in-kept, counted-kept, left-kept}
use Rattle.kernel_model.proofs.Laws.Kinds.{state-set, standing-set, empties-set}
use Rattle.kernel_model.proofs.Laws.Mapping.{unmaps-no}
use Rattle.page_queues.specs.Pages.{Pages}
use Rattle.vm_object.specs.TaskSets.{has_task}
use Rattle.vm_object.specs.Objects.{Object, object_at, changed, set_by, row, no_page}
use Rattle.task_ledger.specs.declared.account.Account.{Account}
use Rattle.kernel_tables.specs.Charges.{charge_of, relieved, burdened}
use Rattle.kernel_tables.specs.Stands.{PagesStand, ObjectsStand, AccountsStand}
use Rattle.kernel_tables.proofs.Kept.{kept-pages}
use Rattle.kernel_tables.proofs.MapCall.{same-number, other-number}
use Rattle.kernel_tables.proofs.ObjectCharges.{accounts-object}
use Rattle.kernel_tables.proofs.ObjectEntries.{SparesTasks, spared-live, spared-active, spared-limits, changed-each}
use Rattle.kernel_tables.proofs.SetQueues.{enters}

abbrev pub emptying : Wish → State → Bool
emptying wish s = is_ask_empty wish && not (is_empty s)

-- a row empties where that is asked of what isn't EMPTY
pub row-emptied : (s : State) (w : Wish) (from : Option Queue) → (row s w from).emptied ≡ emptying w s
row-emptied Nonvolatile ask_nonvolatile from = refl
row-emptied Nonvolatile ask_empty from = refl
row-emptied Nonvolatile (ask_volatile q g) from = refl
row-emptied Volatile ask_nonvolatile from = refl
row-emptied Volatile ask_empty from = refl
row-emptied Volatile (ask_volatile q g) from = refl
row-emptied Empty ask_nonvolatile from = refl
row-emptied Empty ask_empty from = refl
row-emptied Empty (ask_volatile q g) from = refl

pub row-leaves : (s : State) (w : Wish) (from : Option Queue) → (row s w from).leave ≡ is_volatile_state s
row-leaves Nonvolatile ask_nonvolatile from = refl
row-leaves Nonvolatile ask_empty from = refl
row-leaves Nonvolatile (ask_volatile q g) from = refl
row-leaves Volatile ask_nonvolatile from = refl
row-leaves Volatile ask_empty from = refl
row-leaves Volatile (ask_volatile q g) from = refl
row-leaves Empty ask_nonvolatile from = refl
row-leaves Empty ask_empty from = refl
row-leaves Empty (ask_volatile q g) from = refl

-- an object is volatile afterwards where it enters a group, and then it stands there
stands_then : (s : State) (w : Wish) (from : Option Queue) (n : ℕ) (was : Standing) (q : Queue) (g : ℕ) → ((is_volatile_state (state_asked s w) && same_queue (unwrap_or (standing_asked n w) was).queue q) && nat_eq (unwrap_or (standing_asked n w) was).group g) ≡ enters (row s w from).enter q g
stands_then Nonvolatile ask_nonvolatile from n was q g = refl
stands_then Nonvolatile ask_empty from n was q g = refl
stands_then Nonvolatile (ask_volatile p a) from n was q g = refl
stands_then Volatile ask_nonvolatile from n was q g = refl
stands_then Volatile ask_empty from n was q g = refl
stands_then Volatile (ask_volatile p a) from n was q g = refl
stands_then Empty ask_nonvolatile from n was q g = refl
stands_then Empty ask_empty from n was q g = refl
stands_then Empty (ask_volatile p a) from n was q g = refl

stamped : (s : State) (w : Wish) (from : Option Queue) (n : ℕ) (was : Standing) (at : Queue × ℕ) → (row s w from).enter ≡ Some at → (unwrap_or (standing_asked n w) was).vstamp ≡ n
stamped Nonvolatile ask_nonvolatile from n was at h = absurd (cc)
stamped Nonvolatile ask_empty from n was at h = absurd (cc)
stamped Nonvolatile (ask_volatile p a) from n was at h = refl
stamped Volatile ask_nonvolatile from n was at h = absurd (cc)
stamped Volatile ask_empty from n was at h = absurd (cc)
stamped Volatile (ask_volatile p a) from n was at h = refl
stamped Empty ask_nonvolatile from n was at h = absurd (cc)
stamped Empty ask_empty from n was at h = absurd (cc)
stamped Empty (ask_volatile p a) from n was at h = absurd (cc)

-- the group that it enters is that of the wish
pub row-group : (s : State) (w : Wish) (from : Option Queue) (at : Queue × ℕ) → (row s w from).enter ≡ Some at → w ≡ ask_volatile at.0 at.1
row-group Nonvolatile ask_nonvolatile from at h = absurd (cc)
row-group Nonvolatile ask_empty from at h = absurd (cc)
row-group Nonvolatile (ask_volatile p a) from at h = cc
row-group Volatile ask_nonvolatile from at h = absurd (cc)
row-group Volatile ask_empty from at h = absurd (cc)
row-group Volatile (ask_volatile p a) from at h = cc
row-group Empty ask_nonvolatile from at h = absurd (cc)
row-group Empty ask_empty from at h = absurd (cc)
row-group Empty (ask_volatile p a) from at h = absurd (cc)

written_kept : (b : Bool) (old : List Bool) → b ≡ false → (if b then no_page else old) ≡ old
written_kept true old h = absurd (true≢false h)
written_kept false old h = refl

module _ (boot : System) (who o word : ℕ) (wish : Wish) (before : List Entry) (is : decoded word ≡ Some wish) (already : mapped boot before o ≡ true) (inside : o < length boot.objects) where
  abbrev pub setting : Entry
  setting = set_entry who o word (state before o)

  pub set-spares : SparesTasks boot setting
  set-spares = record { ends = λ u. refl; bands = λ u. refl; activity = refl; limits = λ u. refl; aged = refl; tick = refl }

  pub set-maps : (x u : ℕ) → maps boot (setting ∷ before) x u ≡ maps boot before x u
  set-maps x u = maps-kept boot setting before x u refl refl

  pub set-mapped : (x : ℕ) → mapped boot (setting ∷ before) x ≡ mapped boot before x
  set-mapped x = mapped-kept boot setting before x (set-maps x)

  pub set-owner : (x : ℕ) → owner boot (setting ∷ before) x ≡ owner boot before x
  set-owner x = owner-kept boot setting before x (set-maps x)

  unmaps_none : (x : ℕ) → unmaps boot before setting x ≡ false
  unmaps_none x = unmaps-no boot setting before x (λ u. refl) refl

  pub set-state_here : state (setting ∷ before) o ≡ state_asked (state before o) wish
  set-state_here = state-set who o word (state before o) wish before o is ∙ ap (λ b. if b then state_asked (state before o) wish else state before o) (same-number o)

  pub set-state_other : (x : ℕ) → nat_eq o x ≡ false → state (setting ∷ before) x ≡ state before x
  set-state_other x d = state-set who o word (state before o) wish before x is ∙ ap (λ b. if b then state_asked (state before x) wish else state before x) d

  standing_here : standing (setting ∷ before) o ≡ unwrap_or (standing_asked (length before) wish) (standing before o)
  standing_here = standing-set who o word (state before o) wish before o is ∙ ap (λ b. if b then unwrap_or (standing_asked (length before) wish) (standing before o) else standing before o) (same-number o)

  pub set-standing_other : (x : ℕ) → nat_eq o x ≡ false → standing (setting ∷ before) x ≡ standing before x
  set-standing_other x d = standing-set who o word (state before o) wish before x is ∙ ap (λ b. if b then unwrap_or (standing_asked (length before) wish) (standing before x) else standing before x) d

  pub set-stands_other : (q : Queue) (g x : ℕ) → nat_eq o x ≡ false → stands_in boot (setting ∷ before) q g x ≡ stands_in boot before q g x
  set-stands_other q g x d = stands_in-kept boot setting before q g x (volatile-kept boot setting before x (set-mapped x) (set-state_other x d)) (set-standing_other x d)

  volatile_here : volatile boot (setting ∷ before) o ≡ is_volatile_state (state_asked (state before o) wish)
  unfolding volatile
  volatile_here = ap₂ (λ b s. b && is_volatile_state s) (set-mapped o ∙ already) set-state_here

  pub set-stands_here : (from : Option Queue) (q : Queue) (g : ℕ) → stands_in boot (setting ∷ before) q g o ≡ enters (row (state before o) wish from).enter q g
  set-stands_here from q g =
      ap₂ (λ b (s : Standing). (b && same_queue s.queue q) && nat_eq s.group g) volatile_here standing_here
      ∙ stands_then (state before o) wish from (length before) (standing before o) q g

  pub set-stamp : (from : Option Queue) (at : Queue × ℕ) → (row (state before o) wish from).enter ≡ Some at → (standing (setting ∷ before) o).vstamp ≡ length before
  set-stamp from at h = ap (λ (s : Standing). s.vstamp) standing_here ∙ stamped (state before o) wish from (length before) (standing before o) at h

  pub set-group : (from : Option Queue) (at : Queue × ℕ) → (row (state before o) wish from).enter ≡ Some at → (standing (setting ∷ before) o).group ≡ at.1
  set-group from at h = ap (λ (s : Standing). s.group) standing_here ∙ ap (λ (w : Wish). (unwrap_or (standing_asked (length before) w) (standing before o)).group) (row-group (state before o) wish from at h)

  pub set-entered : entered (setting ∷ before) ≡ entered before
  set-entered = entered-kept setting before refl

  module _ (keeps : emptying wish (state before o) ≡ false) where
    spared : (x : ℕ) → empties x before setting ≡ false
    spared x = empties-set who o word (state before o) wish before x is ∙ elim (eqb_tells o x) [
      | inl same ↦ subst (λ (y : ℕ). ((nat_eq o y && is_ask_empty wish) && not (is_empty (state before y))) ≡ false) same.1 (ap (λ b. (b && is_ask_empty wish) && not (is_empty (state before o))) (same-number o) ∙ keeps)
      | inr other ↦ ap (λ b. (b && is_ask_empty wish) && not (is_empty (state before x))) other.0
    ]

    pub set-placed : (p : PageId) → placed boot (setting ∷ before) p ≡ placed boot before p
    set-placed p = placed-kept boot setting before p (rw (spared p.obj, unmaps_none p.obj) refl)

    touched_same : (p : PageId) → touched_since boot (setting ∷ before) p ≡ touched_since boot before p
    touched_same p = touched_since-kept boot setting before p (rw (spared p.obj, unmaps_none p.obj) refl)

    written_same : (p : PageId) → written (setting ∷ before) p ≡ written before p
    written_same p = written-kept setting before p (rw (spared p.obj) refl)

    pub set-inactive : inactive_pages boot (setting ∷ before) ≡ inactive_pages boot before
    set-inactive = counted-kept boot setting before set-placed is_inactive

    pub set-left : left boot (setting ∷ before) ≡ left boot before
    set-left = left-kept boot setting before set-placed set-entered

    pub set-pages : (pages : Pages) (n : ℕ) → PagesStand boot before pages n → PagesStand boot (setting ∷ before) pages n
    set-pages pages n s = kept-pages boot setting before pages n set-placed touched_same set-entered s

    pub set-accounts : (accounts : List Account) → AccountsStand boot before accounts → AccountsStand boot (setting ∷ before) (burdened (owner boot (setting ∷ before) o) (charge_of boot (setting ∷ before) o) (relieved (owner boot before o) (charge_of boot before o) accounts))
    set-accounts accounts s = accounts-object boot setting before o inside (λ x d. set-owner x) set-state_other (λ x d n. ap (λ (y : Placed). y.place) (set-placed (record { obj = x; page = n }))) accounts s
        (spared-live boot setting before set-spares) (spared-active boot setting before set-spares) (spared-limits boot setting before set-spares)

    pub set-objects : (objects : List Object) (from : Option Queue) → (object_at objects o).state ≡ state before o → ObjectsStand boot before objects → ObjectsStand boot (setting ∷ before) (changed objects o (set_by wish from))
    set-objects objects from at s =
        let l : o < length objects = (let n = s.object_count in omega (arith, n)) in
        record {
          object_count = length-set objects o (set_by wish from (object_at objects o)) ∙ s.object_count;
          sharers = λ x u m k. changed-each (λ y object. y < length boot.objects → has_task object.tasks u ≡ shares boot y u) objects o (set_by wish from) l (λ n. s.sharers o u n k) (λ y d n. s.sharers y u n k) x m;
          sizes = λ x m. changed-each (λ y object. y < length boot.objects → object.pages ≡ pages_in boot y) objects o (set_by wish from) l (λ n. s.sizes o n) (λ y d n. s.sizes y n) x m;
          mappers = λ x u m. changed-each (λ y object. y < length boot.objects → has_task object.mapping u ≡ maps boot (setting ∷ before) y u) objects o (set_by wish from) l
              (λ n. s.mappers o u n ∙ sym (set-maps o u)) (λ y d n. s.mappers y u n ∙ sym (set-maps y u)) x m;
          states = λ x m k. changed-each (λ y object. y < length boot.objects → mapped boot (setting ∷ before) y ≡ true → object.state ≡ state (setting ∷ before) y) objects o (set_by wish from) l
              (λ n h. ap (λ z. state_asked z wish) at ∙ sym set-state_here)
              (λ y d n h. s.states y n (sym (set-mapped y) ∙ h) ∙ sym (set-state_other y (other-number y o d))) x m k;
          written = λ p m k. changed-each (λ y object. y ≡ p.obj → Rattle.std.proofs.Common.get_or object.written p.page false ≡ written (setting ∷ before) p) objects o (set_by wish from) l
              (λ e.
              ap (λ (z : List Bool). Rattle.std.proofs.Common.get_or z p.page false) (written_kept (row (object_at objects o).state wish from).emptied (object_at objects o).written (row-emptied (object_at objects o).state wish from ∙ ap (emptying wish) at ∙ keeps))
              ∙ ap (λ (z : ℕ). Rattle.std.proofs.Common.get_or (object_at objects z).written p.page false) e ∙ s.written p m (sym (set-mapped p.obj) ∙ k) ∙ sym (written_same p))
              (λ y d e. ap (λ (z : ℕ). Rattle.std.proofs.Common.get_or (object_at objects z).written p.page false) e ∙ s.written p m (sym (set-mapped p.obj) ∙ k) ∙ sym (written_same p)) p.obj refl;
        }
