-- The end of a task: what holds over the history in which it unmapped its objects one by one holds over the one in which it ends.
use Rattle.std.proofs.Common.{◌≡◌, ℕ, ◌+◌, ◌-◌, ◌<◌, List, [], ◌∷◌, length, map, set, cond, Option, None, refl, sym, ap, ap₂, ◌∙◌, subst, Bool, true, false, not, ◌&&◌, ◌||◌, if◌then◌else◌, inl, inr, nat_eq, nat_lt, arith}
use Rattle.std.specs.Prelude.{fold, count_by}
use Rattle.std.specs.Option.{option_map_or}
use Rattle.std.proofs.lemmas.Bool.{cases_Bool, false≢true, and_parts}
use Rattle.std.proofs.lemmas.Bool.Decides.{eqb_tells, nat_tests}
use Rattle.std.proofs.lemmas.List.{length-set, get_or-set_same, get_or-set_other}
use Rattle.kern_ids.specs.declared.entries.Entry.{Entry}
use Rattle.kern_ids.specs.declared.ids.PageId.{PageId}
use Rattle.kern_ids.specs.declared.calls.Queue.{Queue}
use Rattle.kern_ids.specs.declared.calls.State.{State}
use Rattle.kern_ids.specs.declared.replies.Counts.{Counts}
use Rattle.kernel_model.specs.declared.place.Place.{Place}
use Rattle.kernel_model.specs.declared.place.Place.TheVariants.{Absent}
use Rattle.kernel_model.specs.declared.place.Placed.{Placed}
use Rattle.kernel_model.specs.declared.place.Standing.{Standing}
use Rattle.kernel_model.specs.System.{System}
use Rattle.kernel_model.specs.Valid.{IsValidBoot}
use Rattle.kernel_model.specs.Lists.{pair_lt}
use Rattle.kernel_model.specs.Mapping.{live, maps, mapped, owner, unmaps, tasks_of}
use Rattle.kernel_model.specs.State.{state}
use Rattle.kernel_model.specs.Pages.{place, placed, pages_of, is_active, is_inactive, is_stored, entered, left, inactive_pages, touched_since, written}
use Rattle.kernel_model.specs.Groups.{volatile, standing, stands_in, objects_of, is_volatile_state, is_lifo, same_queue}
use Rattle.kernel_model.specs.Deadlines.{Deadlines, deadlines, of_queue, without_first}
use Rattle.kernel_model.specs.Counted.{counts, count_of, owned_by, is_resident, is_nonvolatile_state}
use Rattle.kernel_model.specs.Bands.{Placing, Limits, band, counts_for_ageing}
use Rattle.kernel_model.specs.Scan.{stamp_lt}
use Rattle.kernel_model.specs.Histories.{IsLegal}
use Rattle.kernel_model.specs.Laws.Order.{Has, Keeps}
use Rattle.kernel_model.specs.Laws.Queues.{KeepsPages, KeepsGroup, KeepsBand, nearer}
use Rattle.kernel_model.proofs.Laws.Agree.{any-agree, find-agree, count_by-cons}
use Rattle.kernel_model.proofs.Laws.Bounds.{nat_eq-swap}
use Rattle.kernel_model.proofs.Laws.Kept.{band-kept, counts_for_ageing-kept}
use Rattle.kernel_model.proofs.Laws.Mapping.{mapped-is, owner-is, unmaps-is}
use Rattle.kernel_model.proofs.Laws.Order.{rising-agree}
use Rattle.kernel_model.proofs.Laws.Pages.{left-is}
use Rattle.kernel_model.proofs.Laws.Queues.{band-filter, has-range}
use Rattle.kernel_model.proofs.Laws.Untouched.{has-pages}
use Rattle.link_list.specs.KeyLists.{list_at}
use Rattle.page_queues.specs.Pages.{Pages}
use Rattle.priority_bands.specs.Banded.{removed}
use Rattle.ripen_advance.specs.Queues.{QueueDues}
use Rattle.vm_object.specs.Objects.{Object}
use Rattle.idle_ageing.specs.Ageing.{Ageing, count_of as count_at}
use Rattle.task_ledger.specs.declared.account.Account.{Account}
use Rattle.task_ledger.specs.Accounts.{account_of, no_account}
use Rattle.kernel_tables.specs.Ends.{IsEnding}
use Rattle.kernel_tables.specs.Stands.{PagesStand, QueuesStand, ObjectsStand, AccountsStand, BandsStand, IsAccount, counted_ticks}
use Rattle.kernel_tables.proofs.Dropped.{filter-within}
use Rattle.kernel_tables.proofs.Lists.{removed-at}
use Rattle.kernel_tables.proofs.Parting.{IsParted, goes_with}
use Rattle.kernel_tables.proofs.Placing.{ages-one, counted-kept}
use Rattle.kernel_tables.proofs.Unmapped.{absent-unmapped}

-- lists that keep the same elements of a whole in the same order
keeps-within : {A : Type 0} (whole : List A) (test new : A → Bool) (less later : A → A → Bool) (xs : List A) → ((x : A) → Has whole x → new x ≡ test x) → ((x y : A) → Has whole x → Has whole y → test x ≡ true → test y ≡ true → later x y ≡ less x y) → Keeps whole test less xs → Keeps whole new later xs
keeps-within whole test new less later xs t l k = record {
  rising = rising-agree less later xs (λ x y hx hy. l x y (k.within x hx) (k.within y hy) (k.passes x hx) (k.passes y hy)) k.rising;
  within = k.within;
  passes = λ x h. t x (k.within x h) ∙ k.passes x h;
  all = λ x w h. k.all x w (sym (t x w) ∙ h);
}

count-within : {A : Type 0} (p q : A → Bool) (xs : List A) → ((x : A) → Has xs x → p x ≡ q x) → count_by p xs ≡ count_by q xs
count-within p q [] e = refl
count-within p q (x ∷ xs) e = count_by-cons p x xs ∙ ap₂ (λ (b : Bool) (n : ℕ). cond b 1 0 + n) (e x (inl refl)) (count-within p q xs (λ y h. e y (inr h))) ∙ sym (count_by-cons q x xs)

and_false : (b : Bool) → (b && false) ≡ false
and_false true = refl
and_false false = refl

lt_true : (a b : ℕ) → a < b → nat_lt a b ≡ true
lt_true a b l = grind (arith, nat_tests)

lt_is : (a b : ℕ) → nat_lt a b ≡ true → a < b
lt_is a b h = grind (arith, nat_tests)

abbrev mk_counts : ℕ → ℕ → ℕ → ℕ → Counts
mk_counts a b c d = record { res_non = a; res_vol = b; com_non = c; com_vol = d; footprint = a + c }

module _ (boot : System) (e : Entry) (past h : List Entry) (t : ℕ) (v : IsValidBoot boot) (is : IsEnding boot e past t) (legal : IsLegal boot (e ∷ past)) (p : IsParted boot t (length boot.objects) past h) where
  -- who maps, over both
  maps_eq : (o u : ℕ) → o < length boot.objects → maps boot (e ∷ past) o u ≡ maps boot h o u
  maps_eq o u l = is.mappers o u ∙ sym (p.maps_less o u ∙ ap (λ b. not (b && nat_eq u t) && maps boot past o u) (lt_true o (length boot.objects) l))

  mapped_eq : (o : ℕ) → o < length boot.objects → mapped boot (e ∷ past) o ≡ mapped boot h o
  mapped_eq o l = mapped-is boot (e ∷ past) o ∙ any-agree (maps boot (e ∷ past) o) (maps boot h o) (λ u. maps_eq o u l) (tasks_of boot) ∙ sym (mapped-is boot h o)

  owner_eq : (o : ℕ) → o < length boot.objects → owner boot (e ∷ past) o ≡ owner boot h o
  owner_eq o l = owner-is boot (e ∷ past) o ∙ find-agree (maps boot (e ∷ past) o) (maps boot h o) (λ u. maps_eq o u l) (tasks_of boot) ∙ sym (owner-is boot h o)

  state_eq : (o : ℕ) → state (e ∷ past) o ≡ state h o
  state_eq o = is.states_kept o ∙ sym (p.states o)

  standing_eq : (o : ℕ) → standing (e ∷ past) o ≡ standing h o
  standing_eq o = is.standing_kept o ∙ sym (p.stood o)

  -- where the pages are
  object_of_page : (q : PageId) → Has (pages_of boot) q → q.obj < length boot.objects
  object_of_page q m = lt_is q.obj (length boot.objects) (and_parts (nat_lt q.obj (length boot.objects)) (nat_lt q.page (Rattle.kernel_model.specs.Pages.pages_in boot q.obj)) (has-pages boot q m)).0

  unmaps_none : (o : ℕ) → mapped boot (e ∷ past) o ≡ true → unmaps boot past e o ≡ false
  unmaps_none o m = unmaps-is boot e past o ∙ ap (λ b. mapped boot past o && not b) m ∙ and_false (mapped boot past o)

  placed_eq : (q : PageId) → Has (pages_of boot) q → mapped boot h q.obj ≡ true → placed boot (e ∷ past) q ≡ placed boot h q
  placed_eq q m on = is.placed_kept q (unmaps_none q.obj (mapped_eq q.obj (object_of_page q m) ∙ on)) ∙ sym (p.stays q on)

  marks_eq : (q : PageId) → Has (pages_of boot) q → mapped boot h q.obj ≡ true → touched_since boot (e ∷ past) q ≡ touched_since boot h q
  marks_eq q m on = is.marks_kept q (unmaps_none q.obj (mapped_eq q.obj (object_of_page q m) ∙ on)) ∙ sym (p.marks q on)

  absent_after : (q : PageId) → Has (pages_of boot) q → mapped boot h q.obj ≡ false → place boot (e ∷ past) q ≡ Absent
  absent_after q m off = absent-unmapped boot (e ∷ past) q v legal (mapped_eq q.obj (object_of_page q m) ∙ off)

  place_eq : (q : PageId) → Has (pages_of boot) q → place boot (e ∷ past) q ≡ place boot h q
  place_eq q m = elim (cases_Bool (mapped boot h q.obj)) [
    | inl on ↦ ap (λ (x : Placed). x.place) (placed_eq q m on)
    | inr off ↦ absent_after q m off ∙ sym (p.absent q off)
  ]

  stamp_eq : (k : Place → Bool) → k Absent ≡ false → (q : PageId) → Has (pages_of boot) q → k (place boot h q) ≡ true → placed boot (e ∷ past) q ≡ placed boot h q
  stamp_eq k out q m in_place = elim (cases_Bool (mapped boot h q.obj)) [
    | inl on ↦ placed_eq q m on
    | inr off ↦ absurd (false≢true (sym out ∙ ap k (sym (p.absent q off)) ∙ in_place))
  ]

  order_eq : (k : Place → Bool) → k Absent ≡ false → (ps : List PageId) → KeepsPages boot h k ps → KeepsPages boot (e ∷ past) k ps
  unfolding stamp_lt
  order_eq k out ps s = keeps-within (pages_of boot) (λ q. k (place boot h q)) (λ q. k (place boot (e ∷ past) q)) (stamp_lt boot h) (stamp_lt boot (e ∷ past)) ps
      (λ q m. ap k (place_eq q m))
      (λ q r mq mr kq kr. ap₂ (λ (x y : Placed). pair_lt (x.number, q.page) (y.number, r.page)) (stamp_eq k out q mq kq) (stamp_eq k out r mr kr)) s

  pub end-pages : (pages : Pages) (n : ℕ) → PagesStand boot h pages n → PagesStand boot (e ∷ past) pages n
  end-pages pages n s = record {
    frames = s.frames;
    page_sizes = s.page_sizes;
    places = λ q m. s.places q m ∙ sym (place_eq q m);
    active_order = order_eq is_active refl _ s.active_order;
    inactive_order = order_eq is_inactive refl _ s.inactive_order;
    stored_order = order_eq is_stored refl _ s.stored_order;
    marks = λ q m. s.marks q m ∙ elim (cases_Bool (mapped boot h q.obj)) [
      | inl on ↦ sym (ap₂ (λ (x : Placed) b. is_inactive x.place && b) (placed_eq q m on) (marks_eq q m on))
      | inr off ↦ ap (λ (x : Place). is_inactive x && touched_since boot h q) (p.absent q off) ∙ sym (ap (λ (x : Place). is_inactive x && touched_since boot (e ∷ past) q) (absent_after q m off))
    ];
    entered = s.entered ∙ p.came ∙ sym is.none_entered;
  }

  -- the groups and the tokens
  volatile_eq : (o : ℕ) → o < length boot.objects → volatile boot (e ∷ past) o ≡ volatile boot h o
  unfolding volatile
  volatile_eq o l = ap₂ (λ a s. a && is_volatile_state s) (mapped_eq o l) (state_eq o)

  stands_eq : (q : Queue) (g o : ℕ) → o < length boot.objects → stands_in boot (e ∷ past) q g o ≡ stands_in boot h q g o
  stands_eq q g o l = ap₂ (λ b (s : Standing). b && same_queue s.queue q && nat_eq s.group g) (volatile_eq o l) (standing_eq o)

  declared_object : (o : ℕ) → Has (objects_of boot) o → o < length boot.objects
  declared_object o m = (let r = has-range 0 (length boot.objects) o m in omega (arith, r.1))

  group_eq : (q : Queue) (g : ℕ) (os : List ℕ) → KeepsGroup boot h q g os → KeepsGroup boot (e ∷ past) q g os
  group_eq q g os s = keeps-within (objects_of boot) (stands_in boot h q g) (stands_in boot (e ∷ past) q g) (nearer h q) (nearer (e ∷ past) q) os
      (λ o m. stands_eq q g o (declared_object o m))
      (λ a b ma mb sa sb. ap₂ (λ (x y : Standing). if is_lifo q then nat_lt y.vstamp x.vstamp else nat_lt x.vstamp y.vstamp) (standing_eq a) (standing_eq b)) s

  inactive_eq : inactive_pages boot (e ∷ past) ≡ inactive_pages boot h
  inactive_eq = count-within (λ q. is_inactive (place boot (e ∷ past) q)) (λ q. is_inactive (place boot h q)) (pages_of boot) (λ q m. ap is_inactive (place_eq q m))

  left_eq : left boot (e ∷ past) ≡ left boot h
  left_eq = left-is boot (e ∷ past) ∙ ap₂ (λ (a b : ℕ). a - b) (is.none_entered ∙ sym p.came) inactive_eq ∙ sym (left-is boot h)

  goes_eq : (o : ℕ) → (volatile boot past o && unmaps boot past e o) ≡ goes_with boot past t o
  goes_eq o = ap (λ b. volatile boot past o && b) (unmaps-is boot e past o ∙ ap (λ b. mapped boot past o && not b) (mapped-is boot (e ∷ past) o ∙ any-agree (maps boot (e ∷ past) o) (λ u. not (nat_eq u t) && maps boot past o u) (is.mappers o) (tasks_of boot)))

  deadlines_eq : deadlines boot (e ∷ past) ≡ deadlines boot h
  deadlines_eq =
      is.deadlines_gone
      ∙ ap (fold (λ d o. without_first (standing past o).queue d) (deadlines boot past)) (filter-within (λ o. volatile boot past o && unmaps boot past e o) (goes_with boot past t) (objects_of boot) (λ o m. goes_eq o))
      ∙ sym p.due

  pub end-queues : (groups : List (List ℕ)) (tokens : QueueDues) → QueuesStand boot h groups tokens → QueuesStand boot (e ∷ past) groups tokens
  end-queues groups tokens s = record {
    groups = λ q g l. group_eq q g _ (s.groups q g l);
    ahead = s.ahead ∙ sym inactive_eq;
    dues = λ q. s.dues q ∙ sym (ap₂ (λ (n : ℕ) (d : Deadlines). map (λ x. x - n) (of_queue d q)) left_eq deadlines_eq);
  }

  pub end-objects : (objects : List Object) → ObjectsStand boot h objects → ObjectsStand boot (e ∷ past) objects
  end-objects objects s = record {
    object_count = s.object_count;
    sharers = s.sharers;
    sizes = s.sizes;
    mappers = λ o u l. s.mappers o u l ∙ sym (maps_eq o u l);
    states = λ o l m. s.states o l (sym (mapped_eq o l) ∙ m) ∙ sym (state_eq o);
    written = λ q m on. s.written q m (sym (mapped_eq q.obj (object_of_page q m)) ∙ on) ∙ p.wrote q ∙ sym (is.written_kept q);
  }

  -- the accounts
  count_eq : (u : ℕ) (k : Place → Bool) (what : State → Bool) → count_of boot (e ∷ past) u (λ q. k (place boot (e ∷ past) q)) what ≡ count_of boot h u (λ q. k (place boot h q)) what
  count_eq u k what = count-within (λ q. owned_by boot (e ∷ past) u q && k (place boot (e ∷ past) q) && what (state (e ∷ past) q.obj)) (λ q. owned_by boot h u q && k (place boot h q) && what (state h q.obj)) (pages_of boot)
      (λ q m. ap₂ (λ (w : Option ℕ) (x : Place). option_map_or (nat_eq u) w false && k x && what (state (e ∷ past) q.obj)) (owner_eq q.obj (object_of_page q m)) (place_eq q m)
      ∙ ap (λ (s : State). owned_by boot h u q && k (place boot h q) && what s) (state_eq q.obj))

  abbrev is_in_frame : Place → Bool
  is_in_frame x = is_active x || is_inactive x

  counts_eq : (u : ℕ) → counts boot (e ∷ past) u ≡ counts boot h u
  unfolding counts
  counts_eq u =
      ap₂ (λ a b. mk_counts a b (count_of boot (e ∷ past) u (λ q. is_stored (place boot (e ∷ past) q)) is_nonvolatile_state) (count_of boot (e ∷ past) u (λ q. is_stored (place boot (e ∷ past) q)) is_volatile_state)) (count_eq u is_in_frame is_nonvolatile_state) (count_eq u is_in_frame is_volatile_state)
      ∙ ap₂ (mk_counts (count_of boot h u (is_resident boot h) is_nonvolatile_state) (count_of boot h u (is_resident boot h) is_volatile_state)) (count_eq u is_stored is_nonvolatile_state) (count_eq u is_stored is_volatile_state)

  account_eq : (u : ℕ) (a b : Account) → b.live ≡ live boot (e ∷ past) u → b ≡ record a { live = b.live } → IsAccount boot h u a → IsAccount boot (e ∷ past) u b
  account_eq u a b lives same s = record {
    live = lives;
    counts = ap (λ (x : Account). x.counts) same ∙ s.counts ∙ sym (counts_eq u);
    active = ap (λ (x : Account). x.active) same ∙ s.active ∙ p.actives u ∙ sym (is.activity_kept u);
    when_active = ap (λ (x : Account). x.when_active) same ∙ s.when_active ∙ ap (λ (x : Limits). x.when_active) (p.bounds u ∙ sym (is.limits_kept u));
    when_inactive = ap (λ (x : Account). x.when_inactive) same ∙ s.when_inactive ∙ ap (λ (x : Limits). x.when_inactive) (p.bounds u ∙ sym (is.limits_kept u));
    internal = ap (λ (x : Account). x.internal) same ∙ s.internal;
  }

  abbrev ended : Account → Account
  ended a = record a { live = false }

  pub end-dead : live boot (e ∷ past) t ≡ false
  end-dead = is.lives t ∙ ap (λ b. not b && live boot past t) (let same : nat_eq t t ≡ true = grind (arith, nat_tests) in same)

  pub end-accounts : (accounts : List Account) → t < length boot.tasks → AccountsStand boot h accounts → AccountsStand boot (e ∷ past) (set accounts t (ended (account_of accounts t)))
  end-accounts accounts l s = record {
    account_count = length-set accounts t (ended (account_of accounts t)) ∙ s.account_count;
    accounts = λ u m. elim (eqb_tells u t) [
      | inl same ↦
          let there : t < length accounts = (let n = s.account_count in omega (arith, n, l)) in
          subst (λ (x : ℕ). IsAccount boot (e ∷ past) x (account_of (set accounts t (ended (account_of accounts t))) x)) (sym same.1)
          (subst (IsAccount boot (e ∷ past) t) (sym (get_or-set_same accounts t (ended (account_of accounts t)) no_account there)) (account_eq t (account_of accounts t) (ended (account_of accounts t)) (sym end-dead) refl (s.accounts t l)))
      | inr other ↦
          let a = s.accounts u m in
          subst (IsAccount boot (e ∷ past) u) (sym (get_or-set_other accounts t u (ended (account_of accounts t)) no_account other.1))
          (account_eq u (account_of accounts u) (account_of accounts u) (a.live ∙ p.lives u ∙ sym (is.lives u ∙ ap (λ b. not b && live boot past u) other.0)) refl a)
    ];
  }

-- the bands, from the past alone
module _ (boot : System) (e : Entry) (past : List Entry) (t : ℕ) (is : IsEnding boot e past t) where
  band_same : (u : ℕ) → band boot (e ∷ past) u ≡ band boot past u
  band_same u = band-kept boot e past u (is.placing_kept u) (is.wishes_kept u)

  in_band : (b u : ℕ) → (live boot (e ∷ past) u && nat_eq (band boot (e ∷ past) u) b) ≡ (not (nat_eq t u) && (live boot past u && nat_eq (band boot past u) b))
  in_band b u =
      ap₂ (λ l n. l && nat_eq n b) (is.lives u) (band_same u)
      ∙ and_then (not (nat_eq u t)) (live boot past u) (nat_eq (band boot past u) b)
      ∙ ap (λ c. not c && (live boot past u && nat_eq (band boot past u) b)) (nat_eq-swap u t)
    where
      and_then : (a b c : Bool) → ((a && b) && c) ≡ (a && (b && c))
      and_then true b c = refl
      and_then false b c = refl

  counts_none : live boot (e ∷ past) t ≡ false → counted_ticks boot (e ∷ past) t ≡ None
  unfolding counts_for_ageing
  counts_none dead = rw dead refl

  pub end-bands : (wishes : List ℕ) (bands : List (List ℕ)) (ages later : Ageing) → live boot (e ∷ past) t ≡ false → later.delays ≡ ages.delays → count_at later t ≡ None → ((u : ℕ) → nat_eq u t ≡ false → count_at later u ≡ count_at ages u) → BandsStand boot past wishes bands ages → BandsStand boot (e ∷ past) wishes (removed bands t) later
  end-bands wishes bands ages later dead delays here others s = record {
    wish_count = s.wish_count;
    wishes = λ u l. s.wishes u l ∙ sym (is.wishes_kept u);
    bands = λ b l. subst (KeepsBand boot (e ∷ past) b) (sym (removed-at bands t b)) (band-filter boot e past b (λ u. not (nat_eq t u)) (list_at bands b) (in_band b) (λ u h. ap (λ (x : Placing). x.bstamp) (is.placing_kept u)) (s.bands b l));
    delays = delays ∙ s.delays;
    ages = ages-one boot e past t ages later (counts_none dead ∙ sym here)
        (λ u d. counted-kept boot e past u (counts_for_ageing-kept boot e past u (is.lives u ∙ ap (λ b. not b && live boot past u) d) (is.activity_kept u) (is.wishes_kept u) (band_same u)) (is.ticks_kept u))
        others s.ages;
  }
