-- The history as if a task had unmapped its objects one by one, beside the one in which it did not.
use Rattle.std.proofs.Common.{◌≡◌, ℕ, zero, suc, ◌+◌, ◌<◌, ◌≤◌, List, [], ◌∷◌, ◌++◌, length, filter, cond, Some, None, refl, sym, ap, ap₂, ◌∙◌, subst, Bool, true, false, not, ◌&&◌, ◌||◌, if◌then◌else◌, inl, inr, nat_eq, nat_lt, arith}
use Rattle.std.specs.Prelude.{fold}
use Rattle.std.specs.Option.{unwrap_or}
use Rattle.std.specs.List.{range_with_len, list_any}
use Rattle.std.proofs.lemmas.Bool.{cases_Bool, false≢true, true≢false}
use Rattle.std.proofs.lemmas.Bool.Decides.{eqb_tells, nat_tests}
use Rattle.std.proofs.lemmas.List.Sums.{fold-append}
use Rattle.kern_ids.specs.declared.entries.Entry.{Entry}
use Rattle.kern_ids.specs.declared.ids.PageId.{PageId}
use Rattle.kernel_model.specs.declared.place.Place.TheVariants.{Absent}
use Rattle.kernel_model.specs.System.{System}
use Rattle.kernel_model.specs.Valid.{IsValidBoot}
use Rattle.kernel_model.specs.Events.{task_of, is_by, is_map, is_attach, is_unmap}
use Rattle.kernel_model.specs.Mapping.{live, maps, said_maps, next_said, mapped, tasks_of}
use Rattle.kernel_model.specs.State.{state}
use Rattle.kernel_model.specs.Pages.{place, placed, entered, touched_since, written}
use Rattle.kernel_model.specs.Groups.{volatile, standing, is_volatile_state}
use Rattle.kernel_model.specs.Deadlines.{Deadlines, deadlines, without_first}
use Rattle.kernel_model.specs.Bands.{active, limits}
use Rattle.kernel_model.specs.Histories.{IsLegal}
use Rattle.kernel_model.specs.Laws.Kinds.{unmap_entry}
use Rattle.kernel_model.proofs.Laws.Agree.{any-agree}
use Rattle.kernel_model.proofs.Laws.Mapping.{mapped-is, said_maps-none, said_maps-more}
use Rattle.kernel_tables.specs.Ends.{parted, thread_of}
use Rattle.kernel_tables.proofs.Lists.{filter-more}
use Rattle.kernel_tables.proofs.MapCall.{same-number}
use Rattle.kernel_tables.proofs.ObjectEntries.{spared-live, spared-active, spared-limits}
use Rattle.kernel_tables.proofs.Threads.{thread-of, by-one}
use Rattle.kernel_tables.proofs.Unmapped.{absent-unmapped, caller-mapped}
use Rattle.kernel_tables.proofs.UnmapSteps.{unmap-spares, unmap-maps, unmap-here, unmap-was, unmap-state, unmap-standing, unmap-entered, unmap-written, unmap-placed, unmap-touched, unmap-absent, unmap-deadlines}

-- what maps an object has a thread
said_by : (a b m was : Bool) → unwrap_or (if a && m then Some true else if b && m then Some false else None) was ≡ true → (m ≡ true → ⊥) → was ≡ true
said_by a b true was h n = absurd (n refl)
said_by true true false was h n = h
said_by true false false was h n = h
said_by false true false was h n = h
said_by false false false was h n = h

thread_said : (boot : System) (past : List Entry) (o t : ℕ) → said_maps boot past o t ≡ true → task_of boot (thread_of boot t) ≡ Some t
unfolding next_said
thread_said boot [] o t h = absurd (false≢true (sym (said_maps-none boot o t) ∙ h))
thread_said boot (e ∷ before) o t h = elim (cases_Bool (is_by boot t e)) [
  | inl by ↦ thread-of boot e.who t (by-one (task_of boot e.who) t by)
  | inr other ↦ thread_said boot before o t (said_by (is_map o e || is_attach o e) (is_unmap o e) (is_by boot t e) (said_maps boot before o t) (sym (said_maps-more boot e before o t) ∙ h) (λ by. true≢false (sym by ∙ other)))
]

and_right : (a b : Bool) → (a && b) ≡ true → b ≡ true
and_right true b h = h
and_right false b h = absurd (false≢true h)

pub mapper-thread : (boot : System) (past : List Entry) (o t : ℕ) → maps boot past o t ≡ true → task_of boot (thread_of boot t) ≡ Some t
unfolding maps
mapper-thread boot past o t h = thread_said boot past o t (and_right (live boot past t) (said_maps boot past o t) h)

-- the object is unmapped where the task ceases to map it
abbrev pub others_map : System → List Entry → ℕ → ℕ → Bool
others_map boot past t o = list_any (λ u. not (nat_eq u t) && maps boot past o u) (tasks_of boot)

abbrev pub goes_with : System → List Entry → ℕ → ℕ → Bool
goes_with boot past t o = volatile boot past o && (mapped boot past o && not (others_map boot past t o))

abbrev pub deadlines_without : System → List Entry → ℕ → ℕ → Deadlines
deadlines_without boot past t n = fold (λ d o. without_first (standing past o).queue d) (deadlines boot past) (filter (goes_with boot past t) (range_with_len 0 n))

-- the task maps none of the first n objects, and all else is as in the past
pub record IsParted (boot : System) (t n : ℕ) (past h : List Entry) : Type 0 where
  pub maps_less : (o u : ℕ) → maps boot h o u ≡ (not (nat_lt o n && nat_eq u t) && maps boot past o u)
  pub lives : (u : ℕ) → live boot h u ≡ live boot past u
  pub states : (o : ℕ) → state h o ≡ state past o
  pub stood : (o : ℕ) → standing h o ≡ standing past o
  pub wrote : (p : PageId) → written h p ≡ written past p
  pub came : entered h ≡ entered past
  pub actives : (u : ℕ) → active boot h u ≡ active boot past u
  pub bounds : (u : ℕ) → limits boot h u ≡ limits boot past u
  pub stays : (p : PageId) → mapped boot h p.obj ≡ true → placed boot h p ≡ placed boot past p
  pub marks : (p : PageId) → mapped boot h p.obj ≡ true → touched_since boot h p ≡ touched_since boot past p
  pub absent : (p : PageId) → mapped boot h p.obj ≡ false → place boot h p ≡ Absent
  pub due : deadlines boot h ≡ deadlines_without boot past t n

lt_more : (o n : ℕ) → nat_lt o (n + 1) ≡ (nat_eq n o || nat_lt o n)
lt_more o n = grind (arith, nat_tests)

lt_itself : (n : ℕ) → nat_lt n n ≡ false
lt_itself n = grind (arith, nat_tests)

less_both : (a b c m : Bool) → (not (a && c) && (not (b && c) && m)) ≡ (not ((a || b) && c) && m)
less_both true true true m = refl
less_both true false true m = refl
less_both true true false m = refl
less_both true false false m = refl
less_both false b c m = refl

not_and : (b : Bool) → (b && not b) ≡ false
not_and true = refl
not_and false = refl

and_false : (b : Bool) → (b && false) ≡ false
and_false true = refl
and_false false = refl

-- one object more
taken_more : (f : Deadlines → ℕ → Deadlines) (d : Deadlines) (xs : List ℕ) (n : ℕ) (b : Bool) → fold f d (xs ++ cond b (n ∷ []) []) ≡ cond b (f (fold f d xs) n) (fold f d xs)
taken_more f d xs n true = fold-append f d xs (n ∷ [])
taken_more f d xs n false = fold-append f d xs []

without_more : (boot : System) (past : List Entry) (t n : ℕ) → deadlines_without boot past t (n + 1) ≡ cond (goes_with boot past t n) (without_first (standing past n).queue (deadlines_without boot past t n)) (deadlines_without boot past t n)
without_more boot past t n =
    ap (fold (λ d o. without_first (standing past o).queue d) (deadlines boot past)) (filter-more (goes_with boot past t) n)
    ∙ taken_more (λ d o. without_first (standing past o).queue d) (deadlines boot past) (filter (goes_with boot past t) (range_with_len 0 n)) n (goes_with boot past t n)

pub parted-none : (boot : System) (past : List Entry) (t : ℕ) → IsValidBoot boot → IsLegal boot past → IsParted boot t 0 past past
parted-none boot past t v legal = record {
  maps_less = λ o u. ap (λ b. not (b && nat_eq u t) && maps boot past o u) (sym (let z : nat_lt o 0 ≡ false = grind (arith, nat_tests) in z));
  lives = λ u. refl;
  states = λ o. refl;
  stood = λ o. refl;
  wrote = λ p. refl;
  came = refl;
  actives = λ u. refl;
  bounds = λ u. refl;
  stays = λ p h. refl;
  marks = λ p h. refl;
  absent = λ p h. absent-unmapped boot past p v legal h;
  due = refl;
}

module _ (boot : System) (past h : List Entry) (t n : ℕ) (v : IsValidBoot boot) (inside : n < length boot.objects) (p : IsParted boot t n past h) where
  -- object n is mapped as in the past
  at_n : (u : ℕ) → maps boot h n u ≡ maps boot past n u
  at_n u = p.maps_less n u ∙ ap (λ b. not (b && nat_eq u t) && maps boot past n u) (lt_itself n)

  mapped_n : mapped boot h n ≡ mapped boot past n
  mapped_n = mapped-is boot h n ∙ any-agree (maps boot h n) (maps boot past n) at_n (tasks_of boot) ∙ sym (mapped-is boot past n)

  volatile_n : volatile boot h n ≡ volatile boot past n
  unfolding volatile
  volatile_n = ap₂ (λ a s. a && is_volatile_state s) mapped_n (p.states n)

  -- where the task maps it
  module _ (own : maps boot h n t ≡ true) where
    by : task_of boot (thread_of boot t) ≡ Some t
    by = mapper-thread boot h n t own

    abbrev w : ℕ
    w = thread_of boot t

    others_left : mapped boot (unmap_entry w n ∷ h) n ≡ others_map boot past t n
    others_left =
        mapped-is boot (unmap_entry w n ∷ h) n
        ∙ any-agree (maps boot (unmap_entry w n ∷ h) n) (λ u. not (nat_eq u t) && maps boot past n u) (λ u. unmap-here boot w n t h v by inside own u ∙ ap (λ b. not (nat_eq u t) && b) (at_n u)) (tasks_of boot)

    goes_is : (volatile boot h n && not (mapped boot (unmap_entry w n ∷ h) n)) ≡ goes_with boot past t n
    goes_is =
        ap₂ (λ a b. a && not b) volatile_n others_left
        ∙ ap (λ b. volatile boot past n && (b && not (others_map boot past t n))) (sym (sym mapped_n ∙ caller-mapped boot h n t v own))

    pub parted-leaves : IsParted boot t (n + 1) past (unmap_entry w n ∷ h)
    parted-leaves = record {
      maps_less = λ o u. unmap-maps boot w n t h v by inside own o u ∙ ap (λ b. not (nat_eq n o && nat_eq u t) && b) (p.maps_less o u) ∙ less_both (nat_eq n o) (nat_lt o n) (nat_eq u t) (maps boot past o u) ∙ ap (λ b. not (b && nat_eq u t) && maps boot past o u) (sym (lt_more o n));
      lives = λ u. spared-live boot (unmap_entry w n) h (unmap-spares boot w n t h v by inside own) u ∙ p.lives u;
      states = λ o. unmap-state boot w n t h v by inside own o ∙ p.states o;
      stood = λ o. unmap-standing boot w n t h v by inside own o ∙ p.stood o;
      wrote = λ q. unmap-written boot w n t h v by inside own q ∙ p.wrote q;
      came = unmap-entered boot w n t h v by inside own ∙ p.came;
      actives = λ u. spared-active boot (unmap_entry w n) h (unmap-spares boot w n t h v by inside own) u ∙ p.actives u;
      bounds = λ u. spared-limits boot (unmap_entry w n) h (unmap-spares boot w n t h v by inside own) u ∙ p.bounds u;
      stays = λ q m. unmap-placed boot w n t h v by inside own q m ∙ p.stays q (unmap-was boot w n t h v by inside own q.obj m);
      marks = λ q m. unmap-touched boot w n t h v by inside own q m ∙ p.marks q (unmap-was boot w n t h v by inside own q.obj m);
      absent = λ q m. unmap-absent boot w n t h v by inside own q (p.absent q) m;
      due =
          unmap-deadlines boot w n t h v by inside own
          ∙ ap (λ b. cond b (without_first (standing h n).queue (deadlines boot h)) (deadlines boot h)) goes_is
          ∙ ap₂ (λ s (d : Deadlines). cond (goes_with boot past t n) (without_first s.queue d) d) (p.stood n) p.due
          ∙ sym (without_more boot past t n);
    }

  -- where it doesn't
  module _ (other : maps boot h n t ≡ false) where
    other_past : maps boot past n t ≡ false
    other_past = sym (at_n t) ∙ other

    less_same : (u : ℕ) → (not (nat_eq u t) && maps boot past n u) ≡ maps boot past n u
    less_same u = elim (eqb_tells u t) [
      | inl same ↦ ap (λ b. not b && maps boot past n u) same.0 ∙ sym (ap (maps boot past n) same.1 ∙ other_past)
      | inr differs ↦ ap (λ b. not b && maps boot past n u) differs.0
    ]

    none_goes : goes_with boot past t n ≡ false
    none_goes =
        ap (λ b. volatile boot past n && (mapped boot past n && not b)) (any-agree (λ u. not (nat_eq u t) && maps boot past n u) (maps boot past n) less_same (tasks_of boot) ∙ sym (mapped-is boot past n))
        ∙ ap (λ b. volatile boot past n && b) (not_and (mapped boot past n)) ∙ and_false (volatile boot past n)

    maps_same : (o u : ℕ) → maps boot h o u ≡ (not (nat_lt o (n + 1) && nat_eq u t) && maps boot past o u)
    maps_same o u = elim (eqb_tells n o) [
      | inl same ↦
          subst (λ (x : ℕ). maps boot h x u ≡ (not (nat_lt x (n + 1) && nat_eq u t) && maps boot past x u)) same.1
          (at_n u ∙ sym (less_same u) ∙ ap (λ b. not (b && nat_eq u t) && maps boot past n u) (sym (lt_more n n ∙ ap (λ b. b || nat_lt n n) (same-number n))))
      | inr differs ↦ p.maps_less o u ∙ ap (λ b. not (b && nat_eq u t) && maps boot past o u) (sym (lt_more o n ∙ ap (λ b. b || nat_lt o n) differs.0))
    ]

    pub parted-stays : IsParted boot t (n + 1) past h
    parted-stays = record {
      maps_less = maps_same;
      lives = p.lives;
      states = p.states;
      stood = p.stood;
      wrote = p.wrote;
      came = p.came;
      actives = p.actives;
      bounds = p.bounds;
      stays = p.stays;
      marks = p.marks;
      absent = p.absent;
      due = p.due ∙ sym (without_more boot past t n ∙ ap (λ b. cond b (without_first (standing past n).queue (deadlines_without boot past t n)) (deadlines_without boot past t n)) none_goes);
    }

-- the history is built so
pub parted-zero : (boot : System) (past : List Entry) (t : ℕ) → parted boot past t 0 ≡ past
unfolding parted
parted-zero boot past t = refl

pub parted-more : (boot : System) (past : List Entry) (t n : ℕ) (b : Bool) → maps boot (parted boot past t n) n t ≡ b → parted boot past t (n + 1) ≡ (if b then unmap_entry (thread_of boot t) n ∷ parted boot past t n else parted boot past t n)
unfolding parted
parted-more boot past t n b h = ap (parted boot past t) (let e : n + 1 ≡ suc n = omega arith in e) ∙ ap (λ c. if c then unmap_entry (thread_of boot t) n ∷ parted boot past t n else parted boot past t n) h

pub parted-is : (boot : System) (past : List Entry) (t : ℕ) → IsValidBoot boot → IsLegal boot past → (n : ℕ) → n ≤ length boot.objects → IsParted boot t n past (parted boot past t n)
parted-is boot past t v legal zero l = subst (IsParted boot t 0 past) (sym (parted-zero boot past t)) (parted-none boot past t v legal)
parted-is boot past t v legal (suc n) l =
    let below : n < length boot.objects = omega arith in
    let before : n ≤ length boot.objects = omega arith in
    let p = parted-is boot past t v legal n before in
    let more : n + 1 ≡ suc n = omega arith in
    subst (λ (m : ℕ). IsParted boot t m past (parted boot past t m)) more (elim (cases_Bool (maps boot (parted boot past t n) n t)) [
      | inl own ↦ subst (IsParted boot t (n + 1) past) (sym (parted-more boot past t n true own)) (parted-leaves boot past (parted boot past t n) t n v below p own)
      | inr other ↦ subst (IsParted boot t (n + 1) past) (sym (parted-more boot past t n false other)) (parted-stays boot past (parted boot past t n) t n v below p other)
    ])
