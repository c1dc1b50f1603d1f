-- One task goes to the tail of a band, and counts anew for ageing or counts no more.
use Rattle.std.proofs.Common.{◌≡◌, ℕ, suc, ◌+◌, ◌<◌, List, [], ◌∷◌, ◌++◌, length, Some, None, refl, sym, ap, ap₂, ◌∙◌, subst, Bool, true, false, ◌&&◌, cond, nat_eq, inl, inr, arith, zero-le}
use Rattle.std.specs.Prelude.{min}
use Rattle.std.proofs.lemmas.Bool.{false≢true}
use Rattle.std.proofs.lemmas.Bool.Decides.{eqb_tells, nat_tests}
use Rattle.kern_ids.specs.declared.entries.Entry.{Entry}
use Rattle.kernel_model.specs.System.{System}
use Rattle.kernel_model.specs.Mapping.{live, tasks_of}
use Rattle.kernel_model.specs.Bands.{Placing, band, bstamp, placing, ticks, counts_for_ageing, of_task}
use Rattle.kernel_model.specs.Laws.Order.{Has}
use Rattle.kernel_model.specs.Laws.Queues.{KeepsBand}
use Rattle.kernel_model.proofs.Laws.Queues.{band-enter, range-has}
use Rattle.link_list.specs.KeyLists.{list_at, without}
use Rattle.idle_ageing.specs.Ageing.{Ageing, count_of}
use Rattle.kernel_tables.specs.Stands.{HasBands, HasAges, counted_ticks}

pub nat-is : (a b : ℕ) → nat_eq a b ≡ true → a ≡ b
nat-is a b h = elim (eqb_tells a b) [ inl same ↦ same.1 | inr other ↦ absurd (false≢true (sym other.0 ∙ h)) ]

pub nat-other : (a b : ℕ) → nat_eq a b ≡ false → nat_eq b a ≡ false
nat-other a b h = grind (arith, nat_tests)

pub both-true : (a b : Bool) → (a && b) ≡ true → (a ≡ true) × (b ≡ true)
both-true true b h = (refl, h)
both-true false b h = absurd (false≢true h)

pub task-there : (boot : System) (t : ℕ) → t < length boot.tasks → Has (tasks_of boot) t
task-there boot t l = range-has 0 (length boot.tasks) t zero-le (let m : t < 0 + length boot.tasks = omega arith in m)

-- the other tasks stay in their bands, where they are
module _ (boot : System) (e : Entry) (before : List Entry) (t l : ℕ) (declared : t < length boot.tasks) (lives : (u : ℕ) → live boot (e ∷ before) u ≡ live boot before u) (alive : live boot before t ≡ true) (same : (u : ℕ) → nat_eq t u ≡ false → band boot (e ∷ before) u ≡ band boot before u) (since : (u : ℕ) → nat_eq t u ≡ false → placing boot (e ∷ before) u ≡ placing boot before u) (here : band boot (e ∷ before) t ≡ l) (now : (placing boot (e ∷ before) t).bstamp ≡ (suc (length before), 0)) where
  stays : (u : ℕ) → nat_eq t u ≡ false → bstamp boot (e ∷ before) u ≡ bstamp boot before u
  stays u m = ap (λ (x : Placing). x.bstamp) (since u m)

  enters : (b : ℕ) (c : Bool) (ts : List ℕ) → nat_eq l b ≡ c → KeepsBand boot before b ts → KeepsBand boot (e ∷ before) b (without t ts ++ cond c (t ∷ []) [])
  enters b true ts is k =
      let stands : (live boot (e ∷ before) t && nat_eq (band boot (e ∷ before) t) b) ≡ true = rw (lives t, alive, here, is) refl in
      band-enter boot e before b (nat_eq t) ts (t ∷ []) (λ u m. lives u) same stays
      (λ u w h m. inl (nat-is t u m))
      (λ u h. elim h [ inl i ↦ subst (λ v. Has (tasks_of boot) v × ((live boot (e ∷ before) v && nat_eq (band boot (e ∷ before) v) b) ≡ true)) i (task-there boot t declared, stands) | inr f ↦ absurd f ])
      (λ u h. elim h [ inl i ↦ ap (λ v. (bstamp boot (e ∷ before) v).0) (sym i) ∙ ap (λ p. p.0) now | inr f ↦ absurd f ])
      ((λ y m. absurd m), tt) k
  enters b false ts is k =
      band-enter boot e before b (nat_eq t) ts [] (λ u m. lives u) same stays
      (λ u w h m. absurd (false≢true (sym is ∙ ap (λ x. nat_eq x b) (sym here ∙ ap (band boot (e ∷ before)) (nat-is t u m)) ∙ (both-true (live boot (e ∷ before) u) (nat_eq (band boot (e ∷ before) u) b) h).1)))
      (λ u h. absurd h)
      (λ u h. absurd h)
      tt k

  pub placed-bands : (old new : List (List ℕ)) → ((b : ℕ) → b < 21 → list_at new b ≡ without t (list_at old b) ++ cond (nat_eq l b) (t ∷ []) []) → HasBands boot before old → HasBands boot (e ∷ before) new
  placed-bands old new each h b lt = subst (KeepsBand boot (e ∷ before) b) (sym (each b lt)) (enters b (nat_eq l b) (list_at old b) refl (h b lt))

-- what counts as before
pub counted-kept : (boot : System) (e : Entry) (before : List Entry) (u : ℕ) → counts_for_ageing boot (e ∷ before) u ≡ counts_for_ageing boot before u → ticks boot (e ∷ before) u ≡ ticks boot before u → counted_ticks boot (e ∷ before) u ≡ counted_ticks boot before u
counted-kept boot e before u c n = ap₂ (λ c n. cond c (Some (min n (of_task (λ task. task.delay) boot u 0))) None) c n

-- one task counts anew, or no more
pub ages-one : (boot : System) (e : Entry) (before : List Entry) (t : ℕ) (ages later : Ageing) → counted_ticks boot (e ∷ before) t ≡ count_of later t → ((u : ℕ) → nat_eq u t ≡ false → counted_ticks boot (e ∷ before) u ≡ counted_ticks boot before u) → ((u : ℕ) → nat_eq u t ≡ false → count_of later u ≡ count_of ages u) → HasAges boot before ages → HasAges boot (e ∷ before) later
ages-one boot e before t ages later now stay kept h u lu = elim (eqb_tells u t) [
  | inl same ↦ ap (count_of later) same.1 ∙ sym now ∙ ap (counted_ticks boot (e ∷ before)) (sym same.1)
  | inr other ↦ kept u other.0 ∙ h u lu ∙ sym (stay u other.0)
]
