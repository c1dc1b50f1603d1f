-- Entries that say nothing of tasks leave their lives, bands, activity and limits; and what changes one object leaves the others.
use Rattle.std.proofs.Common.{◌≡◌, ℕ, ◌<◌, List, ◌∷◌, length, set, get_or, None, refl, sym, ap, ◌∙◌, subst, Bool, true, false, ◌||◌, if◌then◌else◌, inl, inr, nat_eq}
use Rattle.std.proofs.lemmas.Bool.{cases_eq}
use Rattle.std.proofs.lemmas.Bool.Decides.{eqb_tells}
use Rattle.std.proofs.lemmas.List.{get_or-set_same, get_or-set_other}
use Rattle.kern_ids.specs.declared.entries.Entry.{Entry}
use Rattle.kernel_model.specs.System.{System}
use Rattle.kernel_model.specs.Events.{accepted, is_end}
use Rattle.kernel_model.specs.Mapping.{live}
use Rattle.kernel_model.specs.Bands.{sets_band, active_call, limits_call, aged_tasks, is_tick_call, wish, placing, band, active as is_active, limits as limits_of}
use Rattle.kernel_model.proofs.Laws.Kept.{live-kept, wish-kept, active-kept, limits-kept, placing-kept, band-kept, ticks-kept, counts_for_ageing-kept}
use Rattle.kernel_model.proofs.Laws.Kinds.{sets_active-none}
use Rattle.vm_object.specs.TaskSets.{has_task}
use Rattle.vm_object.specs.Objects.{Object, object_at, changed, no_object}
use Rattle.idle_ageing.specs.Ageing.{Ageing}
use Rattle.kernel_tables.specs.Stands.{BandsStand}
use Rattle.kernel_tables.proofs.Kept.{kept-bands}

-- an entry that says nothing of tasks
pub record SparesTasks (boot : System) (e : Entry) : Type 0 where
  pub ends : (t : ℕ) → is_end boot t e ≡ false
  pub bands : (t : ℕ) → sets_band t e ≡ None
  pub activity : active_call e.call ≡ None
  pub limits : (t : ℕ) → (if accepted e then limits_call t e.call else None) ≡ None
  pub aged : aged_tasks e.reply ≡ None
  pub tick : is_tick_call e.call ≡ false

module _ (boot : System) (e : Entry) (before : List Entry) (s : SparesTasks boot e) where
  pub spared-live : (t : ℕ) → live boot (e ∷ before) t ≡ live boot before t
  spared-live t = live-kept boot e before t (s.ends t)

  pub spared-active : (t : ℕ) → is_active boot (e ∷ before) t ≡ is_active boot before t
  spared-active t = active-kept boot e before t (sets_active-none boot e t s.activity)

  pub spared-limits : (t : ℕ) → limits_of boot (e ∷ before) t ≡ limits_of boot before t
  spared-limits t = limits-kept boot e before t (s.limits t)

  spared_wish : (t : ℕ) → wish boot (e ∷ before) t ≡ wish boot before t
  spared_wish t = wish-kept boot e before t (s.bands t)

  spared_placing : (t : ℕ) → placing boot (e ∷ before) t ≡ placing boot before t
  spared_placing t = placing-kept boot e before t (rw (s.bands t, sets_active-none boot e t s.activity, s.aged) refl)

  spared_band : (t : ℕ) → band boot (e ∷ before) t ≡ band boot before t
  spared_band t = band-kept boot e before t (spared_placing t) (spared_wish t)

  pub spared-bands : (wishes : List ℕ) (bands : List (List ℕ)) (ages : Ageing) → BandsStand boot before wishes bands ages → BandsStand boot (e ∷ before) wishes bands ages
  spared-bands wishes bands ages b = kept-bands boot e before wishes bands ages spared-live spared_wish spared_band spared_placing
      (λ t. ticks-kept boot e before t (rw (sets_active-none boot e t s.activity, s.bands t) refl) s.tick)
      (λ t. counts_for_ageing-kept boot e before t (spared-live t) (spared-active t) (spared_wish t) (spared_band t)) b

-- the objects after one of them changed
pub changed-here : (objects : List Object) (o : ℕ) (change : Object → Object) → o < length objects → object_at (changed objects o change) o ≡ change (object_at objects o)
changed-here objects o change l = get_or-set_same objects o (change (object_at objects o)) no_object l

pub changed-other : (objects : List Object) (o x : ℕ) (change : Object → Object) → (x ≡ o → ⊥) → object_at (changed objects o change) x ≡ object_at objects x
changed-other objects o x change d = get_or-set_other objects o x (change (object_at objects o)) no_object d

pub changed-each : (P : ℕ → Object → Type 0) (objects : List Object) (o : ℕ) (change : Object → Object) → o < length objects → P o (change (object_at objects o)) → ((x : ℕ) → (x ≡ o → ⊥) → P x (object_at objects x)) → (x : ℕ) → P x (object_at (changed objects o change) x)
changed-each P objects o change l here other x = elim (cases_eq x o) [
  | inl same ↦ subst (λ (y : ℕ). P y (object_at (changed objects o change) y)) (sym same) (subst (P o) (sym (changed-here objects o change l)) here)
  | inr differs ↦ subst (P x) (sym (changed-other objects o x change differs)) (other x differs)
]

-- a set of tasks with one more
pub task-added : (tasks : List Bool) (t u : ℕ) → t < length tasks → has_task (set tasks t true) u ≡ (nat_eq u t || has_task tasks u)
task-added tasks t u l = elim (eqb_tells u t) [
  | inl same ↦ ap (λ (m : ℕ). get_or (set tasks t true) m false) same.1 ∙ get_or-set_same tasks t true false l ∙ ap (λ b. b || has_task tasks u) (sym same.0)
  | inr other ↦ get_or-set_other tasks t u true false other.1 ∙ ap (λ b. b || has_task tasks u) (sym other.0)
]
