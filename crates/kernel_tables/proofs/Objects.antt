-- Who maps an object and who owns it: the same by the table of the objects and by the definitions.
use Rattle.std.proofs.Common.{◌≡◌, ℕ, ◌<◌, ◌≤◌, List, [], ◌∷◌, length, Option, Some, None, refl, sym, ap, ◌∙◌, subst, Bool, true, false, ◌&&◌, ◌||◌, if◌then◌else◌, inl, inr, arith, nat_eq}
use Rattle.std.specs.Prelude.{is_some}
use Rattle.std.specs.Option.{option_map_or, unwrap_or}
use Rattle.std.proofs.lemmas.Bool.{cases_lt, false≢true}
use Rattle.std.proofs.lemmas.Bool.Decides.{nat_tests}
use Rattle.kern_ids.specs.declared.entries.Entry.{Entry}
use Rattle.kernel_model.specs.System.{System}
use Rattle.kernel_model.specs.Valid.{IsValidBoot}
use Rattle.kernel_model.specs.Events.{task_of, is_by, is_map, is_attach, is_unmap}
use Rattle.kernel_model.specs.Mapping.{live, maps, said_maps, next_said, mapped, owner, tasks_of}
use Rattle.kernel_model.proofs.Laws.Agree.{find-agree, any-agree}
use Rattle.kernel_model.proofs.Laws.Held.{declared_task}
use Rattle.kernel_model.proofs.Laws.Mapping.{said_maps-none, said_maps-more, owner-is, mapped-is}
use Rattle.vm_object.specs.TaskSets.{has_task}
use Rattle.vm_object.specs.Objects.{Object, object_at, owner as owner_in, is_mapped}
use Rattle.vm_object.proofs.TaskSetLemmas.{least_of-below, any_of-below}
use Rattle.kernel_tables.specs.Stands.{HasMappers}

-- the task of a thread is declared
pub task-declared : (boot : System) (who t : ℕ) → IsValidBoot boot → task_of boot who ≡ Some t → t < length boot.tasks
task-declared boot who t v is = subst (λ (o : Option ℕ). unwrap_or o 0 < length boot.tasks) is (declared_task boot who v (ap is_some is))

by_none : (o : Option ℕ) (n t : ℕ) → ((u : ℕ) → o ≡ Some u → u < n) → n ≤ t → option_map_or (nat_eq t) o false ≡ false
by_none (Some u) n t h l = let b : u < n = h u refl in grind (arith, nat_tests)
by_none None n t h l = refl

-- no thread is one of a task that isn't declared, and so it maps nothing
none_said : (a b was : Bool) → unwrap_or (if a && false then Some true else if b && false then Some false else None) was ≡ was
none_said true true was = refl
none_said true false was = refl
none_said false true was = refl
none_said false false was = refl

not_by : (boot : System) (o t : ℕ) (was : Bool) (e : Entry) → is_by boot t e ≡ false → next_said boot o t was e ≡ was
unfolding next_said
not_by boot o t was e h = rw h (none_said (is_map o e || is_attach o e) (is_unmap o e) was)

said_undeclared : (boot : System) (past : List Entry) (o t : ℕ) → IsValidBoot boot → length boot.tasks ≤ t → said_maps boot past o t ≡ false
said_undeclared boot [] o t v l = said_maps-none boot o t
said_undeclared boot (e ∷ before) o t v l =
    said_maps-more boot e before o t
    ∙ not_by boot o t (said_maps boot before o t) e (by_none (task_of boot e.who) (length boot.tasks) t (λ u is. task-declared boot e.who u v is) l)
    ∙ said_undeclared boot before o t v l

and_false : (b : Bool) → (b && false) ≡ false
and_false true = refl
and_false false = refl

pub maps-undeclared : (boot : System) (past : List Entry) (o t : ℕ) → IsValidBoot boot → length boot.tasks ≤ t → maps boot past o t ≡ false
unfolding maps
maps-undeclared boot past o t v l = ap (λ b. live boot past t && b) (said_undeclared boot past o t v l) ∙ and_false (live boot past t)

pub maps-declared : (boot : System) (past : List Entry) (o t : ℕ) → IsValidBoot boot → maps boot past o t ≡ true → t < length boot.tasks
maps-declared boot past o t v m = elim (cases_lt t (length boot.tasks)) [
  | inl l ↦ l
  | inr h ↦ absurd (false≢true (sym (maps-undeclared boot past o t v h) ∙ m))
]

-- the owner by the table, and whether somebody maps the object
module _ (boot : System) (past : List Entry) (objects : List Object) (v : IsValidBoot boot) (m : HasMappers boot past objects) (o : ℕ) (l : o < length boot.objects) where
  none_past : (t : ℕ) → length boot.tasks ≤ t → has_task (object_at objects o).mapping t ≡ false
  none_past t h = m o t l ∙ maps-undeclared boot past o t v h

  pub owner-stands : owner_in objects o ≡ owner boot past o
  owner-stands =
      least_of-below (object_at objects o).mapping (length boot.tasks) v.few_tasks none_past
      ∙ find-agree (has_task (object_at objects o).mapping) (maps boot past o) (λ t. m o t l) (tasks_of boot)
      ∙ sym (owner-is boot past o)

  pub mapped-stands : is_mapped objects o ≡ mapped boot past o
  mapped-stands =
      any_of-below (object_at objects o).mapping (length boot.tasks) v.few_tasks none_past
      ∙ any-agree (has_task (object_at objects o).mapping) (maps boot past o) (λ t. m o t l) (tasks_of boot)
      ∙ sym (mapped-is boot past o)
