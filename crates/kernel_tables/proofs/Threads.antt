-- A task that has a thread has a first one.
use Rattle.std.proofs.Common.{◌≡◌, ℕ, ◌+◌, ◌<◌, List, [], ◌∷◌, length, Option, Some, None, slice_get, refl, sym, ap, ◌∙◌, Bool, true, false, inl, inr, arith, nat_eq, zero-le, find}
use Rattle.std.specs.Option.{option_map_or, unwrap_or}
use Rattle.std.specs.Prelude.{option_and_then}
use Rattle.std.specs.List.{range_with_len}
use Rattle.std.proofs.lemmas.Bool.{cases_Bool, false≢true, true≢false}
use Rattle.std.proofs.lemmas.Bool.Decides.{eqb_tells}
use Rattle.std.proofs.lemmas.Option.{slice_get_within}
use Rattle.kernel_model.specs.declared.boot.Side.{Side}
use Rattle.kernel_model.specs.System.{System}
use Rattle.kernel_model.specs.Events.{task_of, task_of_side}
use Rattle.kernel_model.specs.Laws.Kinds.{runs_for}
use Rattle.kernel_model.specs.Laws.Order.{Has}
use Rattle.kernel_model.proofs.Laws.Queues.{range-has}
use Rattle.kernel_tables.specs.Ends.{thread_of}
use Rattle.kernel_tables.proofs.MapCall.{runs-for, same-number}

find-passes : (p : ℕ → Bool) (xs : List ℕ) (x : ℕ) → Has xs x → p x ≡ true → p (unwrap_or (find p xs) 0) ≡ true
find-passes p [] x h is = absurd h
find-passes p (y ∷ ys) x h is = elim (cases_Bool (p y)) [
  | inl passes ↦ rw passes passes
  | inr fails ↦ rw fails (elim h [
    | inl e ↦ absurd (true≢false (sym is ∙ ap p (sym e) ∙ fails))
    | inr m ↦ find-passes p ys x m is
  ])
]

pub by-one : (o : Option ℕ) (t : ℕ) → option_map_or (nat_eq t) o false ≡ true → o ≡ Some t
by-one (Some u) t h = elim (eqb_tells t u) [ inl same ↦ ap (λ (x : ℕ). Some x) (sym same.1) | inr other ↦ absurd (false≢true (sym other.0 ∙ h)) ]
by-one None t h = absurd (false≢true h)

side_some : (side : Option Side) (t : ℕ) → option_and_then task_of_side side ≡ Some t → (x : Side) × (side ≡ Some x)
side_some (Some x) t h = (x, refl)
side_some None t h = absurd (cc)

pub thread-declared : (boot : System) (who t : ℕ) → task_of boot who ≡ Some t → who < length boot.sides
thread-declared boot who t by = let at = side_some (slice_get boot.sides who) t by in slice_get_within boot.sides who at.0 at.1

pub thread-of : (boot : System) (who t : ℕ) → task_of boot who ≡ Some t → task_of boot (thread_of boot t) ≡ Some t
unfolding thread_of
thread-of boot who t by =
    let below : who < 0 + length boot.sides = (let d = thread-declared boot who t by in omega arith) in
    by-one (task_of boot (thread_of boot t)) t (find-passes (runs_for boot t) (range_with_len 0 (length boot.sides)) who (range-has 0 (length boot.sides) who zero-le below) (runs-for boot who t t by ∙ same-number t))
