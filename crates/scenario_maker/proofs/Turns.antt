-- What is drawn turn by turn keeps to the head, and has as many calls as turns.
use Rattle.std.proofs.Common.{◌≡◌, ℕ, zero, suc, ◌+◌, ◌<◌, [], ◌∷◌, ◌++◌, length, refl, ◌∙◌, arith, add-one, Bool, true, false, IsTrue}
use Rattle.std.specs.Prelude.{IfSome, is_some, Option}
use Rattle.std.proofs.lemmas.Bool.{and_from, lt-ltb}
use Rattle.std.proofs.lemmas.List.{length-append, length-set}
use Rattle.std.proofs.lemmas.List.FromFn.{length-map-range_with_len}
use Rattle.kern_ids.specs.declared.calls.Call.{Call}
use Rattle.kernel_model.specs.System.{System}
use Rattle.kernel_model.specs.Events.{task_of}
use Rattle.kernel_model.specs.Histories.{fits, names_fit, is_task_call, same}
use Rattle.kernel_model.specs.Scenario.{script, call_count}
use Rattle.kernel_model.proofs.Grows.{call_count-more}
use Rattle.scenario_maker.specs.Draws.{draw}
use Rattle.scenario_maker.specs.Head.{head, head_objects, object_boot}
use Rattle.scenario_maker.specs.Made.{call_by, turn, with_turn, turns}

-- there are forty objects
pub length-head_objects : length head_objects ≡ 40
unfolding head_objects
length-head_objects = length-map-range_with_len object_boot 0 40

-- a thread's task is one of three
pub head_task_below : (who : ℕ) → IfSome (task_of head.boot who) (λ t. t < 3)
head_task_below zero = omega arith
head_task_below (suc zero) = omega arith
head_task_below (suc (suc zero)) = omega arith
head_task_below (suc (suc (suc zero))) = omega arith
head_task_below (suc (suc (suc (suc zero)))) = tt
head_task_below (suc (suc (suc (suc (suc zero))))) = tt
head_task_below (suc (suc (suc (suc (suc (suc who)))))) = tt

same-self : (b : Bool) → same b b ≡ true
same-self true = refl
same-self false = refl

-- a call of the thread's side that names what is declared fits
pub fits_made : (boot : System) (who : ℕ) (call : Call) → who < length boot.sides → is_task_call call ≡ is_some (task_of boot who) → IsTrue (names_fit boot call) → IsTrue (fits boot who call)
fits_made boot who call below side names =
    let alike : same (is_task_call call) (is_some (task_of boot who)) ≡ true = rw side (same-self (is_some (task_of boot who))) in
    and_from _ (names_fit boot call) (and_from _ _ (lt-ltb who (length boot.sides) below) alike) names

-- one of six threads is drawn
pub turn_thread-below : (i x : ℕ) → (turn i x).0.0 < 6
unfolding turn draw
turn_thread-below i x = omega arith

-- one turn more
pub turns_more : (n x : ℕ) → turns (n + 1) x ≡ (with_turn (turns n x).0 (turn n (turns n x).1).0, (turn n (turns n x).1).1)
unfolding turns
turns_more n x = rw add-one refl

pub turns-boot : (n x : ℕ) → (turns n x).0.boot ≡ head.boot
unfolding turns
turns-boot zero x = refl
turns-boot (suc n) x = turns-boot n x

pub turns-scripts : (n x : ℕ) → length (turns n x).0.scripts ≡ 6
unfolding turns
turns-scripts zero x = refl
turns-scripts (suc n) x =
    let s = (turns n x).0 in
    let t = (turn n (turns n x).1).0 in
    length-set s.scripts t.0 (script s t.0 ++ t.1 ∷ []) ∙ turns-scripts n x

pub turns-order : (n x : ℕ) → length (turns n x).0.order ≡ n
unfolding turns
turns-order zero x = refl
turns-order (suc n) x = omega (arith, turns-order n x, length-append (turns n x).0.order ((turn n (turns n x).1).0.0 ∷ []))

pub turns-calls : (n x : ℕ) → call_count (turns n x).0.scripts ≡ n
unfolding turns
turns-calls zero x = refl
turns-calls (suc n) x =
    let s = (turns n x).0 in
    let t = (turn n (turns n x).1).0 in
    let below : t.0 < length s.scripts = omega (arith, turns-scripts n x, turn_thread-below n (turns n x).1) in
    omega (arith, turns-calls n x, call_count-more s t.0 t.1 below)

-- a turn, from what each draw of it gave
pub turn_is : (i x who first kind second : ℕ) (task : Option ℕ) (call : Call) (third : ℕ) → who ≡ (draw 6 x).0 → first ≡ (draw 6 x).1 → kind ≡ (draw 8 first).0 → second ≡ (draw 8 first).1 → task ≡ task_of head.boot who → call ≡ (call_by i kind task second).0 → third ≡ (call_by i kind task second).1 → turn i x ≡ ((who, call), third)
unfolding turn
turn_is i x who first kind second task call third who_is first_is kind_is second_is task_is call_is third_is =
    rw (call_is, third_is, task_is, kind_is, second_is, first_is, who_is) refl
