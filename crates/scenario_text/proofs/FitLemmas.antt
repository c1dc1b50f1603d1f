-- A call that was read from a thread's line fits that thread.
use Rattle.std.proofs.Common.{◌≡◌, ℕ, zero, suc, ◌+◌, ◌<◌, Bool, true, false, not, ◌&&◌, IsTrue, ltb, List, [], ◌∷◌, length, get_or, Option, Some, Ok, refl, sym, ap, ◌∙◌, subst, arith}
use Rattle.std.specs.Prelude.{is_some, slice_get, option_and_then}
use Rattle.std.proofs.lemmas.Bool.{and_from, lt-ltb, le-leb}
use Rattle.kern_ids.specs.declared.calls.Call.{Call}
use Rattle.kern_ids.specs.declared.calls.Call.TheVariants.{Map, Unmap, Write, Read, SetState, GetState, Active, Ledger, Exit, PurgeOne, Forced, Scan, Tick, Jetsam, SetBand, SetLimits, Info, Purgeables, Attach}
use Rattle.kernel_model.specs.declared.boot.Side.{Side}
use Rattle.kernel_model.specs.declared.boot.Side.TheVariants.{Kernel}
use Rattle.kernel_model.specs.System.{System}
use mathlib.Core.Bool.{beq}
use Rattle.kernel_model.specs.Events.{task_of, task_of_side}
use Rattle.kernel_model.specs.Histories.{fits, names_fit, declares_object, declares_task, limit_ok, is_task_call, same}
use Rattle.kernel_model.specs.Scenario.{Plan, IsValid}
use Rattle.line_text.specs.Cut.{Word}
use Rattle.line_text.specs.declared.verb.Verb.{Verb}
use Rattle.line_text.specs.Verbs.{verb_of_call, is_task_verb}
use Rattle.line_text.specs.Calls.{call_of, HasLine}
use Rattle.line_text.proofs.CallLaws.{call_takes}
use Rattle.scenario_text.specs.Grammar.{last_thread}

pub slice_get-within : {A : Type 0} (xs : List A) (i : ℕ) (d : A) → i < length xs → slice_get xs i ≡ Some (get_or xs i d)
slice_get-within [] i d l = absurd (omega arith)
slice_get-within (x ∷ xs) zero d l = refl
slice_get-within (x ∷ xs) (suc i) d l = slice_get-within xs i d (omega arith)

pub side-of : (c : Call) → is_task_call c ≡ is_task_verb (verb_of_call c)
side-of (Map o) = refl
side-of (Attach o) = refl
side-of (Unmap o) = refl
side-of (Write o off bytes) = refl
side-of (Read o off len) = refl
side-of (SetState o word) = refl
side-of (GetState o) = refl
side-of (Active on) = refl
side-of Ledger = refl
side-of Exit = refl
side-of PurgeOne = refl
side-of Forced = refl
side-of Scan = refl
side-of Tick = refl
side-of Jetsam = refl
side-of (SetBand t band) = refl
side-of (SetLimits t a i) = refl
side-of Info = refl
side-of Purgeables = refl

-- what has a line names what is declared
pub names-of : (b : System) (c : Call) → HasLine (length b.tasks) (length b.objects) c → IsTrue (names_fit b c)
names-of b (Map o) h = lt-ltb _ _ h
names-of b (Attach o) h = lt-ltb _ _ h
names-of b (Unmap o) h = lt-ltb _ _ h
names-of b (Write o off bytes) h = and_from (declares_object b o) (ltb 0 (length bytes)) (lt-ltb _ _ h.0) (lt-ltb _ _ h.2.0)
names-of b (Read o off len) h = lt-ltb _ _ h.0
names-of b (SetState o word) h = lt-ltb _ _ h.0
names-of b (GetState o) h = lt-ltb _ _ h
names-of b (Active on) h = refl
names-of b Ledger h = refl
names-of b Exit h = refl
names-of b PurgeOne h = refl
names-of b Forced h = refl
names-of b Scan h = refl
names-of b Tick h = refl
names-of b Jetsam h = refl
names-of b (SetBand t band) h = lt-ltb _ _ h.0
names-of b (SetLimits t a i) h =
    and_from (declares_task b t && limit_ok a) (limit_ok i) (and_from (declares_task b t) (limit_ok a) (lt-ltb _ _ h.0) (le-leb _ _ h.1)) (le-leb _ _ h.2)
names-of b Info h = refl
names-of b Purgeables h = refl

same-self : (b : Bool) → IsTrue (same b b)
same-self true = refl
same-self false = refl

pub fits-read : (s : Plan) (who : ℕ) (v : Verb) (ws : List Word) (call : Call) → IsValid s → who + 1 ≡ length s.scripts → is_task_verb v ≡ is_some (task_of_side (get_or s.boot.sides (last_thread s) Kernel))
    → call_of (length s.boot.tasks) (length s.boot.objects) v ws ≡ Ok call → IsTrue (fits s.boot who call)
fits-read s who v ws call valid last side e =
    let r = call_takes (length s.boot.tasks) (length s.boot.objects) v ws call e in
    let sides : length s.scripts ≡ length s.boot.sides = valid.scripts in
    let within : who < length s.boot.sides = omega arith in
    let here : last_thread s ≡ who = omega arith in
    let of_call : is_task_call call ≡ is_task_verb v = side-of call ∙ ap is_task_verb r.0 in
    let of_thread : is_some (task_of s.boot who) ≡ is_some (task_of_side (get_or s.boot.sides who Kernel)) = ap (λ (o : Option Side). is_some (option_and_then task_of_side o)) (slice_get-within s.boot.sides who Kernel within) in
    let one : is_task_call call ≡ is_some (task_of s.boot who) = of_call ∙ side ∙ ap (λ (n : ℕ). is_some (task_of_side (get_or s.boot.sides n Kernel))) here ∙ sym of_thread in
    and_from (ltb who (length s.boot.sides) && same (is_task_call call) (is_some (task_of s.boot who))) (names_fit s.boot call)
    (and_from (ltb who (length s.boot.sides)) (same (is_task_call call) (is_some (task_of s.boot who))) (lt-ltb _ _ within)
    (subst (λ (b : Bool). IsTrue (same b (is_some (task_of s.boot who)))) (sym one) (same-self (is_some (task_of s.boot who)))))
    (names-of s.boot call r.2)

pub not-differs : (a b : Bool) → not (beq a b) ≡ false → a ≡ b
not-differs true true e = refl
not-differs false false e = refl
not-differs true false e = absurd cc
not-differs false true e = absurd cc
