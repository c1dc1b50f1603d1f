-- What has a text still has one when the next line has added something to it.
use Rattle.std.proofs.Common.{◌≡◌, ℕ, ◌+◌, ◌<◌, ◌≤◌, IsTrue, true, ltb, ◌&&◌, Option, List, [], ◌∷◌, ◌++◌, length, get_or, refl, sym, ap, ◌∙◌, arith, subst, All}
use Rattle.std.specs.Prelude.{is_some, option_and_then}
use Rattle.std.proofs.lemmas.Bool.{and_from, lt-ltb}
use Rattle.std.proofs.lemmas.List.{length-append}
use Rattle.std.proofs.lemmas.List.Elements.{All-nil, All-push, All-same, All-set, All-append, All-from_recursion}
use Rattle.kern_ids.specs.declared.calls.Call.{Call}
use Rattle.kern_ids.specs.declared.calls.Call.TheVariants.{Map, Unmap, Write, Read, SetState, GetState, Active, Ledger, Exit, PurgeOne, Forced, Scan, Tick, Jetsam, SetBand, SetLimits, Info, Purgeables, Attach}
use Rattle.kernel_model.specs.declared.boot.Params.{Params}
use Rattle.kernel_model.specs.declared.boot.TaskBoot.{TaskBoot}
use Rattle.kernel_model.specs.declared.boot.ObjBoot.{ObjBoot}
use Rattle.kernel_model.specs.declared.boot.Side.{Side}
use Rattle.kernel_model.specs.declared.boot.Side.TheVariants.{Kernel}
use Rattle.kernel_model.specs.declared.scenario.Form.{Form}
use Rattle.kernel_model.specs.Valid.{IsValidParams, IsValidTask, IsValidObject, IsValidSide, IsValidCall}
use Rattle.kernel_model.specs.Scenario.{Plan, IsValid, IsValidForm, FitsForm, call_count, script}
use Rattle.kernel_model.specs.Histories.{fits, same, is_task_call, names_fit}
use Rattle.kernel_model.specs.Events.{task_of, task_of_side}
use Rattle.kernel_model.proofs.Grows.{object_more, thread_more, call_more}
use Rattle.line_text.specs.Verbs.{verb_of_call, is_task_verb}
use Rattle.line_text.specs.Calls.{HasLine}
use Rattle.scenario_text.specs.Grammar.{opened, with_task, with_object, with_thread, with_call, last_thread}
use Rattle.scenario_text.specs.Text.{HasText}
use Rattle.scenario_text.proofs.FitLemmas.{slice_get-within, side-of, names-of}
use Rattle.scenario_text.proofs.Spelled.{IsSide}

-- a call is of a thread's side, in the words of the kernel's rules and in those of its line
pub side-at : (s : Plan) (who : ℕ) (call : Call) → who < length s.boot.sides → same (is_task_call call) (is_some (task_of s.boot who)) ≡ same (is_task_verb (verb_of_call call)) (is_some (task_of_side (get_or s.boot.sides who Kernel)))
side-at s who call l =
    let there : is_some (task_of s.boot who) ≡ is_some (task_of_side (get_or s.boot.sides who Kernel)) = ap (λ (o : Option Side). is_some (option_and_then task_of_side o)) (slice_get-within s.boot.sides who Kernel l) in
    rw (side-of call, there) refl

-- a call that has a line fits a thread of its side
fits-line : (s : Plan) (who : ℕ) (call : Call) → IsValid s → who + 1 ≡ length s.scripts → same (is_task_verb (verb_of_call call)) (is_some (task_of_side (get_or s.boot.sides who Kernel))) ≡ true → HasLine (length s.boot.tasks) (length s.boot.objects) call → IsTrue (fits s.boot who call)
fits-line s who call valid last side line =
    let count : length s.scripts ≡ length s.boot.sides = valid.scripts in
    let within : who < length s.boot.sides = omega (arith, count, last) in
    and_from (ltb who (length s.boot.sides) && same (is_task_call call) (is_some (task_of s.boot who))) (names_fit s.boot call)
    (and_from (ltb who (length s.boot.sides)) (same (is_task_call call) (is_some (task_of s.boot who))) (lt-ltb _ _ within) (side-at s who call within ∙ side))
    (names-of s.boot call line)

-- the numbers of a call that has a line are in their ranges
line-valid : (tasks objects : ℕ) (call : Call) → HasLine tasks objects call → IsValidCall call
line-valid tasks objects (Write o off bytes) h = let b = h.2 in (h.1, b.1, All-from_recursion (λ x. x < 256) bytes b.2)
line-valid tasks objects (Read o off len) h = (h.1, h.2)
line-valid tasks objects (SetState o word) h = h.1
line-valid tasks objects (SetBand t band) h = h.1
line-valid tasks objects (Map o) h = tt
line-valid tasks objects (Attach o) h = tt
line-valid tasks objects (Unmap o) h = tt
line-valid tasks objects (GetState o) h = tt
line-valid tasks objects (Active on) h = tt
line-valid tasks objects Ledger h = tt
line-valid tasks objects Exit h = tt
line-valid tasks objects PurgeOne h = tt
line-valid tasks objects Forced h = tt
line-valid tasks objects Scan h = tt
line-valid tasks objects Tick h = tt
line-valid tasks objects Jetsam h = tt
line-valid tasks objects (SetLimits t a i) h = tt
line-valid tasks objects Info h = tt
line-valid tasks objects Purgeables h = tt

abbrev LineOf : Plan → Call → Type 0
LineOf s call = HasLine (length s.boot.tasks) (length s.boot.objects) call

abbrev HaveLines : Plan → List Call → Type 0
HaveLines s script = All (LineOf s) script

pub opened-holds : (form : Form) (params : Params) → IsValidForm form → IsValidParams params → HasText (opened form params)
opened-holds form params f p = record {
  valid = record {
    boot = record {
      params = p;
      few_tasks = omega arith;
      few_objects = omega arith;
      few_sides = omega arith;
      tasks = All-nil IsValidTask;
      objects = All-nil (IsValidObject 0);
      sides = All-nil (IsValidSide 0);
    };
    form = f;
    tasks = All-nil (FitsForm form);
    bands = All-nil (λ t. t.band ≤ 20);
    scripts = refl;
    calls = λ n l. absurd (omega arith);
    ranges = All-nil (All IsValidCall);
    few_calls = omega arith;
    order = All-nil (λ n. n < 0);
    few_turns = omega arith;
  };
  bands = All-nil (λ t. t.band ≤ 20);
  calls = All-nil (HaveLines (opened form params));
}

pub task-holds : (s : Plan) (t : TaskBoot) → HasText s → (s.boot.objects ≡ []) × (s.boot.sides ≡ []) × (s.scripts ≡ []) × (s.order ≡ []) → length s.boot.tasks ≤ 63 → IsValidTask t → FitsForm s.form t → t.band ≤ 20 → HasText (with_task s t)
task-holds s t h none room valid fits band =
    let v = h.valid in
    let none_called : length s.scripts ≡ 0 = ap length none.2 in
    record {
      valid = record {
        boot = record {
          params = v.boot.params;
          few_tasks = omega (arith, length-append s.boot.tasks (t ∷ []));
          few_objects = v.boot.few_objects;
          few_sides = v.boot.few_sides;
          tasks = All-push IsValidTask s.boot.tasks t v.boot.tasks valid;
          objects = let P : ObjBoot → Type 0 = IsValidObject (length (s.boot.tasks ++ t ∷ [])) in All-same P s.boot.objects [] none.0 (All-nil P);
          sides = let P : Side → Type 0 = IsValidSide (length (s.boot.tasks ++ t ∷ [])) in All-same P s.boot.sides [] none.1 (All-nil P);
        };
        form = v.form;
        tasks = All-push (FitsForm s.form) s.boot.tasks t v.tasks fits;
        bands = All-push (λ t. t.band ≤ 20) s.boot.tasks t v.bands band;
        scripts = v.scripts;
        calls = λ n l. absurd (omega (arith, none_called, l));
        ranges = v.ranges;
        few_calls = v.few_calls;
        order = v.order;
        few_turns = v.few_turns;
      };
      bands = All-push (λ t. t.band ≤ 20) s.boot.tasks t h.bands band;
      calls = All-same (HaveLines (with_task s t)) s.scripts [] none.2 (All-nil (HaveLines (with_task s t)));
    }

pub object-holds : (s : Plan) (o : ObjBoot) → HasText s → s.scripts ≡ [] → length s.boot.objects ≤ 255 → IsValidObject (length s.boot.tasks) o → HasText (with_object s o)
object-holds s o h none room valid = record {
  valid = object_more s o (omega (arith, room)) valid h.valid;
  bands = h.bands;
  calls = All-same (HaveLines (with_object s o)) s.scripts [] none (All-nil (HaveLines (with_object s o)));
}

pub thread-holds : (s : Plan) (side : Side) → HasText s → length s.boot.sides ≤ 31 → IsValidSide (length s.boot.tasks) side → HasText (with_thread s side)
thread-holds s side h room valid = record {
  valid = thread_more s side (omega (arith, room)) valid h.valid;
  bands = h.bands;
  calls = All-push (HaveLines s) s.scripts [] h.calls (All-nil (LineOf s));
}

pub order-holds : (s : Plan) (ns : List ℕ) → HasText s → All (λ n. n < length s.boot.sides) ns → length (s.order ++ ns) ≤ 200000 → HasText (record s { order = s.order ++ ns })
order-holds s ns h below few =
    let v = h.valid in
    let below' : All (λ n. n < length s.scripts) ns = subst (λ (m : ℕ). All (λ n. n < m) ns) (sym v.scripts) below in
    record {
      valid = record {
        boot = v.boot;
        form = v.form;
        tasks = v.tasks;
        bands = v.bands;
        scripts = v.scripts;
        calls = v.calls;
        ranges = v.ranges;
        few_calls = v.few_calls;
        order = All-append (λ n. n < length s.scripts) s.order ns v.order below';
        few_turns = few;
      };
      bands = h.bands;
      calls = h.calls;
    }

pub call-holds : (s : Plan) (call : Call) → HasText s → last_thread s + 1 ≡ length s.scripts → LineOf s call → IsSide s call → call_count s.scripts < 200000 → HasText (with_call s call)
call-holds s call h last line side room =
    let who = last_thread s in
    let within : who < length s.scripts = omega (arith, last) in
    record {
      valid = call_more s who call (line-valid (length s.boot.tasks) (length s.boot.objects) call line) room (fits-line s who call h.valid last side line) within h.valid;
      bands = h.bands;
      calls = All-set (HaveLines s) s.scripts who (get_or s.scripts who [] ++ call ∷ []) (All-push (LineOf s) (get_or s.scripts who []) call (h.calls who [] within) line) h.calls;
    }
