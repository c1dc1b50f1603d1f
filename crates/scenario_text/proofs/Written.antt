-- The lines of a scenario lead to that scenario.
use Rattle.std.proofs.Common.{◌≡◌, ℕ, suc, ◌+◌, ◌<◌, ◌≤◌, Bool, true, false, ltb, ◌&&◌, List, [], ◌∷◌, ◌++◌, length, map, get_or, set, Ok, refl, sym, ap, ◌∙◌, arith, All, append_assoc, append-nil, subst}
use Rattle.std.specs.Prelude.{codes, is_some}
use Rattle.std.specs.List.{AllZip}
use Rattle.std.specs.Fmt.{decimal}
use Rattle.std.proofs.lemmas.Bool.{and_parts}
use Rattle.std.proofs.lemmas.List.{length-append, length-set, set_at, set-set, set-get_or, get_or-set_same, get_or-append-add}
use Rattle.std.proofs.lemmas.List.Elements.{All-head, All-tail}
use Rattle.std.proofs.lemmas.List.Sums.{sum_by-append}
use Rattle.kern_ids.specs.declared.calls.Call.{Call}
use Rattle.kernel_model.specs.declared.boot.TaskBoot.{TaskBoot}
use Rattle.kernel_model.specs.declared.boot.ObjBoot.{ObjBoot}
use Rattle.kernel_model.specs.declared.boot.Side.{Side}
use Rattle.kernel_model.specs.declared.boot.Side.TheVariants.{Kernel}
use Rattle.kernel_model.specs.Events.{task_of, task_of_side}
use Rattle.kernel_model.specs.Histories.{same, is_task_call, names_fit}
use Rattle.kernel_model.specs.declared.boot.Params.{Params}
use Rattle.kernel_model.specs.declared.scenario.Form.{Form}
use Rattle.kernel_model.specs.declared.scenario.Form.TheVariants.{One, Two}
use Rattle.kernel_model.specs.Valid.{IsValidParams, IsValidTask, IsValidObject, IsValidSide}
use Rattle.kernel_model.specs.Scenario.{Plan, FitsForm, IsValidForm, call_count}
use Rattle.kernel_model.proofs.Grows.{call_count-more}
use Rattle.line_text.specs.Verbs.{verb_of_call, is_task_verb}
use Rattle.line_text.specs.Calls.{call_words, HasLine}
use Rattle.scenario_text.specs.declared.place.Place.{Place}
use Rattle.scenario_text.specs.declared.place.Place.TheVariants as place
use Rattle.scenario_text.specs.Grammar as grammar
use Rattle.scenario_text.specs.Grammar.{Front, start, headed, reading, step, line_at, later_line, declaring_line}
use Rattle.scenario_text.specs.Text as text
use Rattle.scenario_text.specs.Text.{HasText}
use Rattle.scenario_text.proofs.Runs.{run, run-then, run-first}
use Rattle.scenario_text.proofs.Spelled.{is_first}
use Rattle.scenario_text.proofs.Grown.{side-at}
use Rattle.scenario_text.proofs.Again.{system_again, task_again, object_again, thread_again, order_again, script_again, no-verb}

-- ---- the tasks

abbrev with_tasks : Plan → List TaskBoot → Plan
with_tasks s ts = record s { boot = record s.boot { tasks = s.boot.tasks ++ ts } }

-- a task that may stand in a line of the form
abbrev FitsLine : Plan → TaskBoot → Type 0
FitsLine s t = IsValidTask t × FitsForm s.form t × (t.band ≤ 20)

task_step : (s : Plan) (n : ℕ) (t : TaskBoot) → n ≡ length s.boot.tasks → n ≤ 63 → FitsLine s t → step (reading place.Tasks s) (text.task_words s.form n t) ≡ Ok (reading place.Tasks (grammar.with_task s t))
unfolding step line_at
task_step s n t e room f = rw (e, task_again s.form (length s.boot.tasks) t (omega (arith, e, room)) f.0 f.1 f.2) refl

tasks_run : (s : Plan) (n : ℕ) (ts : List TaskBoot) → n ≡ length s.boot.tasks → n + length ts ≤ 64 → All (FitsLine s) ts → run (reading place.Tasks s) (text.task_lines s.form n ts) ≡ Ok (reading place.Tasks (with_tasks s ts))
tasks_run s n [] e room fit = ap (λ (xs : List TaskBoot). Ok (reading place.Tasks (record s { boot = record s.boot { tasks = xs } }))) (sym (append-nil s.boot.tasks))
tasks_run s n (t ∷ ts) e room fit =
    run-first (reading place.Tasks s) (reading place.Tasks (grammar.with_task s t)) (text.task_words s.form n t) (text.task_lines s.form (n + 1) ts) (task_step s n t e (omega (arith, room)) (All-head (FitsLine s) t ts fit))
    ∙ tasks_run (grammar.with_task s t) (n + 1) ts (omega (arith, e, length-append s.boot.tasks (t ∷ []))) (omega (arith, room)) (All-tail (FitsLine s) t ts fit)
    ∙ ap (λ (xs : List TaskBoot). Ok (reading place.Tasks (record s { boot = record s.boot { tasks = xs } }))) (append_assoc s.boot.tasks (t ∷ []) ts)

-- ---- the objects

-- where an object may come next, and where a thread or the order may
abbrev is_early : Place → Bool
is_early place.Tasks = true
is_early place.Objects = true
is_early _ = false

abbrev is_late : Place → Bool
is_late place.Tasks = true
is_late place.Objects = true
is_late place.Script = true
is_late _ = false

early_late : (p : Place) → is_early p ≡ true → is_late p ≡ true
early_late place.Tasks e = refl
early_late place.Objects e = refl
early_late place.Script e = absurd cc
early_late place.Ordered e = absurd cc
early_late place.Ended e = absurd cc

abbrev with_objects : Plan → List ObjBoot → Plan
with_objects s os = record s { boot = record s.boot { objects = s.boot.objects ++ os } }

object_declared : (s : Plan) (o : ObjBoot) → length s.boot.objects ≤ 255 → length s.boot.tasks ≤ 64 → IsValidObject (length s.boot.tasks) o
    → declaring_line s (codes "object") (decimal (length s.boot.objects) ∷ codes "task" ∷ (map decimal o.tasks ++ codes "pages" ∷ decimal o.pages ∷ [])) ≡ Ok (reading place.Objects (grammar.with_object s o))
unfolding declaring_line
object_declared s o room few v = rw (declaring_line, object_again (length s.boot.tasks) (length s.boot.objects) o room few v) refl

object_step : (p : Place) (s : Plan) (n : ℕ) (o : ObjBoot) → is_early p ≡ true → n ≡ length s.boot.objects → n ≤ 255 → length s.boot.tasks ≤ 64 → IsValidObject (length s.boot.tasks) o → step (reading p s) (text.object_words n o) ≡ Ok (reading place.Objects (grammar.with_object s o))
unfolding step line_at
object_step place.Tasks s n o early e room few v = rw e (object_declared s o (omega (arith, e, room)) few v)
object_step place.Objects s n o early e room few v = rw e (object_declared s o (omega (arith, e, room)) few v)
object_step place.Script s n o early e room few v = absurd cc
object_step place.Ordered s n o early e room few v = absurd cc
object_step place.Ended s n o early e room few v = absurd cc

objects_run : (p : Place) (s : Plan) (n : ℕ) (os : List ObjBoot) → is_early p ≡ true → n ≡ length s.boot.objects → n + length os ≤ 256 → length s.boot.tasks ≤ 64 → All (IsValidObject (length s.boot.tasks)) os
    → (q : Place) × (is_late q ≡ true) × (run (reading p s) (text.object_lines n os) ≡ Ok (reading q (with_objects s os)))
objects_run p s n [] early e room few v = (p, early_late p early, ap (λ (xs : List ObjBoot). Ok (reading p (record s { boot = record s.boot { objects = xs } }))) (sym (append-nil s.boot.objects)))
objects_run p s n (o ∷ os) early e room few v =
    let P : ObjBoot → Type 0 = IsValidObject (length s.boot.tasks) in
    let more = objects_run place.Objects (grammar.with_object s o) (n + 1) os refl (omega (arith, e, length-append s.boot.objects (o ∷ []))) (omega (arith, room)) few (All-tail P o os v) in (
      more.0,
      more.1,
      run-first (reading p s) (reading place.Objects (grammar.with_object s o)) (text.object_words n o) (text.object_lines (n + 1) os) (object_step p s n o early e (omega (arith, room)) few (All-head P o os v))
          ∙ more.2 ∙ ap (λ (xs : List ObjBoot). Ok (reading more.0 (record s { boot = record s.boot { objects = xs } }))) (append_assoc s.boot.objects (o ∷ []) os),
    )

-- ---- the calls of a thread

-- a call that may stand in a line of a thread of this side
abbrev FitsSide : Plan → Side → Call → Type 0
FitsSide s side call = (same (is_task_verb (verb_of_call call)) (is_some (task_of_side side)) ≡ true) × HasLine (length s.boot.tasks) (length s.boot.objects) call

call_step : (s : Plan) (call : Call) → length s.boot.tasks ≤ 64 → length s.boot.objects ≤ 256 → FitsSide s (get_or s.boot.sides (grammar.last_thread s) Kernel) call → call_count s.scripts < 200000 → step (reading place.Script s) (call_words call) ≡ Ok (reading place.Script (grammar.with_call s call))
unfolding step line_at
call_step s call tasks objects fit room =
    rw (no-verb (verb_of_call call) (codes "thread") refl, no-verb (verb_of_call call) (codes "order") refl) (script_again s call tasks objects fit.1 fit.0 room)

abbrev with_calls : Plan → ℕ → List Call → Plan
with_calls s who calls = record s { scripts = set s.scripts who (get_or s.scripts who [] ++ calls) }

two_sets : (xs : List (List Call)) (who : ℕ) (c : Call) (cs : List Call) → who < length xs → set (set xs who (get_or xs who [] ++ c ∷ [])) who (get_or (set xs who (get_or xs who [] ++ c ∷ [])) who [] ++ cs) ≡ set xs who (get_or xs who [] ++ c ∷ cs)
two_sets xs who c cs l =
    rw (get_or-set_same xs who (get_or xs who [] ++ c ∷ []) [] l, set-set xs who (get_or xs who [] ++ c ∷ []) ((get_or xs who [] ++ c ∷ []) ++ cs), append_assoc (get_or xs who []) (c ∷ []) cs) refl

calls_run : (s : Plan) (side : Side) (who : ℕ) (calls : List Call) → who + 1 ≡ length s.scripts → get_or s.boot.sides who Kernel ≡ side → length s.boot.tasks ≤ 64 → length s.boot.objects ≤ 256 → All (FitsSide s side) calls → call_count s.scripts + length calls ≤ 200000
    → run (reading place.Script s) (map call_words calls) ≡ Ok (reading place.Script (with_calls s who calls))
calls_run s side who [] last is tasks objects fit room =
    ap (λ (xs : List (List Call)). Ok (reading place.Script (record s { scripts = xs }))) (sym (rw (append-nil (get_or s.scripts who [])) (set-get_or s.scripts who [])))
calls_run s side who (c ∷ cs) last is tasks objects fit room =
    let here : grammar.last_thread s ≡ who = omega (arith, last) in
    let l : who < length s.scripts = omega (arith, last) in
    let s1 : Plan = record s { scripts = set s.scripts who (get_or s.scripts who [] ++ c ∷ []) } in
    let one = subst (λ (k : ℕ). FitsSide s (get_or s.boot.sides k Kernel) c) (sym here) (subst (λ (x : Side). FitsSide s x c) (sym is) (All-head (FitsSide s side) c cs fit)) in
    let first : step (reading place.Script s) (call_words c) ≡ Ok (reading place.Script s1) =
    call_step s c tasks objects one (omega (arith, room)) ∙ ap (λ (k : ℕ). Ok (reading place.Script (record s { scripts = set s.scripts k (get_or s.scripts k [] ++ c ∷ []) }))) here in
    run-first (reading place.Script s) (reading place.Script s1) (call_words c) (map call_words cs) first
    ∙ calls_run s1 side who cs (last ∙ sym (length-set s.scripts who (get_or s.scripts who [] ++ c ∷ []))) is tasks objects (All-tail (FitsSide s side) c cs fit) (omega (arith, room, call_count-more s who c l))
    ∙ ap (λ (xs : List (List Call)). Ok (reading place.Script (record s { scripts = xs }))) (two_sets s.scripts who c cs l)

-- ---- the threads

abbrev with_threads : Plan → List Side → List (List Call) → Plan
with_threads s sides scripts = record s { boot = record s.boot { sides = s.boot.sides ++ sides }; scripts = s.scripts ++ scripts }

abbrev Fitting : Plan → Side → List Call → Type 0
Fitting s side script = All (FitsSide s side) script

thread_declared : (s : Plan) (side : Side) → length s.boot.sides ≤ 31 → length s.boot.tasks ≤ 64 → IsValidSide (length s.boot.tasks) side → later_line s (codes "thread") (decimal (length s.boot.sides) ∷ text.side_words side) ≡ Ok (reading place.Script (grammar.with_thread s side))
unfolding later_line
thread_declared s side room few v = rw (later_line, thread_again (length s.boot.sides) (length s.boot.tasks) side room few v) refl

thread_step : (p : Place) (s : Plan) (n : ℕ) (side : Side) → is_late p ≡ true → n ≡ length s.boot.sides → n ≤ 31 → length s.boot.tasks ≤ 64 → IsValidSide (length s.boot.tasks) side → step (reading p s) (text.thread_words n side) ≡ Ok (reading place.Script (grammar.with_thread s side))
unfolding step line_at declaring_line
thread_step place.Tasks s n side late e room few v = rw e (thread_declared s side (omega (arith, e, room)) few v)
thread_step place.Objects s n side late e room few v = rw e (thread_declared s side (omega (arith, e, room)) few v)
thread_step place.Script s n side late e room few v = rw e (thread_declared s side (omega (arith, e, room)) few v)
thread_step place.Ordered s n side late e room few v = absurd cc
thread_step place.Ended s n side late e room few v = absurd cc

-- one thread with its calls
thread_run : (p : Place) (s : Plan) (n : ℕ) (side : Side) (script : List Call) → is_late p ≡ true → n ≡ length s.boot.sides → length s.scripts ≡ length s.boot.sides → n ≤ 31 → length s.boot.tasks ≤ 64 → length s.boot.objects ≤ 256 → IsValidSide (length s.boot.tasks) side → Fitting s side script
    → call_count s.scripts + length script ≤ 200000 → run (reading p s) (text.thread_words n side ∷ map call_words script) ≡ Ok (reading place.Script (with_threads s (side ∷ []) (script ∷ [])))
thread_run p s n side script late e count room tasks objects v fit few =
    let s1 : Plan = grammar.with_thread s side in
    let who : ℕ = length s.scripts in
    let last : who + 1 ≡ length s1.scripts = omega (arith, length-append s.scripts ([] ∷ [])) in
    let there : get_or (s.boot.sides ++ side ∷ []) who Kernel ≡ side = rw count (let same : length s.boot.sides ≡ length s.boot.sides + 0 = omega arith in rw same (get_or-append-add s.boot.sides (side ∷ []) 0 Kernel)) in
    let nothing : get_or (s.scripts ++ [] ∷ []) who [] ≡ [] = let same : who ≡ length s.scripts + 0 = omega arith in rw same (get_or-append-add s.scripts ([] ∷ []) 0 []) in
    let room1 : call_count s1.scripts + length script ≤ 200000 = omega (arith, few, sum_by-append length s.scripts ([] ∷ [])) in
    let set_it : set (s.scripts ++ [] ∷ []) who (get_or (s.scripts ++ [] ∷ []) who [] ++ script) ≡ s.scripts ++ script ∷ [] = rw nothing (set_at s.scripts [] [] script who refl) in
    run-first (reading p s) (reading place.Script s1) (text.thread_words n side) (map call_words script) (thread_step p s n side late e room tasks v)
    ∙ calls_run s1 side who script last there tasks objects fit room1
    ∙ ap (λ (xs : List (List Call)). Ok (reading place.Script (record s1 { scripts = xs }))) set_it

threads_run : (p : Place) (s : Plan) (n : ℕ) (sides : List Side) (scripts : List (List Call)) → is_late p ≡ true → n ≡ length s.boot.sides → length s.scripts ≡ length s.boot.sides → n + length sides ≤ 32 → length s.boot.tasks ≤ 64 → length s.boot.objects ≤ 256
    → All (IsValidSide (length s.boot.tasks)) sides → AllZip (Fitting s) sides scripts → call_count s.scripts + call_count scripts ≤ 200000
    → (q : Place) × (is_late q ≡ true) × (run (reading p s) (text.thread_lines n sides scripts) ≡ Ok (reading q (with_threads s sides scripts)))
threads_run p s n [] [] late e count room tasks objects v fit few = (p, late, rw (append-nil s.boot.sides, append-nil s.scripts) refl)
threads_run p s n [] (y ∷ ys) late e count room tasks objects v fit few = absurd fit
threads_run p s n (x ∷ xs) [] late e count room tasks objects v fit few = absurd fit
threads_run p s n (x ∷ xs) (y ∷ ys) late e count room tasks objects v fit few =
    let P : Side → Type 0 = IsValidSide (length s.boot.tasks) in
    let s1 : Plan = with_threads s (x ∷ []) (y ∷ []) in
    let sides = length-append s.boot.sides (x ∷ []) in
    let scripts = length-append s.scripts (y ∷ []) in
    let sum = sum_by-append length s.scripts (y ∷ []) in
    let few' : call_count s.scripts + (length y + call_count ys) ≤ 200000 = omega (arith, few, sum_by-append length (y ∷ []) ys) in
    let one = thread_run p s n x y late e count (omega (arith, room)) tasks objects (All-head P x xs v) fit.0 (omega (arith, few')) in
    let more = threads_run place.Script s1 (n + 1) xs ys refl (omega (arith, e, sides)) (omega (arith, count, sides, scripts)) (omega (arith, room)) tasks objects (All-tail P x xs v) fit.1 (omega (arith, few', sum)) in (
      more.0,
      more.1,
      run-then (reading p s) (reading place.Script s1) (text.thread_words n x ∷ map call_words y) (text.thread_lines (n + 1) xs ys) one ∙ more.2
          ∙ rw (append_assoc s.boot.sides (x ∷ []) xs, append_assoc s.scripts (y ∷ []) ys) refl,
    )

-- ---- the order and the end

order_declared : (s : Plan) (ns : List ℕ) → s.order ≡ [] → length s.boot.sides ≤ 32 → All (λ n. n < length s.boot.sides) ns → length ns ≤ 200000 → later_line s (codes "order") (map decimal ns) ≡ Ok (reading place.Ordered (record s { order = ns }))
unfolding later_line
order_declared s ns none few below room =
    let front : s.order ++ ns ≡ ns = ap (λ (o : List ℕ). o ++ ns) none in
    rw (later_line, order_again (length s.boot.sides) s ns few below (rw front room), front) refl

order_step : (p : Place) (s : Plan) (ns : List ℕ) → is_late p ≡ true → s.order ≡ [] → length s.boot.sides ≤ 32 → All (λ n. n < length s.boot.sides) ns → length ns ≤ 200000 → step (reading p s) (text.order_words ns) ≡ Ok (reading place.Ordered (record s { order = ns }))
unfolding step line_at declaring_line
order_step place.Tasks s ns late none few below room = order_declared s ns none few below room
order_step place.Objects s ns late none few below room = order_declared s ns none few below room
order_step place.Script s ns late none few below room = order_declared s ns none few below room
order_step place.Ordered s ns late none few below room = absurd cc
order_step place.Ended s ns late none few below room = absurd cc

end_step : (s : Plan) → step (reading place.Ordered s) (codes "end" ∷ []) ≡ Ok (reading place.Ended s)
unfolding step line_at
end_step s = refl

last_run : (p : Place) (s : Plan) (ns : List ℕ) → is_late p ≡ true → s.order ≡ [] → length s.boot.sides ≤ 32 → All (λ n. n < length s.boot.sides) ns → length ns ≤ 200000 → run (reading p s) (text.last_lines ns) ≡ Ok (reading place.Ended (record s { order = ns }))
last_run p s ns late none few below room =
    run-first (reading p s) (reading place.Ordered (record s { order = ns })) (text.order_words ns) ((codes "end" ∷ []) ∷ []) (order_step p s ns late none few below room)
    ∙ run-first (reading place.Ordered (record s { order = ns })) (reading place.Ended (record s { order = ns })) (codes "end" ∷ []) [] (end_step (record s { order = ns }))

-- ---- all lines

head_step : (form : Form) → step start (text.head_words form) ≡ Ok (headed (is_first form))
unfolding step
head_step (One delay) = refl
head_step Two = refl

system_step : (form : Form) (p : Params) → IsValidForm form → IsValidParams p → step (headed (is_first form)) (text.system_words form p) ≡ Ok (reading place.Tasks (grammar.opened form p))
unfolding step
system_step form p f v = rw (system_again form p f v) refl

zip_by : (s : Plan) (sides : List Side) (scripts : List (List Call)) → length scripts ≡ length sides → ((n : ℕ) → n < length scripts → Fitting s (get_or sides n Kernel) (get_or scripts n [])) → AllZip (Fitting s) sides scripts
zip_by s [] [] l f = tt
zip_by s [] (y ∷ ys) l f = absurd (omega (arith, l))
zip_by s (x ∷ xs) [] l f = absurd (omega (arith, l))
zip_by s (x ∷ xs) (y ∷ ys) l f = (f 0 (omega arith), zip_by s xs ys (omega (arith, l)) (λ n m. f (suc n) (omega (arith, m))))

-- the calls of a valid scenario fit their threads
fitting_at : (s : Plan) (n : ℕ) → HasText s → n < length s.scripts → Fitting s (get_or s.boot.sides n Kernel) (get_or s.scripts n [])
fitting_at s n h l = λ k d m.
    let c : Call = get_or (get_or s.scripts n []) k d in
    let count : length s.scripts ≡ length s.boot.sides = h.valid.scripts in
    let p = and_parts (ltb n (length s.boot.sides) && same (is_task_call c) (is_some (task_of s.boot n))) (names_fit s.boot c) (h.valid.calls n l k d m) in
    let q = and_parts (ltb n (length s.boot.sides)) (same (is_task_call c) (is_some (task_of s.boot n))) p.0 in
    (sym (side-at s n c (omega (arith, count, l))) ∙ q.1, h.calls n [] l k d m)

pub scenario-lines-run : (s : Plan) → HasText s → run start (text.scenario_lines s) ≡ Ok (reading place.Ended s)
scenario-lines-run s h =
    let v = h.valid in
    let b = v.boot in
    let s0 : Plan = grammar.opened s.form s.boot.params in
    let s1 : Plan = with_tasks s0 s.boot.tasks in
    let s2 : Plan = with_objects s1 s.boot.objects in
    let s3 : Plan = with_threads s2 s.boot.sides s.scripts in
    let tasks = tasks_run s0 0 s.boot.tasks refl (omega (arith, b.few_tasks)) (λ k d l. (b.tasks k d l, v.tasks k d l, h.bands k d l)) in
    let objects = objects_run place.Tasks s1 0 s.boot.objects refl refl (omega (arith, b.few_objects)) b.few_tasks b.objects in
    let zip = zip_by s s.boot.sides s.scripts v.scripts (λ n l. fitting_at s n h l) in
    let threads = threads_run objects.0 s2 0 s.boot.sides s.scripts objects.1 refl refl (omega (arith, b.few_sides)) b.few_tasks b.few_objects b.sides zip (omega (arith, v.few_calls)) in
    let below = subst (λ (m : ℕ). All (λ n. n < m) s.order) v.scripts v.order in
    run-first start (headed (is_first s.form)) (text.head_words s.form) (text.system_words s.form s.boot.params ∷ (text.task_lines s.form 0 s.boot.tasks ++ text.later_lines s)) (head_step s.form)
    ∙ run-first (headed (is_first s.form)) (reading place.Tasks s0) (text.system_words s.form s.boot.params) (text.task_lines s.form 0 s.boot.tasks ++ text.later_lines s) (system_step s.form s.boot.params v.form b.params)
    ∙ run-then (reading place.Tasks s0) (reading place.Tasks s1) (text.task_lines s.form 0 s.boot.tasks) (text.later_lines s) tasks
    ∙ run-then (reading place.Tasks s1) (reading objects.0 s2) (text.object_lines 0 s.boot.objects) (text.thread_lines 0 s.boot.sides s.scripts ++ text.last_lines s.order) objects.2
    ∙ run-then (reading objects.0 s2) (reading threads.0 s3) (text.thread_lines 0 s.boot.sides s.scripts) (text.last_lines s.order) threads.2
    ∙ last_run threads.0 s3 s.order threads.1 refl b.few_sides below v.few_turns
