-- No word of a scenario's text has a space or a line feed.
use Rattle.std.proofs.Common.{◌≡◌, ℕ, ◌+◌, ◌<◌, ◌≤◌, Bool, true, false, cond, List, [], ◌∷◌, ◌++◌, length, map, refl, arith, All}
use Rattle.std.specs.Prelude.{codes}
use Rattle.std.specs.List.{AllByRecursion}
use Rattle.std.specs.Fmt.{decimal}
use Rattle.std.proofs.lemmas.List.Elements.{All-head, All-tail}
use Rattle.kern_ids.specs.declared.calls.Call.{Call}
use Rattle.kern_ids.specs.declared.calls.Limit.{Limit}
use Rattle.kernel_model.specs.declared.boot.Params.{Params}
use Rattle.kernel_model.specs.declared.boot.TaskBoot.{TaskBoot}
use Rattle.kernel_model.specs.declared.boot.ObjBoot.{ObjBoot}
use Rattle.kernel_model.specs.declared.boot.Side.{Side}
use Rattle.kernel_model.specs.declared.boot.Side.TheVariants.{Task, Kernel}
use Rattle.kernel_model.specs.declared.scenario.Form.{Form}
use Rattle.kernel_model.specs.declared.scenario.Form.TheVariants.{One, Two}
use Rattle.kernel_model.specs.Scenario.{Plan, IsValidForm}
use Rattle.kernel_model.specs.Valid.{IsValidParams, IsValidTask, IsValidObject, IsValidSide}
use Rattle.line_text.specs.Cut.{Word}
use Rattle.line_text.specs.Calls.{limit_words, call_words, HasLine}
use Rattle.line_text.proofs.CutLaws.{IsClean, decimal_clean, clean_by}
use Rattle.line_text.proofs.CallLaws.{fatal_clean, call_clean}
use Rattle.scenario_text.specs.Text as text
use Rattle.scenario_text.specs.Text.{HasText}

abbrev AreClean : List Word → Type 0
AreClean ws = AllByRecursion IsClean ws

clean_append : (xs ys : List Word) → AreClean xs → AreClean ys → AreClean (xs ++ ys)
clean_append [] ys c d = d
clean_append (x ∷ xs) ys c d = (c.0, clean_append xs ys c.1 d)

lines_append : (xs ys : List (List Word)) → AllByRecursion AreClean xs → AllByRecursion AreClean ys → AllByRecursion AreClean (xs ++ ys)
lines_append [] ys c d = d
lines_append (x ∷ xs) ys c d = (c.0, lines_append xs ys c.1 d)

decimals_clean : (bound : ℕ) (ns : List ℕ) → bound ≤ 64 → All (λ n. n < bound) ns → AreClean (map decimal ns)
decimals_clean bound [] small below = tt
decimals_clean bound (n ∷ ns) small below =
    let b : n < bound = All-head (λ n. n < bound) n ns below in
    (decimal_clean n (omega (arith, b)), decimals_clean bound ns small (All-tail (λ n. n < bound) n ns below))

head_clean : (form : Form) → AreClean (text.head_words form)
head_clean (One delay) = (clean_by (codes "jetlab") refl, (clean_by (codes "1") refl, tt))
head_clean Two = (clean_by (codes "jetlab") refl, (clean_by (codes "2") refl, tt))

delay_clean : (form : Form) → IsValidForm form → AreClean (text.delay_words form)
delay_clean (One delay) v = let most = v.most in (clean_by (codes "delay") refl, (decimal_clean delay (omega (arith, most)), tt))
delay_clean Two v = tt

system_clean : (form : Form) (p : Params) → IsValidForm form → IsValidParams p → AreClean (text.system_words form p)
system_clean form p f v =
    let number : (n m : ℕ) → n ≤ m → m ≤ 65536 → IsClean (decimal n) = λ n m l k. decimal_clean n (omega (arith, l, k)) in (
      clean_by (codes "system") refl,
      (
        clean_by (codes "frames") refl,
        (
          number p.frames 4096 v.frames (omega arith),
          (
            clean_by (codes "target") refl,
            (
              number p.target 4096 v.target (omega arith),
              (
                clean_by (codes "inactive") refl,
                (
                  number p.inactive 4096 v.inactive (omega arith),
                  (
                    clean_by (codes "store") refl,
                    (
                      number p.store 65536 v.store (omega arith),
                      (clean_by (codes "critical") refl, (number p.critical 4096 v.critical (omega arith), delay_clean form f)),
                    ),
                  ),
                ),
              ),
            ),
          ),
        ),
      ),
    )

limit_clean : (l : Limit) → l.pages ≤ 65536 → AreClean (limit_words l)
limit_clean l small = (decimal_clean l.pages (omega (arith, small)), (fatal_clean l.fatal, tt))

ages_clean : (form : Form) (t : TaskBoot) → IsValidTask t → AreClean (text.ages_words form t)
ages_clean (One delay) t v = tt
ages_clean Two t v =
    let most = v.delay.most in
    let ageing = v.ageing in
    (clean_by (codes "delay") refl, (decimal_clean t.delay (omega (arith, most)), (clean_by (codes "ageing") refl, (decimal_clean t.ageing (omega (arith, ageing)), tt))))

internal_clean : (b : Bool) → AreClean (cond b (codes "internal" ∷ []) [])
internal_clean true = (clean_by (codes "internal") refl, tt)
internal_clean false = tt

abbrev inactive_words : Form → TaskBoot → List Word
inactive_words form t = codes "inactive" ∷ (limit_words t.inactive ++ (text.ages_words form t ++ text.internal_words t))

task_clean : (form : Form) (n : ℕ) (t : TaskBoot) → n ≤ 64 → IsValidTask t → t.band ≤ 20 → AreClean (text.task_words form n t)
task_clean form n t few v band =
    let later : AreClean (text.ages_words form t ++ text.internal_words t) = clean_append (text.ages_words form t) (text.internal_words t) (ages_clean form t v) (internal_clean t.internal) in
    let inactive : AreClean (inactive_words form t) = (clean_by (codes "inactive") refl, clean_append (limit_words t.inactive) (text.ages_words form t ++ text.internal_words t) (limit_clean t.inactive v.inactive) later) in
    (clean_by (codes "task") refl, (decimal_clean n (omega (arith, few)), (clean_by (codes "band") refl, (decimal_clean t.band (omega (arith, band)), (clean_by (codes "active") refl, clean_append (limit_words t.active) (inactive_words form t) (limit_clean t.active v.active) inactive)))))

object_clean : (tasks n : ℕ) (o : ObjBoot) → tasks ≤ 64 → n ≤ 256 → IsValidObject tasks o → AreClean (text.object_words n o)
object_clean tasks n o few room v =
    let pages = v.pages in
    let end : AreClean (codes "pages" ∷ decimal o.pages ∷ []) = (clean_by (codes "pages") refl, (decimal_clean o.pages (omega (arith, pages)), tt)) in
    (clean_by (codes "object") refl, (decimal_clean n (omega (arith, room)), (clean_by (codes "task") refl, clean_append (map decimal o.tasks) _ (decimals_clean tasks o.tasks few v.declared) end)))

side_clean : (tasks : ℕ) (side : Side) → tasks ≤ 64 → IsValidSide tasks side → AreClean (text.side_words side)
side_clean tasks (Task t) few v = (clean_by (codes "task") refl, (decimal_clean t (omega (arith, few, v)), tt))
side_clean tasks Kernel few v = (clean_by (codes "kernel") refl, tt)

tasks_clean : (form : Form) (n : ℕ) (ts : List TaskBoot) → n + length ts ≤ 64 → All IsValidTask ts → All (λ t. t.band ≤ 20) ts → AllByRecursion AreClean (text.task_lines form n ts)
tasks_clean form n [] few v b = tt
tasks_clean form n (t ∷ ts) few v b =
    (task_clean form n t (omega (arith, few)) (All-head IsValidTask t ts v) (All-head (λ t. t.band ≤ 20) t ts b), tasks_clean form (n + 1) ts (omega (arith, few)) (All-tail IsValidTask t ts v) (All-tail (λ t. t.band ≤ 20) t ts b))

objects_clean : (tasks n : ℕ) (os : List ObjBoot) → tasks ≤ 64 → n + length os ≤ 256 → All (IsValidObject tasks) os → AllByRecursion AreClean (text.object_lines n os)
objects_clean tasks n [] few room v = tt
objects_clean tasks n (o ∷ os) few room v =
    (object_clean tasks n o few (omega (arith, room)) (All-head (IsValidObject tasks) o os v), objects_clean tasks (n + 1) os few (omega (arith, room)) (All-tail (IsValidObject tasks) o os v))

calls_clean : (tasks objects : ℕ) (calls : List Call) → tasks ≤ 64 → objects ≤ 256 → All (HasLine tasks objects) calls → AllByRecursion AreClean (map call_words calls)
calls_clean tasks objects [] few room v = tt
calls_clean tasks objects (c ∷ cs) few room v =
    (call_clean tasks objects c few room (All-head (HasLine tasks objects) c cs v), calls_clean tasks objects cs few room (All-tail (HasLine tasks objects) c cs v))

threads_clean : (tasks objects n : ℕ) (sides : List Side) (scripts : List (List Call)) → tasks ≤ 64 → objects ≤ 256 → n + length sides ≤ 32 → All (IsValidSide tasks) sides → All (λ script. All (HasLine tasks objects) script) scripts → AllByRecursion AreClean (text.thread_lines n sides scripts)
threads_clean tasks objects n [] ys few many room v c = tt
threads_clean tasks objects n (x ∷ xs) [] few many room v c = tt
threads_clean tasks objects n (x ∷ xs) (y ∷ ys) few many room v c =
    let P : List Call → Type 0 = λ script. All (HasLine tasks objects) script in (
      (clean_by (codes "thread") refl, (decimal_clean n (omega (arith, room)), side_clean tasks x few (All-head (IsValidSide tasks) x xs v))),
      lines_append (map call_words y) _ (calls_clean tasks objects y few many (All-head P y ys c)) (threads_clean tasks objects (n + 1) xs ys few many (omega (arith, room)) (All-tail (IsValidSide tasks) x xs v) (All-tail P y ys c)),
    )

last_clean : (threads : ℕ) (order : List ℕ) → threads ≤ 32 → All (λ n. n < threads) order → AllByRecursion AreClean (text.last_lines order)
last_clean threads order few below = ((clean_by (codes "order") refl, decimals_clean threads order (omega (arith, few)) below), ((clean_by (codes "end") refl, tt), tt))

pub scenario-clean : (s : Plan) → HasText s → AllByRecursion (AllByRecursion IsClean) (text.scenario_lines s)
scenario-clean s h =
    let v = h.valid in
    let b = v.boot in
    let count : length s.scripts ≡ length s.boot.sides = v.scripts in
    let few : length s.scripts ≤ 32 = omega (arith, count, b.few_sides) in (
      head_clean s.form,
      (
        system_clean s.form s.boot.params v.form b.params,
        lines_append (text.task_lines s.form 0 s.boot.tasks) _ (tasks_clean s.form 0 s.boot.tasks (omega (arith, b.few_tasks)) b.tasks h.bands)
            (lines_append (text.object_lines 0 s.boot.objects) _ (objects_clean (length s.boot.tasks) 0 s.boot.objects b.few_tasks (omega (arith, b.few_objects)) b.objects)
            (lines_append (text.thread_lines 0 s.boot.sides s.scripts) _ (threads_clean (length s.boot.tasks) (length s.boot.objects) 0 s.boot.sides s.scripts b.few_tasks b.few_objects (omega (arith, b.few_sides)) b.sides h.calls)
            (last_clean (length s.scripts) s.order few v.order))),
      ),
    )
