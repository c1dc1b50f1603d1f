-- The one text of a scenario, as lines of words.
use Rattle.std.specs.Prelude.{ℕ, ◌+◌, ◌≤◌, List, [], ◌∷◌, ◌++◌, length, map, codes, All, if◌then◌else◌}
use Rattle.std.specs.Fmt.{decimal}
use Rattle.kern_ids.specs.declared.calls.Call.{Call}
use Rattle.kernel_model.specs.declared.boot.Params.{Params}
use Rattle.kernel_model.specs.declared.boot.TaskBoot.{TaskBoot}
use Rattle.kernel_model.specs.declared.boot.ObjBoot.{ObjBoot}
use Rattle.kernel_model.specs.declared.boot.Side.{Side}
use Rattle.kernel_model.specs.declared.boot.Side.TheVariants.{Task, Kernel}
use Rattle.kernel_model.specs.declared.scenario.Form.{Form}
use Rattle.kernel_model.specs.declared.scenario.Form.TheVariants.{One, Two}
use Rattle.kernel_model.specs.Scenario.{Plan, IsValid}
use Rattle.line_text.specs.Cut.{Word, text_of}
use Rattle.line_text.specs.Calls.{limit_words, call_words, HasLine}

abbrev pub form_word : Form → Word
form_word (One delay) = codes "1"
form_word Two = codes "2"

abbrev pub head_words : Form → List Word
head_words form = codes "jetlab" ∷ form_word form ∷ []

abbrev pub delay_words : Form → List Word
delay_words (One delay) = codes "delay" ∷ decimal delay ∷ []
delay_words Two = []

abbrev pub system_words : Form → Params → List Word
system_words form p =
    codes "system" ∷ codes "frames" ∷ decimal p.frames ∷ codes "target" ∷ decimal p.target ∷ codes "inactive" ∷ decimal p.inactive
    ∷ codes "store" ∷ decimal p.store ∷ codes "critical" ∷ decimal p.critical ∷ delay_words form

-- in the second form a task's delay and ageing band
abbrev pub ages_words : Form → TaskBoot → List Word
ages_words (One delay) t = []
ages_words Two t = codes "delay" ∷ decimal t.delay ∷ codes "ageing" ∷ decimal t.ageing ∷ []

abbrev pub internal_words : TaskBoot → List Word
internal_words t = if t.internal then codes "internal" ∷ [] else []

abbrev pub task_words : Form → ℕ → TaskBoot → List Word
task_words form n t =
    codes "task" ∷ decimal n ∷ codes "band" ∷ decimal t.band ∷ codes "active" ∷ (limit_words t.active ++ codes "inactive" ∷ (limit_words t.inactive ++ (ages_words form t ++ internal_words t)))

abbrev pub object_words : ℕ → ObjBoot → List Word
object_words n o = codes "object" ∷ decimal n ∷ codes "task" ∷ (map decimal o.tasks ++ codes "pages" ∷ decimal o.pages ∷ [])

abbrev pub side_words : Side → List Word
side_words (Task t) = codes "task" ∷ decimal t ∷ []
side_words Kernel = codes "kernel" ∷ []

abbrev pub thread_words : ℕ → Side → List Word
thread_words n side = codes "thread" ∷ decimal n ∷ side_words side

-- the tasks' lines from number n on
abbrev pub task_lines : Form → ℕ → List TaskBoot → List (List Word)
task_lines form n [] = []
task_lines form n (t ∷ ts) = task_words form n t ∷ task_lines form (n + 1) ts

-- the objects' lines from number n on
abbrev pub object_lines : ℕ → List ObjBoot → List (List Word)
object_lines n [] = []
object_lines n (o ∷ os) = object_words n o ∷ object_lines (n + 1) os

-- the threads' lines from number n on, each with its calls
abbrev pub thread_lines : ℕ → List Side → List (List Call) → List (List Word)
thread_lines n [] scripts = []
thread_lines n (side ∷ sides) [] = []
thread_lines n (side ∷ sides) (script ∷ scripts) = thread_words n side ∷ (map call_words script ++ thread_lines (n + 1) sides scripts)

abbrev pub order_words : List ℕ → List Word
order_words order = codes "order" ∷ map decimal order

abbrev pub last_lines : List ℕ → List (List Word)
last_lines order = order_words order ∷ (codes "end" ∷ []) ∷ []

-- the lines after those of the tasks
abbrev pub later_lines : Plan → List (List Word)
later_lines s = object_lines 0 s.boot.objects ++ (thread_lines 0 s.boot.sides s.scripts ++ last_lines s.order)

abbrev pub scenario_lines : Plan → List (List Word)
scenario_lines s = head_words s.form ∷ system_words s.form s.boot.params ∷ (task_lines s.form 0 s.boot.tasks ++ later_lines s)

-- the text
abbrev pub scenario_text : Plan → List ℕ
scenario_text s = text_of (scenario_lines s)

-- a valid scenario whose numbers and bytes are those that the program's types hold: it has a text
pub record HasText (s : Plan) : Type 0 where
  pub valid : IsValid s
  pub bands : All (λ t. t.band ≤ 20) s.boot.tasks
  pub calls : All (λ script. All (HasLine (length s.boot.tasks) (length s.boot.objects)) script) s.scripts
