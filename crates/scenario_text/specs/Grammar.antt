-- Reading a scenario line by line, up to the first fault. A line is its words.
use Rattle.std.specs.Prelude.{ℕ, ◌+◌, ◌-◌, List, [], ◌∷◌, ◌++◌, length, Some, None, Result, Ok, Err, Bool, true, false, is_some, codes, nat_lt, if◌then◌else◌, slice_set, slice_index_or}
use Rattle.std.specs.Str.{bytes_eq}
use Rattle.kern_ids.specs.declared.faults.Why.{Why}
use Rattle.kern_ids.specs.declared.faults.Why.TheVariants as why
use Rattle.kern_ids.specs.declared.calls.Call.{Call}
use Rattle.kernel_model.specs.declared.boot.Params.{Params}
use Rattle.kernel_model.specs.declared.boot.TaskBoot.{TaskBoot}
use Rattle.kernel_model.specs.declared.boot.ObjBoot.{ObjBoot}
use Rattle.kernel_model.specs.declared.boot.Side.{Side}
use Rattle.kernel_model.specs.declared.boot.Side.TheVariants.{Task, Kernel}
use Rattle.kernel_model.specs.declared.scenario.Form.{Form}
use Rattle.kernel_model.specs.declared.scenario.Form.TheVariants.{One, Two}
use Rattle.kernel_model.specs.Scenario.{Plan, call_count}
use Rattle.kernel_model.specs.Histories.{same}
use Rattle.kernel_model.specs.Events.{task_of_side}
use Rattle.line_text.specs.Cut.{Word, lines_of, words_of}
use Rattle.line_text.specs.Numbers.{is_plain, number_in}
use Rattle.line_text.specs.Words.{◌>>=◌, fixed, choice, number, in_order, reference, finished}
use Rattle.line_text.specs.Verbs.{verb_of, is_task_verb}
use Rattle.line_text.specs.Calls.{limit, call_of}
use Rattle.scenario_text.specs.declared.place.Place.{Place}
use Rattle.scenario_text.specs.declared.place.Place.TheVariants as place

-- what the first line says: whether the first form
abbrev pub head_line : Word → List Word → Result Bool Why
head_line w ws =
    if bytes_eq w (codes "jetlab") then (choice (codes "1") (codes "2") ws >>= λ form. finished form.1 form.0)
    else Err why.Word

-- the delay at the end of the first form's system line
unfoldable pub form_words : Bool → List Word → Result (Form × List Word) Why
form_words true ws = fixed (codes "delay") ws >>= λ rest. number 1 1000 rest >>= λ delay. Ok (One delay.0, delay.1)
form_words false ws = Ok (Two, ws)

-- the system line: the form and the parameters
unfoldable pub system_line : Bool → Word → List Word → Result (Form × Params) Why
system_line first w ws =
    if bytes_eq w (codes "system") then (do
      rest ← fixed (codes "frames") ws
      frames ← number 1 4096 rest
      rest ← fixed (codes "target") frames.1
      target ← number 0 4096 rest
      rest ← fixed (codes "inactive") target.1
      inactive ← number 0 4096 rest
      rest ← fixed (codes "store") inactive.1
      store ← number 0 65536 rest
      rest ← fixed (codes "critical") store.1
      critical ← number 0 4096 rest
      form ← form_words first critical.1
      finished form.1 (form.0, record { frames = frames.0; target = target.0; inactive = inactive.0; store = store.0; critical = critical.0 }))
    else Err why.Word

-- the delay and the ageing band: those of the first form, or the next words
unfoldable pub ageing_words : Form → List Word → Result ((ℕ × ℕ) × List Word) Why
ageing_words (One delay) ws = Ok ((delay, 1), ws)
ageing_words Two ws = do
  rest ← fixed (codes "delay") ws
  delay ← number 1 1000 rest
  rest ← fixed (codes "ageing") delay.1
  ageing ← number 1 2 rest
  Ok ((delay.0, ageing.0), ageing.1)

-- whether the line ends with a last word
abbrev pub last_word : Word → List Word → Result Bool Why
last_word word [] = Ok false
last_word word (w ∷ ws) = if bytes_eq w word then finished ws true else Err why.Word

-- a task line after its first word
unfoldable pub task_line : Form → ℕ → List Word → Result TaskBoot Why
task_line form next ws = do
  rest ← in_order next 63 ws
  rest ← fixed (codes "band") rest
  band ← number 0 20 rest
  rest ← fixed (codes "active") band.1
  active ← limit rest
  rest ← fixed (codes "inactive") active.1
  inactive ← limit rest
  ages ← ageing_words form inactive.1
  internal ← last_word (codes "internal") ages.1
  Ok (record { band = band.0; active = active.0; inactive = inactive.0; internal = internal; delay = ages.0.0; ageing = ages.0.1 })

-- a task of an object and those after it, where it is at least the bound
abbrev pub sharer_from : ℕ → ℕ → Result (List ℕ × List Word) Why → Result (List ℕ × List Word) Why
sharer_from bound n rest = if nat_lt n bound then Err why.Repeated else (rest >>= λ r. Ok (n ∷ r.0, r.1))

-- the tasks of an object after the first one, each a declared one that is at least the bound, up to the word `pages`
unfoldable pub sharers : ℕ → ℕ → List Word → Result (List ℕ × List Word) Why
sharers tasks bound [] = Err why.Word
sharers tasks bound (w ∷ ws) =
    if bytes_eq w (codes "pages") then Ok ([], ws)
    else if is_plain w then (number_in 0 63 w >>= λ n. if nat_lt n tasks then sharer_from bound n (sharers tasks (n + 1) ws) else Err why.Unknown)
    else Err why.Word

-- an object line after its first word
unfoldable pub object_line : ℕ → ℕ → List Word → Result ObjBoot Why
object_line tasks next ws = do
  rest ← in_order next 255 ws
  rest ← fixed (codes "task") rest
  first ← reference 63 tasks rest
  others ← sharers tasks (first.0 + 1) first.1
  pages ← number 1 256 others.1
  finished pages.1 (record { tasks = first.0 ∷ others.0; pages = pages.0 })

-- whose thread it is
abbrev pub side_words : ℕ → List Word → Result Side Why
side_words tasks [] = Err why.Word
side_words tasks (w ∷ ws) =
    if bytes_eq w (codes "task") then (reference 63 tasks ws >>= λ t. finished t.1 (Task t.0))
    else if bytes_eq w (codes "kernel") then finished ws Kernel
    else Err why.Word

-- a thread line after its first word
unfoldable pub thread_line : ℕ → ℕ → List Word → Result Side Why
thread_line next tasks ws = in_order next 31 ws >>= λ rest. side_words tasks rest

-- a word of the order line, where so many threads are declared and so many words were before it
abbrev pub turn : ℕ → ℕ → List Word → Result (ℕ × List Word) Why
turn threads count [] = Err why.Word
turn threads count (w ∷ ws) =
    if nat_lt count 200000 then reference 31 threads (w ∷ ws)
    else if is_plain w then Err why.Limit
    else Err why.Number

-- all words of the order line
unfoldable pub order_words : ℕ → Plan → List Word → Result Plan Why
order_words threads s [] = Ok s
order_words threads s (w ∷ ws) = turn threads (length s.order) (w ∷ ws) >>= λ n. order_words threads (record s { order = s.order ++ n.0 ∷ [] }) ws

-- one thing more is declared
abbrev pub with_task : Plan → TaskBoot → Plan
with_task s t = record s { boot = record s.boot { tasks = s.boot.tasks ++ t ∷ [] } }

abbrev pub with_object : Plan → ObjBoot → Plan
with_object s o = record s { boot = record s.boot { objects = s.boot.objects ++ o ∷ [] } }

abbrev pub with_thread : Plan → Side → Plan
with_thread s side = record s { boot = record s.boot { sides = s.boot.sides ++ side ∷ [] }; scripts = s.scripts ++ [] ∷ [] }

-- the thread that was declared last
abbrev pub last_thread : Plan → ℕ
last_thread s = length s.scripts - 1

abbrev pub with_call : Plan → Call → Plan
with_call s call = record s { scripts = slice_set s.scripts (last_thread s) (slice_index_or s.scripts (last_thread s) [] ++ call ∷ []) }

-- what the lines so far declare, and where they end
pub data Front : Type 0 where
  start : Front
  headed : Bool → Front
  reading : Place → Plan → Front

abbrev pub is_ended : Place → Bool
is_ended place.Ended = true
is_ended _ = false

-- a call line of the last thread: its side decides before the number of calls, and that before its words
unfoldable pub script_line : Plan → Word → List Word → Result Front Why
script_line s w ws = elim (verb_of w) [
  | None ↦ Err why.Word
  | Some v ↦
      if same (is_task_verb v) (is_some (task_of_side (slice_index_or s.boot.sides (last_thread s) Kernel))) then (
      if nat_lt (call_count s.scripts) 200000
      then (call_of (length s.boot.tasks) (length s.boot.objects) v ws >>= λ call. Ok (reading place.Script (with_call s call)))
      else Err why.Limit)
      else Err why.WrongSide
]

-- a thread line or the order line
unfoldable pub later_line : Plan → Word → List Word → Result Front Why
later_line s w ws =
    if bytes_eq w (codes "thread") then (thread_line (length s.boot.sides) (length s.boot.tasks) ws >>= λ side. Ok (reading place.Script (with_thread s side)))
    else if bytes_eq w (codes "order") then (order_words (length s.boot.sides) s ws >>= λ t. Ok (reading place.Ordered t))
    else Err why.Word

-- an object line, or a later one
unfoldable pub declaring_line : Plan → Word → List Word → Result Front Why
declaring_line s w ws =
    if bytes_eq w (codes "object") then (object_line (length s.boot.tasks) (length s.boot.objects) ws >>= λ o. Ok (reading place.Objects (with_object s o)))
    else later_line s w ws

unfoldable pub line_at : Place → Plan → Word → List Word → Result Front Why
line_at place.Tasks s w ws =
    if bytes_eq w (codes "task") then (task_line s.form (length s.boot.tasks) ws >>= λ t. Ok (reading place.Tasks (with_task s t)))
    else declaring_line s w ws
line_at place.Objects s w ws = declaring_line s w ws
line_at place.Script s w ws =
    if bytes_eq w (codes "thread") then later_line s w ws
    else if bytes_eq w (codes "order") then later_line s w ws
    else script_line s w ws
line_at place.Ordered s w ws =
    if bytes_eq w (codes "end") then finished ws (reading place.Ended s)
    else Err why.Word
line_at place.Ended s w ws = Err why.AfterEnd

-- nothing declared
abbrev pub opened : Form → Params → Plan
opened form params = record { form = form; boot = record { params = params; tasks = []; objects = []; sides = [] }; scripts = []; order = [] }

-- one line more; a line has a word at least
unfoldable pub step : Front → List Word → Result Front Why
step f [] = Err why.Word
step start (w ∷ ws) = head_line w ws >>= λ first. Ok (headed first)
step (headed first) (w ∷ ws) = system_line first w ws >>= λ said. Ok (reading place.Tasks (opened said.0 said.1))
step (reading place s) (w ∷ ws) = line_at place s w ws

-- a scenario that was read, the lines after it, and the number of the first of them
pub record Read : Type 0 where
  pub plan : Plan
  pub behind : List (List ℕ)
  pub number : ℕ

-- Reads from line n on up to the end line. The last of the lines is what no line feed ends.
unfoldable pub front_from : Front → ℕ → List (List ℕ) → Result Read (ℕ × Why)
front_from f n [] = Err (n, why.NoEnd)
front_from (reading place.Ended s) n (line ∷ lines) = Ok (record { plan = s; behind = line ∷ lines; number = n })
front_from f n (last ∷ []) = Err (n, why.NoEnd)
front_from f n (line ∷ next ∷ lines) = elim (step f (words_of line)) [
  | Ok g ↦ front_from g (n + 1) (next ∷ lines)
  | Err e ↦ Err (n, e)
]

-- the scenario that a text begins with, or its first fault
abbrev pub front_of : List ℕ → Result Read (ℕ × Why)
front_of text = front_from start 1 (lines_of text)

-- nothing may follow
unfoldable pub alone : Read → Result Plan (ℕ × Why)
alone r = elim r.behind [
  | [] ↦ Ok r.plan
  | line ∷ lines ↦ elim line [
    | [] ↦ elim lines [ [] ↦ Ok r.plan | next ∷ rest ↦ Err (r.number, why.AfterEnd) ]
    | b ∷ bs ↦ Err (r.number, why.AfterEnd)
  ]
]

abbrev pub whole : Result Read (ℕ × Why) → Result Plan (ℕ × Why)
whole (Ok r) = alone r
whole (Err e) = Err e

-- the scenario that a text is, or its first fault
unfoldable pub scenario_of : List ℕ → Result Plan (ℕ × Why)
scenario_of text = whole (front_of text)
