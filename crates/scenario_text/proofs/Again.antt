-- What is written of each thing is read again.
use Rattle.std.proofs.Common.{◌≡◌, ℕ, ◌+◌, ◌<◌, ◌≤◌, ◌^◌, Bool, true, false, cond, leb, ◌&&◌, List, [], ◌∷◌, ◌++◌, length, map, Some, None, Ok, Err, refl, sym, ap, ◌∙◌, arith, All, inl, inr, append_assoc, append-nil}
use Rattle.std.specs.Prelude.{codes}
use Rattle.std.specs.Fmt.{decimal}
use Rattle.std.specs.Str.{bytes_eq}
use Rattle.std.specs.Str.Parse.{digits_value}
use Rattle.std.proofs.lemmas.Bool.{lt-ltb, le-ltb, cases_Bool}
use Rattle.std.proofs.lemmas.List.{length-append}
use Rattle.std.proofs.lemmas.List.Elements.{All-head, All-tail}
use Rattle.kern_ids.specs.declared.faults.Why.TheVariants as why
use Rattle.kern_ids.specs.declared.calls.Call.{Call}
use Rattle.kern_ids.specs.declared.calls.Limit.{Limit}
use Rattle.kernel_model.specs.declared.boot.Params.{Params}
use Rattle.kernel_model.specs.declared.boot.TaskBoot.{TaskBoot}
use Rattle.kernel_model.specs.declared.boot.ObjBoot.{ObjBoot}
use Rattle.kernel_model.specs.declared.boot.Side.{Side}
use Rattle.kernel_model.specs.declared.boot.Side.TheVariants.{Task, Kernel}
use Rattle.kernel_model.specs.declared.scenario.Form.{Form}
use Rattle.kernel_model.specs.declared.scenario.Form.TheVariants.{One, Two}
use Rattle.kernel_model.specs.Scenario.{Plan, FitsForm, IsValidForm, call_count}
use Rattle.kernel_model.specs.Valid.{IsValidParams, IsValidTask, IsValidObject, IsValidSide, IsRisingFrom}
use Rattle.line_text.specs.declared.verb.Verb.{Verb}
use Rattle.line_text.specs.Cut.{Word}
use Rattle.line_text.specs.Numbers.{is_plain, number_in}
use Rattle.line_text.specs.Words.{choice}
use Rattle.line_text.specs.Verbs.{verb_of, verb_text, verb_of_call}
use Rattle.line_text.specs.Calls.{fatal_word, limit, limit_words, call_arguments, HasLine}
use Rattle.line_text.proofs.WordLaws.{guard_then, number_in_again, number_again, in_order_again, reference_again}
use Rattle.line_text.proofs.CallLaws.{verb_again, call_again}
use Rattle.scenario_text.specs.declared.place.Place.TheVariants as place
use Rattle.scenario_text.specs.Grammar as grammar
use Rattle.scenario_text.specs.Text as text
use Rattle.scenario_text.proofs.Spelled.{word_takes, version, is_first, IsSide}

-- ---- the first two lines

pub head_again : (first : Bool) → grammar.head_line (codes "jetlab") (version first ∷ []) ≡ Ok first
head_again true = refl
head_again false = refl

form_again : (form : Form) → IsValidForm form → grammar.form_words (is_first form) (text.delay_words form) ≡ Ok (form, [])
unfolding grammar.form_words
form_again (One delay) v = rw (number_again 1 1000 delay [] (omega arith) v.some v.most) refl
form_again Two v = refl

abbrev pub system_arguments : Form → Params → List Word
system_arguments form p = codes "frames" ∷ decimal p.frames ∷ codes "target" ∷ decimal p.target ∷ codes "inactive" ∷ decimal p.inactive ∷ codes "store" ∷ decimal p.store ∷ codes "critical" ∷ decimal p.critical ∷ text.delay_words form

pub system_again : (form : Form) (p : Params) → IsValidForm form → IsValidParams p → grammar.system_line (is_first form) (codes "system") (system_arguments form p) ≡ Ok (form, p)
unfolding grammar.system_line
system_again form p f v =
    rw (
      grammar.system_line,
      number_again 1 4096 p.frames _ (omega arith) v.some_frames v.frames,
      number_again 0 4096 p.target _ (omega arith) (omega arith) v.target,
      number_again 0 4096 p.inactive _ (omega arith) (omega arith) v.inactive,
      number_again 0 65536 p.store _ (omega arith) (omega arith) v.store,
      number_again 0 4096 p.critical _ (omega arith) (omega arith) v.critical,
      form_again form f,
    ) refl

-- ---- a task

fatal_again : (fatal : Bool) (rest : List Word) → choice (codes "fatal") (codes "soft") (fatal_word fatal ∷ rest) ≡ Ok (fatal, rest)
fatal_again true rest = refl
fatal_again false rest = refl

limit_again : (l : Limit) (rest : List Word) → l.pages ≤ 65536 → limit (decimal l.pages ∷ fatal_word l.fatal ∷ rest) ≡ Ok (l, rest)
limit_again l rest small = rw (number_again 0 65536 l.pages (fatal_word l.fatal ∷ rest) (omega arith) (omega arith) small, fatal_again l.fatal rest) refl

ages_again : (form : Form) (t : TaskBoot) (rest : List Word) → IsValidTask t → FitsForm form t → grammar.ageing_words form (text.ages_words form t ++ rest) ≡ Ok ((t.delay, t.ageing), rest)
unfolding grammar.ageing_words
ages_again (One delay) t rest v f = rw (f.0, f.1) refl
ages_again Two t rest v f = rw (number_again 1 1000 t.delay _ (omega arith) v.delay.some v.delay.most, number_again 1 2 t.ageing _ (omega arith) v.ages v.ageing) refl

last_again : (b : Bool) → grammar.last_word (codes "internal") (cond b (codes "internal" ∷ []) []) ≡ Ok b
last_again true = refl
last_again false = refl

abbrev pub task_arguments : Form → ℕ → TaskBoot → List Word
task_arguments form n t = decimal n ∷ codes "band" ∷ decimal t.band ∷ codes "active" ∷ (limit_words t.active ++ codes "inactive" ∷ (limit_words t.inactive ++ (text.ages_words form t ++ text.internal_words t)))

pub task_again : (form : Form) (next : ℕ) (t : TaskBoot) → next ≤ 63 → IsValidTask t → FitsForm form t → t.band ≤ 20 → grammar.task_line form next (task_arguments form next t) ≡ Ok t
unfolding grammar.task_line
task_again form next t room v f band =
    rw (grammar.task_line, in_order_again next 63 _ (omega arith) room, number_again 0 20 t.band _ (omega arith) (omega arith) band, limit_again t.active _ v.active, limit_again t.inactive _ v.inactive, ages_again form t _ v f, last_again t.internal) refl

-- ---- an object

plain-decimal : (n : ℕ) → n < 2 ^ 64 → is_plain (decimal n) ≡ true
unfolding number_in
plain-decimal n small =
    let v = digits_value 10 (decimal n) in
    let g = guard_then (is_plain (decimal n)) (cond (leb 0 v && leb v n) (Ok v) (Err why.Limit)) why.Number n (number_in_again 0 n n small (omega arith) (omega arith)) in
    g.0

no-pages : (n : ℕ) → n < 2 ^ 64 → bytes_eq (decimal n) (codes "pages") ≡ false
no-pages n small = elim (cases_Bool (bytes_eq (decimal n) (codes "pages"))) [
  | inl is ↦
      let plain : is_plain (codes "pages") ≡ true = sym (ap is_plain (word_takes (decimal n) (codes "pages") is)) ∙ plain-decimal n small in
      absurd cc
  | inr not ↦ not
]

sharers_again : (tasks bound : ℕ) (ts : List ℕ) (rest : List Word) → tasks ≤ 64 → IsRisingFrom bound ts → All (λ t. t < tasks) ts → grammar.sharers tasks bound (map decimal ts ++ codes "pages" ∷ rest) ≡ Ok (ts, rest)
unfolding grammar.sharers
sharers_again tasks bound [] rest few r below = refl
sharers_again tasks bound (t ∷ ts) rest few r below =
    let declared : t < tasks = All-head (λ t. t < tasks) t ts below in
    rw (
      no-pages t (omega (arith, declared)),
      plain-decimal t (omega (arith, declared)),
      number_in_again 0 63 t (omega arith) (omega arith) (omega (arith, declared)),
      lt-ltb t tasks declared,
      le-ltb t bound r.0,
      sharers_again tasks (t + 1) ts rest few r.1 (All-tail (λ t. t < tasks) t ts below),
    ) refl

abbrev pub object_arguments : ℕ → ObjBoot → List Word
object_arguments n o = decimal n ∷ codes "task" ∷ (map decimal o.tasks ++ codes "pages" ∷ decimal o.pages ∷ [])

object_by : (tasks next : ℕ) (ts : List ℕ) (pages : ℕ) → next ≤ 255 → tasks ≤ 64 → IsValidObject tasks (record { tasks = ts; pages = pages }) → grammar.object_line tasks next (object_arguments next (record { tasks = ts; pages = pages })) ≡ Ok (record { tasks = ts; pages = pages })
unfolding grammar.object_line
object_by tasks next [] pages room few v = let some = v.shared in absurd (omega (arith, some))
object_by tasks next (t ∷ ts) pages room few v =
    let declared : t < tasks = All-head (λ t. t < tasks) t ts v.declared in
    rw (
      grammar.object_line,
      in_order_again next 255 _ (omega arith) room,
      reference_again 63 tasks t _ (omega arith) (omega (arith, declared)) declared,
      sharers_again tasks (t + 1) ts _ few v.rising.1 (All-tail (λ t. t < tasks) t ts v.declared),
      number_again 1 256 pages [] (omega arith) v.some_pages v.pages,
    ) refl

pub object_again : (tasks next : ℕ) (o : ObjBoot) → next ≤ 255 → tasks ≤ 64 → IsValidObject tasks o → grammar.object_line tasks next (object_arguments next o) ≡ Ok o
object_again tasks next o room few v = object_by tasks next o.tasks o.pages room few v

-- ---- a thread

pub thread_again : (next tasks : ℕ) (side : Side) → next ≤ 31 → tasks ≤ 64 → IsValidSide tasks side → grammar.thread_line next tasks (decimal next ∷ text.side_words side) ≡ Ok side
unfolding grammar.thread_line
thread_again next tasks (Task t) room few v = rw (grammar.thread_line, in_order_again next 31 _ (omega arith) room, reference_again 63 tasks t [] (omega arith) (omega (arith, v)) v) refl
thread_again next tasks Kernel room few v = rw (grammar.thread_line, in_order_again next 31 _ (omega arith) room) refl

-- ---- the order

pub order_again : (threads : ℕ) (s : Plan) (ns : List ℕ) → threads ≤ 32 → All (λ n. n < threads) ns → length (s.order ++ ns) ≤ 200000 → grammar.order_words threads s (map decimal ns) ≡ Ok (record s { order = s.order ++ ns })
unfolding grammar.order_words
order_again threads s [] few below room = ap (λ (o : List ℕ). Ok (record s { order = o })) (sym (append-nil s.order))
order_again threads s (n ∷ ns) few below room =
    let declared : n < threads = All-head (λ n. n < threads) n ns below in
    let all = append_assoc s.order (n ∷ []) ns in
    rw (grammar.order_words, lt-ltb (length s.order) 200000 (omega (arith, room, length-append s.order (n ∷ ns))), reference_again 31 threads n (map decimal ns) (omega arith) (omega (arith, declared)) declared)
    (order_again threads (record s { order = s.order ++ n ∷ [] }) ns few (All-tail (λ n. n < threads) n ns below) (rw all room) ∙ ap (λ (o : List ℕ). Ok (record s { order = o })) all)

-- ---- a call

pub script_again : (s : Plan) (call : Call) → length s.boot.tasks ≤ 64 → length s.boot.objects ≤ 256 → HasLine (length s.boot.tasks) (length s.boot.objects) call → IsSide s call → call_count s.scripts < 200000
    → grammar.script_line s (verb_text (verb_of_call call)) (call_arguments call) ≡ Ok (grammar.reading place.Script (grammar.with_call s call))
unfolding grammar.script_line
script_again s call tasks objects line side room =
    rw (grammar.script_line, verb_again (verb_of_call call), side, lt-ltb (call_count s.scripts) 200000 room, call_again (length s.boot.tasks) (length s.boot.objects) call tasks objects line) refl

-- a verb is no other word
pub no-verb : (v : Verb) (w : Word) → verb_of w ≡ None → bytes_eq (verb_text v) w ≡ false
no-verb v w none = elim (cases_Bool (bytes_eq (verb_text v) w)) [
  | inl is ↦
      let some : Some v ≡ None = sym (verb_again v) ∙ ap verb_of (word_takes (verb_text v) w is) ∙ none in
      absurd cc
  | inr not ↦ not
]
