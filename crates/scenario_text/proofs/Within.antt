-- No line of the form is refused because bytes follow.
use Rattle.std.proofs.Common.{◌≡◌, ℕ, ◌+◌, Bool, true, false, cond, leb, ltb, ◌&&◌, eqb, List, [], ◌∷◌, ◌++◌, length, get_or, Option, Some, None, Result, Ok, Err, refl, sym, ap, ◌∙◌, subst, inl, inr}
use Rattle.std.specs.Prelude.{codes, is_some}
use Rattle.std.specs.Str.{bytes_eq}
use Rattle.std.specs.Str.Parse.{digits_value}
use Rattle.kern_ids.specs.declared.faults.Why.{Why}
use Rattle.kern_ids.specs.declared.faults.Why.TheVariants as why
use Rattle.kern_ids.specs.declared.faults.ReadFault.{ReadFault}
use Rattle.kern_ids.specs.declared.faults.ReadFault.TheVariants as faults
use Rattle.kernel_model.specs.Scenario.{Plan, call_count}
use Rattle.kernel_model.specs.Histories.{same}
use Rattle.kernel_model.specs.Events.{task_of_side}
use Rattle.kernel_model.specs.declared.boot.Side.TheVariants.{Kernel}
use Rattle.kernel_model.specs.declared.scenario.Form.{Form}
use Rattle.kernel_model.specs.declared.scenario.Form.TheVariants.{One, Two}
use Rattle.line_text.specs.Cut.{Word, words_of, lines_of}
use Rattle.line_text.specs.Numbers.{is_plain, number_in}
use Rattle.line_text.specs.Hex.{hex_bytes, bytes_in}
use Rattle.line_text.specs.Words.{◌>>=◌, fixed, choice, number, in_order, reference, hex, finished}
use Rattle.line_text.specs.declared.verb.Verb.{Verb}
use Rattle.line_text.specs.declared.verb.Verb.TheVariants as verb
use Rattle.line_text.specs.Verbs.{verb_of, is_task_verb}
use Rattle.line_text.specs.Calls.{only_object, limit, write_line, read_line, set_line, active_line, band_line, limits_line, call_of}
use Rattle.scenario_text.specs.declared.place.Place.TheVariants as place
use Rattle.scenario_text.specs.Grammar.{head_line, form_words, system_line, ageing_words, last_word, task_line, sharer_from, sharers, object_line, side_words, thread_line, turn, order_words, last_thread, with_call, Front, start, headed, reading, script_line, later_line, declaring_line, line_at, step, Read, front_from, front_of}
use Rattle.scenario_text.specs.Fronts.{Taken, taken_of, front_taken, FrontGives}
use Rattle.std.proofs.lemmas.Bool.{false≢true}
use Rattle.scenario_text.proofs.LineLemmas.{is_open, go, front-last, front-next, front-ended}
use Rattle.scenario_text.proofs.Runs.{open_or}

abbrev is_after : Why → Bool
is_after why.AfterEnd = true
is_after _ = false

-- not refused for that
abbrev Within : {A : Type 0} → Result A Why → Type 0
Within (Ok x) = Unit {0}
Within (Err e) = is_after e ≡ false

bind_in : {A B : Type 0} (r : Result A Why) (f : A → Result B Why) → Within r → ((x : A) → Within (f x)) → Within (r >>= f)
bind_in (Ok x) f a b = b x
bind_in (Err e) f a b = a

if_in : {A : Type 0} (b : Bool) (x y : Result A Why) → Within x → Within y → Within (cond b x y)
if_in true x y p q = p
if_in false x y p q = q

-- ---- words

fixed_in : (expected : Word) (ws : List Word) → Within (fixed expected ws)
fixed_in expected [] = refl
fixed_in expected (w ∷ ws) = if_in (bytes_eq w expected) (Ok ws) (Err why.Word) tt refl

choice_in : (first second : Word) (ws : List Word) → Within (choice first second ws)
choice_in first second [] = refl
choice_in first second (w ∷ ws) = if_in (bytes_eq w first) (Ok (true, ws)) (cond (bytes_eq w second) (Ok (false, ws)) (Err why.Word)) tt (if_in (bytes_eq w second) (Ok (false, ws)) (Err why.Word) tt refl)

word_in : (low high : ℕ) (w : Word) → Within (number_in low high w)
unfolding number_in
word_in low high w =
    let v = digits_value 10 w in
    if_in (is_plain w) (cond (leb low v && leb v high) (Ok v) (Err why.Limit)) (Err why.Number) (if_in (leb low v && leb v high) (Ok v) (Err why.Limit) tt refl) refl

number_in' : (low high : ℕ) (ws : List Word) → Within (number low high ws)
number_in' low high [] = refl
number_in' low high (w ∷ ws) = bind_in (number_in low high w) (λ n. Ok (n, ws)) (word_in low high w) (λ n. tt)

order_in : (next high : ℕ) (ws : List Word) → Within (in_order next high ws)
order_in next high ws =
    bind_in (number 0 high ws) _ (number_in' 0 high ws) (λ n. if_in (ltb n.0 next) (Err why.Repeated) (cond (ltb next n.0) (Err why.Unknown) (Ok n.1)) refl (if_in (ltb next n.0) (Err why.Unknown) (Ok n.1) refl tt))

reference_in : (high count : ℕ) (ws : List Word) → Within (reference high count ws)
reference_in high count ws = bind_in (number 0 high ws) _ (number_in' 0 high ws) (λ n. if_in (ltb n.0 count) (Ok n) (Err why.Unknown) tt refl)

bytes_by : (word : Word) (o : Option (List ℕ)) → hex_bytes word ≡ o → Within (bytes_in word)
unfolding bytes_in
bytes_by word None is = rw (bytes_in, is) refl
bytes_by word (Some bs) is =
    rw (bytes_in, is) (if_in (eqb (length bs) 0) (Err why.Word) (cond (ltb 256 (length bs)) (Err why.Limit) (Ok bs)) refl (if_in (ltb 256 (length bs)) (Err why.Limit) (Ok bs) refl tt))

hex_in : (ws : List Word) → Within (hex ws)
hex_in [] = refl
hex_in (w ∷ ws) = bind_in (bytes_in w) (λ b. Ok (b, ws)) (bytes_by w (hex_bytes w) refl) (λ b. tt)

end_in : {A : Type 0} (ws : List Word) (x : A) → Within (finished ws x)
end_in [] x = tt
end_in (w ∷ ws) x = refl

limit_in : (ws : List Word) → Within (limit ws)
limit_in ws = bind_in (number 0 65536 ws) _ (number_in' 0 65536 ws) (λ n. bind_in (choice (codes "fatal") (codes "soft") n.1) _ (choice_in (codes "fatal") (codes "soft") n.1) (λ f. tt))

-- ---- calls

only_in : (objects : ℕ) (ws : List Word) → Within (only_object objects ws)
only_in objects ws = bind_in (reference 255 objects ws) _ (reference_in 255 objects ws) (λ o. end_in o.1 o.0)

write_in : (objects : ℕ) (ws : List Word) → Within (write_line objects ws)
unfolding write_line
write_in objects ws =
    bind_in (reference 255 objects ws) _ (reference_in 255 objects ws) (λ o. bind_in (number 0 0xffff_ffff o.1) _ (number_in' 0 0xffff_ffff o.1) (λ f. bind_in (hex f.1) _ (hex_in f.1) (λ b. end_in b.1 _)))

read_in : (objects : ℕ) (ws : List Word) → Within (read_line objects ws)
unfolding read_line
read_in objects ws =
    bind_in (reference 255 objects ws) _ (reference_in 255 objects ws) (λ o. bind_in (number 0 0xffff_ffff o.1) _ (number_in' 0 0xffff_ffff o.1) (λ f. bind_in (number 0 0xffff_ffff f.1) _ (number_in' 0 0xffff_ffff f.1) (λ b. end_in b.1 _)))

set_in : (objects : ℕ) (ws : List Word) → Within (set_line objects ws)
unfolding set_line
set_in objects ws = bind_in (reference 255 objects ws) _ (reference_in 255 objects ws) (λ o. bind_in (number 0 0xffff_ffff o.1) _ (number_in' 0 0xffff_ffff o.1) (λ b. end_in b.1 _))

active_in : (ws : List Word) → Within (active_line ws)
unfolding active_line
active_in ws = bind_in (number 0 1 ws) _ (number_in' 0 1 ws) (λ b. end_in b.1 _)

band_in : (tasks : ℕ) (ws : List Word) → Within (band_line tasks ws)
unfolding band_line
band_in tasks ws = bind_in (reference 63 tasks ws) _ (reference_in 63 tasks ws) (λ t. bind_in (number 0 20 t.1) _ (number_in' 0 20 t.1) (λ b. end_in b.1 _))

limits_in : (tasks : ℕ) (ws : List Word) → Within (limits_line tasks ws)
unfolding limits_line
limits_in tasks ws = bind_in (reference 63 tasks ws) _ (reference_in 63 tasks ws) (λ t. bind_in (limit t.1) _ (limit_in t.1) (λ a. bind_in (limit a.1) _ (limit_in a.1) (λ b. end_in b.1 _)))

object_in : {A : Type 0} (make : ℕ → A) (objects : ℕ) (ws : List Word) → Within (only_object objects ws >>= λ o. Ok (make o))
object_in make objects ws = bind_in (only_object objects ws) _ (only_in objects ws) (λ o. tt)

call_in : (tasks objects : ℕ) (v : Verb) (ws : List Word) → Within (call_of tasks objects v ws)
unfolding call_of
call_in tasks objects verb.Map ws = object_in _ objects ws
call_in tasks objects verb.Attach ws = object_in _ objects ws
call_in tasks objects verb.Unmap ws = object_in _ objects ws
call_in tasks objects verb.Get ws = object_in _ objects ws
call_in tasks objects verb.Write ws = write_in objects ws
call_in tasks objects verb.Read ws = read_in objects ws
call_in tasks objects verb.Set ws = set_in objects ws
call_in tasks objects verb.Active ws = active_in ws
call_in tasks objects verb.Band ws = band_in tasks ws
call_in tasks objects verb.Limits ws = limits_in tasks ws
call_in tasks objects verb.Ledger ws = end_in ws _
call_in tasks objects verb.Exit ws = end_in ws _
call_in tasks objects verb.Purge ws = end_in ws _
call_in tasks objects verb.Force ws = end_in ws _
call_in tasks objects verb.Scan ws = end_in ws _
call_in tasks objects verb.Tick ws = end_in ws _
call_in tasks objects verb.Jetsam ws = end_in ws _
call_in tasks objects verb.Info ws = end_in ws _
call_in tasks objects verb.Volatiles ws = end_in ws _

-- ---- declaring lines

head_in : (w : Word) (ws : List Word) → Within (head_line w ws)
head_in w ws = if_in (bytes_eq w (codes "jetlab")) _ (Err why.Word) (bind_in (choice (codes "1") (codes "2") ws) _ (choice_in (codes "1") (codes "2") ws) (λ f. end_in f.1 f.0)) refl

-- a fixed word and a number
field_in : {B : Type 0} (word : Word) (low high : ℕ) (ws : List Word) (f : ℕ × List Word → Result B Why) → ((x : ℕ × List Word) → Within (f x)) → Within (fixed word ws >>= λ rest. number low high rest >>= f)
field_in word low high ws f more = bind_in (fixed word ws) _ (fixed_in word ws) (λ rest. bind_in (number low high rest) f (number_in' low high rest) more)

form_in : (first : Bool) (ws : List Word) → Within (form_words first ws)
unfolding form_words
form_in true ws = field_in (codes "delay") 1 1000 ws _ (λ d. tt)
form_in false ws = tt

system_in : (first : Bool) (w : Word) (ws : List Word) → Within (system_line first w ws)
unfolding system_line
system_in first w ws =
    if_in (bytes_eq w (codes "system")) _ (Err why.Word) (field_in (codes "frames") 1 4096 ws _ (λ a. field_in (codes "target") 0 4096 a.1 _ (λ b. field_in (codes "inactive") 0 4096 b.1 _ (λ c. field_in (codes "store") 0 65536 c.1 _ (λ d. field_in (codes "critical") 0 4096 d.1 _ (λ e. bind_in (form_words first e.1) _ (form_in first e.1) (λ g. end_in g.1 _))))))) refl

ages_in : (form : Form) (ws : List Word) → Within (ageing_words form ws)
unfolding ageing_words
ages_in (One delay) ws = tt
ages_in Two ws = field_in (codes "delay") 1 1000 ws _ (λ d. field_in (codes "ageing") 1 2 d.1 _ (λ a. tt))

last_in : (word : Word) (ws : List Word) → Within (last_word word ws)
last_in word [] = tt
last_in word (w ∷ ws) = if_in (bytes_eq w word) (finished ws true) (Err why.Word) (end_in ws true) refl

limited_in : {B : Type 0} (word : Word) (ws : List Word) (f : _ → Result B Why) → ((x : _) → Within (f x)) → Within (fixed word ws >>= λ rest. limit rest >>= f)
limited_in word ws f more = bind_in (fixed word ws) _ (fixed_in word ws) (λ rest. bind_in (limit rest) f (limit_in rest) more)

task_in : (form : Form) (next : ℕ) (ws : List Word) → Within (task_line form next ws)
unfolding task_line
task_in form next ws =
    bind_in (in_order next 63 ws) _ (order_in next 63 ws) (λ a. field_in (codes "band") 0 20 a _ (λ b. limited_in (codes "active") b.1 _ (λ c. limited_in (codes "inactive") c.1 _ (λ d. bind_in (ageing_words form d.1) _ (ages_in form d.1) (λ e. bind_in (last_word (codes "internal") e.1) _ (last_in (codes "internal") e.1) (λ i. tt))))))

sharers_in : (tasks bound : ℕ) (ws : List Word) → Within (sharers tasks bound ws)
unfolding sharers
sharers_in tasks bound [] = refl
sharers_in tasks bound (w ∷ ws) =
    if_in (bytes_eq w (codes "pages")) (Ok ([], ws)) _ tt (if_in (is_plain w) _ (Err why.Word) (bind_in (number_in 0 63 w) _ (word_in 0 63 w) (λ n. if_in (ltb n tasks) (sharer_from bound n (sharers tasks (n + 1) ws)) (Err why.Unknown)
    (if_in (ltb n bound) (Err why.Repeated) _ refl (bind_in (sharers tasks (n + 1) ws) _ (sharers_in tasks (n + 1) ws) (λ r. tt))) refl)) refl)

object_line_in : (tasks next : ℕ) (ws : List Word) → Within (object_line tasks next ws)
unfolding object_line
object_line_in tasks next ws =
    bind_in (in_order next 255 ws) _ (order_in next 255 ws) (λ a. bind_in (fixed (codes "task") a) _ (fixed_in (codes "task") a) (λ b. bind_in (reference 63 tasks b) _ (reference_in 63 tasks b) (λ c. bind_in (sharers tasks (c.0 + 1) c.1) _ (sharers_in tasks (c.0 + 1) c.1) (λ d. bind_in (number 1 256 d.1) _ (number_in' 1 256 d.1) (λ e. end_in e.1 _)))))

side_in : (tasks : ℕ) (ws : List Word) → Within (side_words tasks ws)
side_in tasks [] = refl
side_in tasks (w ∷ ws) =
    if_in (bytes_eq w (codes "task")) _ _ (bind_in (reference 63 tasks ws) _ (reference_in 63 tasks ws) (λ t. end_in t.1 _)) (if_in (bytes_eq w (codes "kernel")) (finished ws Kernel) (Err why.Word) (end_in ws Kernel) refl)

thread_in : (next tasks : ℕ) (ws : List Word) → Within (thread_line next tasks ws)
unfolding thread_line
thread_in next tasks ws = bind_in (in_order next 31 ws) _ (order_in next 31 ws) (λ rest. side_in tasks rest)

turn_in : (threads count : ℕ) (w : Word) (ws : List Word) → Within (turn threads count (w ∷ ws))
turn_in threads count w ws = if_in (ltb count 200000) (reference 31 threads (w ∷ ws)) _ (reference_in 31 threads (w ∷ ws)) (if_in (is_plain w) (Err why.Limit) (Err why.Number) refl refl)

turns_in : (threads : ℕ) (s : Plan) (ws : List Word) → Within (order_words threads s ws)
unfolding order_words
turns_in threads s [] = tt
turns_in threads s (w ∷ ws) = bind_in (turn threads (length s.order) (w ∷ ws)) _ (turn_in threads (length s.order) w ws) (λ n. turns_in threads (record s { order = s.order ++ n.0 ∷ [] }) ws)

-- ---- all lines

script_by : (s : Plan) (w : Word) (ws : List Word) (o : Option Verb) → verb_of w ≡ o → Within (script_line s w ws)
unfolding script_line
script_by s w ws None is = rw (script_line, is) refl
script_by s w ws (Some v) is =
    let tasks = length s.boot.tasks in
    let objects = length s.boot.objects in
    let fits = same (is_task_verb v) (is_some (task_of_side (get_or s.boot.sides (last_thread s) Kernel))) in
    rw (script_line, is) (if_in fits _ (Err why.WrongSide) (if_in (ltb (call_count s.scripts) 200000) _ (Err why.Limit) (bind_in (call_of tasks objects v ws) (λ call. Ok (reading place.Script (with_call s call))) (call_in tasks objects v ws) (λ c. tt)) refl) refl)

later_in : (s : Plan) (w : Word) (ws : List Word) → Within (later_line s w ws)
unfolding later_line
later_in s w ws =
    if_in (bytes_eq w (codes "thread")) _ _ (bind_in (thread_line (length s.boot.sides) (length s.boot.tasks) ws) _ (thread_in (length s.boot.sides) (length s.boot.tasks) ws) (λ x. tt))
    (if_in (bytes_eq w (codes "order")) _ (Err why.Word) (bind_in (order_words (length s.boot.sides) s ws) _ (turns_in (length s.boot.sides) s ws) (λ t. tt)) refl)

declaring_in : (s : Plan) (w : Word) (ws : List Word) → Within (declaring_line s w ws)
unfolding declaring_line
declaring_in s w ws =
    if_in (bytes_eq w (codes "object")) _ _ (bind_in (object_line (length s.boot.tasks) (length s.boot.objects) ws) _ (object_line_in (length s.boot.tasks) (length s.boot.objects) ws) (λ o. tt)) (later_in s w ws)

step_in : (f : Front) (ws : List Word) → is_open f ≡ true → Within (step f ws)
unfolding step line_at
step_in start [] o = refl
step_in (headed first) [] o = refl
step_in (reading p s) [] o = refl
step_in start (w ∷ ws) o = bind_in (head_line w ws) _ (head_in w ws) (λ x. tt)
step_in (headed first) (w ∷ ws) o = bind_in (system_line first w ws) _ (system_in first w ws) (λ x. tt)
step_in (reading place.Tasks s) (w ∷ ws) o =
    if_in (bytes_eq w (codes "task")) _ (declaring_line s w ws) (bind_in (task_line s.form (length s.boot.tasks) ws) _ (task_in s.form (length s.boot.tasks) ws) (λ t. tt)) (declaring_in s w ws)
step_in (reading place.Objects s) (w ∷ ws) o = declaring_in s w ws
step_in (reading place.Script s) (w ∷ ws) o =
    if_in (bytes_eq w (codes "thread")) (later_line s w ws) _ (later_in s w ws) (if_in (bytes_eq w (codes "order")) (later_line s w ws) (script_line s w ws) (later_in s w ws) (script_by s w ws (verb_of w) refl))
step_in (reading place.Ordered s) (w ∷ ws) o = if_in (bytes_eq w (codes "end")) (finished ws (reading place.Ended s)) (Err why.Word) (end_in ws (reading place.Ended s)) refl
step_in (reading place.Ended s) (w ∷ ws) o = absurd cc

-- ---- all of the front

abbrev WithinRead : Result Read (ℕ × Why) → Type 0
WithinRead (Ok r) = Unit {0}
WithinRead (Err x) = is_after x.1 ≡ false

go_in : (said : Result Front Why) (n : ℕ) (lines : List (List ℕ)) → Within said → ((g : Front) → WithinRead (front_from g (n + 1) lines)) → WithinRead (go said n lines)
go_in (Ok g) n lines w more = more g
go_in (Err e) n lines w more = w

no_lines : (f : Front) (n : ℕ) → WithinRead (front_from f n [])
unfolding front_from
no_lines f n = refl

ended_in : (f : Front) (n : ℕ) (line : List ℕ) (lines : List (List ℕ)) (s : Plan) → f ≡ reading place.Ended s → WithinRead (front_from f n (line ∷ lines))
ended_in f n line lines s e = subst WithinRead (sym (ap (λ (g : Front). front_from g n (line ∷ lines)) e ∙ front-ended s n line lines)) tt

front_in : (f : Front) (n : ℕ) (lines : List (List ℕ)) → WithinRead (front_from f n lines)
front_in f n [] = no_lines f n
front_in f n (line ∷ []) = elim (open_or f) [
  | inl o ↦ subst WithinRead (sym (front-last f n line o)) refl
  | inr d ↦ ended_in f n line [] d.0 d.1
]
front_in f n (line ∷ next ∷ lines) = elim (open_or f) [
  | inl o ↦ subst WithinRead (sym (front-next f n line next lines o)) (go_in (step f (words_of line)) n (next ∷ lines) (step_in f (words_of line) o) (λ g. front_in g (n + 1) (next ∷ lines)))
  | inr d ↦ ended_in f n line (next ∷ lines) d.0 d.1
]

abbrev after_end : ℕ → Result Taken (ℕ × Why)
after_end n = Err (n, why.AfterEnd)

abbrev fault_why : Result Taken (ℕ × Why) → Bool
fault_why (Ok r) = false
fault_why (Err x) = is_after x.1

within_taken : (text : List ℕ) (said : Result Read (ℕ × Why)) → WithinRead said → fault_why (taken_of text said) ≡ false
within_taken text (Ok r) w = refl
within_taken text (Err x) w = w

pub front-never : (r : Result Taken ReadFault) (text : List ℕ) (n : ℕ) → FrontGives r (front_taken text) → r ≡ Err (faults.Bad n why.AfterEnd) → ⊥
front-never r text n g e =
    let said : front_taken text ≡ after_end n = subst (λ (x : Result Taken ReadFault). FrontGives x (front_taken text)) e g in
    false≢true (sym (within_taken text (front_of text) (front_in start 1 (lines_of text))) ∙ ap fault_why said)
