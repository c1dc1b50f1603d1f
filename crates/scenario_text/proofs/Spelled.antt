-- What is read of a declaring line is spelled so.
use Rattle.std.proofs.Common.{◌≡◌, ℕ, ◌+◌, ◌<◌, ◌≤◌, ◌^◌, Bool, true, false, cond, ltb, List, [], ◌∷◌, ◌++◌, length, map, Result, Ok, Err, refl, sym, ap, ◌∙◌, arith, subst, All, ◌⊎◌, inl, inr, get_or, append_assoc, append-nil, Option, Some, None}
use Rattle.std.specs.Prelude.{codes, is_some}
use Rattle.std.specs.Fmt.{decimal}
use Rattle.std.specs.Str.{bytes_eq}
use Rattle.std.proofs.lemmas.Bool.{ltb-true, ltb-false}
use Rattle.std.proofs.lemmas.Slice.Eq.{bytes_eq-Decides}
use Rattle.std.proofs.lemmas.List.{length-append}
use Rattle.std.proofs.lemmas.List.Elements.{All-cons, All-nil}
use Rattle.kern_ids.specs.declared.faults.Why.{Why}
use Rattle.kern_ids.specs.declared.faults.Why.TheVariants as why
use Rattle.kern_ids.specs.declared.calls.Limit.{Limit}
use Rattle.kern_ids.specs.declared.calls.Call.{Call}
use Rattle.kernel_model.specs.declared.boot.Params.{Params}
use Rattle.kernel_model.specs.declared.boot.TaskBoot.{TaskBoot}
use Rattle.kernel_model.specs.declared.boot.ObjBoot.{ObjBoot}
use Rattle.kernel_model.specs.declared.boot.Side.{Side}
use Rattle.kernel_model.specs.declared.boot.Side.TheVariants.{Task, Kernel}
use Rattle.kernel_model.specs.declared.scenario.Form.{Form}
use Rattle.kernel_model.specs.declared.scenario.Form.TheVariants.{One, Two}
use Rattle.kernel_model.specs.Scenario.{Plan, FitsForm, IsValidForm, call_count}
use Rattle.kernel_model.specs.Histories.{same}
use Rattle.kernel_model.specs.Events.{task_of_side}
use Rattle.kernel_model.specs.Valid.{IsValidParams, IsDelay, IsValidTask, IsValidObject, IsValidSide, IsRisingFrom}
use Rattle.line_text.specs.Cut.{Word}
use Rattle.line_text.specs.Numbers.{is_plain, number_in}
use Rattle.line_text.specs.Words.{◌>>=◌, fixed, choice, number, in_order, reference, finished}
use Rattle.line_text.specs.declared.verb.Verb.{Verb}
use Rattle.line_text.specs.Verbs.{verb_of, verb_text, verb_of_call, is_task_verb}
use Rattle.line_text.specs.Calls.{limit, limit_words, call_words, call_of, HasLine}
use Rattle.line_text.proofs.GrammarLemmas.{bind_ok, ok_is, reference_takes}
use Rattle.line_text.proofs.WordLaws.{guard_then, guard_not, fixed_takes, number_in_takes, number_spelled, in_order_spelled, reference_spelled, finished_takes}
use Rattle.line_text.proofs.CallLaws.{choice_takes, call_takes, verb_takes}
use Rattle.scenario_text.specs.declared.place.Place.TheVariants as place
use Rattle.scenario_text.specs.Grammar as grammar
use Rattle.scenario_text.specs.Text as text
use Rattle.scenario_text.proofs.OrderLemmas.{turn-takes}
use Rattle.scenario_text.proofs.Runs.{not-ok}

-- ---- a word that is read, and what goes on behind it

pub word_takes : (w expected : Word) → bytes_eq w expected ≡ true → w ≡ expected
word_takes w expected e = let d = bytes_eq-Decides w expected in d.0 e

-- words that are read one after another
onto : {ws rest all : List Word} (f : List Word → List Word) → ws ≡ f rest → rest ≡ all → ws ≡ f all
onto f e h = e ∙ ap f h

pub front : {w v : Word} {ws all : List Word} → w ≡ v → ws ≡ all → w ∷ ws ≡ v ∷ all
front {w} {v} {ws} {all} p q = ap (λ (x : Word). x ∷ ws) p ∙ ap (λ (x : List Word). v ∷ x) q

pub fixed-then : {B : Type 0} (expected ws : _) (f : List Word → Result B Why) (y : B) → (fixed expected ws >>= f) ≡ Ok y → (rest : List Word) × (ws ≡ expected ∷ rest) × (f rest ≡ Ok y)
fixed-then expected ws f y e =
    let b = bind_ok (fixed expected ws) f y e in
    (b.0, fixed_takes expected ws b.0 b.1, b.2)

pub number-then : {B : Type 0} (low high : ℕ) (ws : List Word) (f : ℕ × List Word → Result B Why) (y : B) → high < 2 ^ 64 → (number low high ws >>= f) ≡ Ok y
    → (x : ℕ × List Word) × (ws ≡ decimal x.0 ∷ x.1) × (low ≤ x.0) × (x.0 ≤ high) × (f x ≡ Ok y)
number-then low high ws f y small e =
    let b = bind_ok (number low high ws) f y e in
    let t = number_spelled low high ws b.0 small b.1 in
    (b.0, t.0, t.1, t.2, b.2)

-- ---- the first two lines

abbrev pub version : Bool → Word
version first = cond first (codes "1") (codes "2")

pub head_takes : (w : Word) (ws : List Word) (first : Bool) → grammar.head_line w ws ≡ Ok first → w ∷ ws ≡ codes "jetlab" ∷ version first ∷ []
head_takes w ws first e =
    let g = guard_then (bytes_eq w (codes "jetlab")) (choice (codes "1") (codes "2") ws >>= λ form. finished form.1 form.0) why.Word first e in
    let b = bind_ok (choice (codes "1") (codes "2") ws) (λ form. finished form.1 form.0) first g.1 in
    let c = choice_takes (codes "1") (codes "2") ws b.0 b.1 in
    let d = finished_takes b.0.1 b.0.0 first b.2 in
    ap (λ (v : Word). v ∷ ws) (word_takes w (codes "jetlab") g.0)
    ∙ ap (λ (v : List Word). codes "jetlab" ∷ v) (c ∙ ap (λ (v : List Word). version b.0.0 ∷ v) d.0 ∙ ap (λ (b : Bool). version b ∷ []) d.1)

abbrev pub is_first : Form → Bool
is_first (One delay) = true
is_first Two = false

-- a fixed word and a number
field-then : {B : Type 0} (word : Word) (low high : ℕ) (ws : List Word) (f : ℕ × List Word → Result B Why) (y : B) → high < 2 ^ 64 → (fixed word ws >>= λ rest. number low high rest >>= f) ≡ Ok y
    → (x : ℕ × List Word) × (ws ≡ word ∷ decimal x.0 ∷ x.1) × (low ≤ x.0) × (x.0 ≤ high) × (f x ≡ Ok y)
field-then word low high ws f y small e =
    let a = fixed-then word ws (λ rest. number low high rest >>= f) y e in
    let b = number-then low high a.0 f y small a.2 in
    (b.0, onto (λ v. word ∷ v) a.1 b.1, b.2, b.3, b.4)

abbrev FormIs : Bool → List Word → Form × List Word → Type 0
FormIs first ws x = (ws ≡ text.delay_words x.0 ++ x.1) × (is_first x.0 ≡ first) × IsValidForm x.0

form_takes : (first : Bool) (ws : List Word) (x : Form × List Word) → grammar.form_words first ws ≡ Ok x → FormIs first ws x
unfolding grammar.form_words
form_takes true ws x e =
    let delay = field-then (codes "delay") 1 1000 ws _ x (omega arith) e in
    subst (FormIs true ws) (ok_is (One delay.0.0, delay.0.1) x delay.4) (delay.1, refl, record { some = delay.2; most = delay.3 })
form_takes false ws x e = subst (FormIs false ws) (ok_is (Two, ws) x e) (refl, refl, tt)

abbrev pub SystemIs : Bool → List Word → Form × Params → Type 0
SystemIs first ws x = (ws ≡ text.system_words x.0 x.1) × (is_first x.0 ≡ first) × IsValidForm x.0 × IsValidParams x.1

-- the system line behind its first three numbers
abbrev store_words : Bool → ℕ → ℕ → ℕ → List Word → Result (Form × Params) Why
store_words first frames target inactive ws = do
  rest ← fixed (codes "store") ws
  store ← number 0 65536 rest
  rest ← fixed (codes "critical") store.1
  critical ← number 0 4096 rest
  form ← grammar.form_words first critical.1
  finished form.1 (form.0, record { frames = frames; target = target; inactive = inactive; store = store.0; critical = critical.0 })

abbrev StoreIs : Bool → ℕ → ℕ → ℕ → List Word → Form × Params → Type 0
StoreIs first frames target inactive ws x =
    (ws ≡ codes "store" ∷ decimal x.1.store ∷ codes "critical" ∷ decimal x.1.critical ∷ text.delay_words x.0) × (is_first x.0 ≡ first) × IsValidForm x.0 × (x.1.frames ≡ frames) × (x.1.target ≡ target) × (x.1.inactive ≡ inactive) × (x.1.store ≤ 65536) × (x.1.critical ≤ 4096)

form_end : (first : Bool) (frames target inactive store critical : ℕ) (ws rest : List Word) (form : Form × List Word) (x : Form × Params) → ws ≡ codes "store" ∷ decimal store ∷ codes "critical" ∷ decimal critical ∷ rest → store ≤ 65536 → critical ≤ 4096
    → FormIs first rest form → finished form.1 (form.0, record { frames = frames; target = target; inactive = inactive; store = store; critical = critical }) ≡ Ok x → StoreIs first frames target inactive ws x
form_end first frames target inactive store critical ws rest form x line most few k e =
    let p : Params = record { frames = frames; target = target; inactive = inactive; store = store; critical = critical } in
    let end = finished_takes form.1 (form.0, p) x e in
    let words : rest ≡ text.delay_words form.0 = k.0 ∙ ap (λ (v : List Word). text.delay_words form.0 ++ v) end.0 ∙ append-nil (text.delay_words form.0) in
    subst (StoreIs first frames target inactive ws) end.1 (onto (λ v. codes "store" ∷ decimal store ∷ codes "critical" ∷ decimal critical ∷ v) line words, k.1, k.2, refl, refl, refl, most, few)

store_takes : (first : Bool) (frames target inactive : ℕ) (ws : List Word) (x : Form × Params) → store_words first frames target inactive ws ≡ Ok x → StoreIs first frames target inactive ws x
store_takes first frames target inactive ws x e =
    let store = field-then (codes "store") 0 65536 ws _ x (omega arith) e in
    let critical = field-then (codes "critical") 0 4096 store.0.1 _ x (omega arith) store.4 in
    let form = bind_ok (grammar.form_words first critical.0.1) _ x critical.4 in
    form_end first frames target inactive store.0.0 critical.0.0 ws critical.0.1 form.0 x (onto (λ v. codes "store" ∷ decimal store.0.0 ∷ v) store.1 critical.1) store.3 critical.3 (form_takes first critical.0.1 form.0 form.1) form.2

system_by : (first : Bool) (w : Word) (ws w1 w2 rest : List Word) (frames target inactive : ℕ) (x : Form × Params) → w ≡ codes "system" → ws ≡ codes "frames" ∷ decimal frames ∷ w1 → w1 ≡ codes "target" ∷ decimal target ∷ w2 → w2 ≡ codes "inactive" ∷ decimal inactive ∷ rest
    → 1 ≤ frames → frames ≤ 4096 → target ≤ 4096 → inactive ≤ 4096 → StoreIs first frames target inactive rest x → SystemIs first (w ∷ ws) x
system_by first w ws w1 w2 rest frames target inactive x word e1 e2 e3 some f t i k =
    let line = onto (λ v. codes "frames" ∷ decimal frames ∷ v) e1 (onto (λ v. codes "target" ∷ decimal target ∷ v) e2 e3) in
    let numbers : ws ≡ codes "frames" ∷ decimal x.1.frames ∷ codes "target" ∷ decimal x.1.target ∷ codes "inactive" ∷ decimal x.1.inactive ∷ rest = line ∙ rw (k.3, k.4, k.5) refl in (
      front word (onto (λ v. codes "frames" ∷ decimal x.1.frames ∷ codes "target" ∷ decimal x.1.target ∷ codes "inactive" ∷ decimal x.1.inactive ∷ v) numbers k.0),
      k.1,
      k.2,
      record { some_frames = omega (arith, some, k.3); frames = omega (arith, f, k.3); target = omega (arith, t, k.4); inactive = omega (arith, i, k.5); store = k.6; critical = k.7 },
    )

pub system_takes : (first : Bool) (w : Word) (ws : List Word) (x : Form × Params) → grammar.system_line first w ws ≡ Ok x → SystemIs first (w ∷ ws) x
unfolding grammar.system_line
system_takes first w ws x e =
    let g = guard_then (bytes_eq w (codes "system")) _ why.Word x e in
    let frames = field-then (codes "frames") 1 4096 ws _ x (omega arith) g.1 in
    let target = field-then (codes "target") 0 4096 frames.0.1 _ x (omega arith) frames.4 in
    let inactive = field-then (codes "inactive") 0 4096 target.0.1 _ x (omega arith) target.4 in
    system_by first w ws frames.0.1 target.0.1 inactive.0.1 frames.0.0 target.0.0 inactive.0.0 x (word_takes w (codes "system") g.0) frames.1 target.1 inactive.1 frames.2 frames.3 target.3 inactive.3 (store_takes first frames.0.0 target.0.0 inactive.0.0 inactive.0.1 x inactive.4)

-- ---- a task

abbrev AgesAre : Form → List Word → (ℕ × ℕ) × List Word → Type 0
AgesAre form ws x = ((t : TaskBoot) → t.delay ≡ x.0.0 → t.ageing ≡ x.0.1 → (ws ≡ text.ages_words form t ++ x.1) × FitsForm form t) × IsDelay x.0.0 × (1 ≤ x.0.1) × (x.0.1 ≤ 2)

two_words : (delay ageing : ℕ) (ws rest : List Word) (t : TaskBoot) → ws ≡ codes "delay" ∷ decimal delay ∷ codes "ageing" ∷ decimal ageing ∷ rest → t.delay ≡ delay → t.ageing ≡ ageing → (ws ≡ text.ages_words Two t ++ rest) × FitsForm Two t
two_words delay ageing ws rest t line p q = (line ∙ rw (p, q) refl, tt)

ages_take : (form : Form) (ws : List Word) (x : (ℕ × ℕ) × List Word) → IsValidForm form → grammar.ageing_words form ws ≡ Ok x → AgesAre form ws x
unfolding grammar.ageing_words
ages_take (One delay) ws x valid e =
    subst (AgesAre (One delay) ws) (ok_is ((delay, 1), ws) x e) ((λ t p q. (refl, (p, q))), valid, omega arith, omega arith)
ages_take Two ws x valid e =
    let delay = field-then (codes "delay") 1 1000 ws _ x (omega arith) e in
    let ageing = field-then (codes "ageing") 1 2 delay.0.1 _ x (omega arith) delay.4 in
    let line = onto (λ v. codes "delay" ∷ decimal delay.0.0 ∷ v) delay.1 ageing.1 in
    subst (AgesAre Two ws) (ok_is ((delay.0.0, ageing.0.0), ageing.0.1) x ageing.4)
    ((λ t p q. two_words delay.0.0 ageing.0.0 ws ageing.0.1 t line p q), record { some = delay.2; most = delay.3 }, ageing.2, ageing.3)

last_takes : (ws : List Word) (b : Bool) → grammar.last_word (codes "internal") ws ≡ Ok b → ws ≡ cond b (codes "internal" ∷ []) []
last_takes [] b e = ap (λ (b : Bool). cond b (codes "internal" ∷ []) []) (ok_is false b e)
last_takes (w ∷ ws) b e =
    let g = guard_then (bytes_eq w (codes "internal")) (finished ws true) why.Word b e in
    let d = finished_takes ws true b g.1 in
    ap (λ (v : Word). v ∷ ws) (word_takes w (codes "internal") g.0) ∙ ap (λ (v : List Word). codes "internal" ∷ v) d.0 ∙ ap (λ (b : Bool). cond b (codes "internal" ∷ []) []) d.1

limit_takes : (ws : List Word) (x : Limit × List Word) → limit ws ≡ Ok x → (ws ≡ limit_words x.0 ++ x.1) × (x.0.pages ≤ 65536)
limit_takes ws x e =
    let n = number-then 0 65536 ws _ x (omega arith) e in
    let f = bind_ok (choice (codes "fatal") (codes "soft") n.0.1) _ x n.4 in
    let u = choice_takes (codes "fatal") (codes "soft") n.0.1 f.0 f.1 in
    let P : Limit × List Word → Type 0 = λ y. (ws ≡ limit_words y.0 ++ y.1) × (y.0.pages ≤ 65536) in
    subst P (ok_is (record { pages = n.0.0; fatal = f.0.0 }, f.0.1) x f.2) (onto (λ v. decimal n.0.0 ∷ v) n.1 u, n.3)

-- a fixed word and a limit
limit-then : {B : Type 0} (word : Word) (ws : List Word) (f : Limit × List Word → Result B Why) (y : B) → (fixed word ws >>= λ rest. limit rest >>= f) ≡ Ok y → (x : Limit × List Word) × (ws ≡ word ∷ (limit_words x.0 ++ x.1)) × (x.0.pages ≤ 65536) × (f x ≡ Ok y)
limit-then word ws f y e =
    let a = fixed-then word ws (λ rest. limit rest >>= f) y e in
    let b = bind_ok (limit a.0) f y a.2 in
    let t = limit_takes a.0 b.0 b.1 in
    (b.0, onto (λ v. word ∷ v) a.1 t.0, t.1, b.2)

abbrev pub TaskIs : Form → ℕ → List Word → TaskBoot → Type 0
TaskIs form next ws t = (codes "task" ∷ ws ≡ text.task_words form next t) × (next ≤ 63) × IsValidTask t × FitsForm form t × (t.band ≤ 20)

-- a task line behind its limits
abbrev ages_line : Form → ℕ → Limit → Limit → List Word → Result TaskBoot Why
ages_line form band active inactive ws = do
  ages ← grammar.ageing_words form ws
  internal ← grammar.last_word (codes "internal") ages.1
  Ok (record { band = band; active = active; inactive = inactive; internal = internal; delay = ages.0.0; ageing = ages.0.1 })

ages_by : (form : Form) (next band : ℕ) (active inactive : Limit) (ws w1 w2 w3 rest : List Word) (t : TaskBoot) → IsValidForm form
    → ws ≡ decimal next ∷ w1 → w1 ≡ codes "band" ∷ decimal band ∷ w2 → w2 ≡ codes "active" ∷ (limit_words active ++ w3) → w3 ≡ codes "inactive" ∷ (limit_words inactive ++ rest)
    → next ≤ 63 → band ≤ 20 → active.pages ≤ 65536 → inactive.pages ≤ 65536 → ages_line form band active inactive rest ≡ Ok t → TaskIs form next ws t
ages_by form next band active inactive ws w1 w2 w3 rest t valid e1 e2 e3 e4 room low a i e =
    let line = onto (λ v. decimal next ∷ v) e1 (onto (λ v. codes "band" ∷ decimal band ∷ v) e2 (onto (λ v. codes "active" ∷ (limit_words active ++ v)) e3 e4)) in
    let ages = bind_ok (grammar.ageing_words form rest) _ t e in
    let k = ages_take form rest ages.0 valid ages.1 in
    let internal = bind_ok (grammar.last_word (codes "internal") ages.0.1) _ t ages.2 in
    let u : TaskBoot = record { band = band; active = active; inactive = inactive; internal = internal.0; delay = ages.0.0.0; ageing = ages.0.0.1 } in
    let own = k.0 u refl refl in
    let end = onto (λ v. text.ages_words form u ++ v) own.0 (last_takes ages.0.1 internal.0 internal.1) in
    subst (TaskIs form next ws) (ok_is u t internal.2) (
      ap (λ (v : List Word). codes "task" ∷ v) (onto (λ v. decimal next ∷ codes "band" ∷ decimal band ∷ codes "active" ∷ (limit_words active ++ codes "inactive" ∷ (limit_words inactive ++ v))) line end),
      room,
      record { active = a; inactive = i; delay = k.1; ages = k.2; ageing = k.3 },
      own.1,
      low,
    )

pub task_takes : (form : Form) (next : ℕ) (ws : List Word) (t : TaskBoot) → IsValidForm form → grammar.task_line form next ws ≡ Ok t → TaskIs form next ws t
unfolding grammar.task_line
task_takes form next ws t valid e =
    let n = bind_ok (in_order next 63 ws) _ t e in
    let order = in_order_spelled next 63 ws n.0 (omega arith) n.1 in
    let band = field-then (codes "band") 0 20 n.0 _ t (omega arith) n.2 in
    let active = limit-then (codes "active") band.0.1 _ t band.4 in
    let inactive = limit-then (codes "inactive") active.0.1 _ t active.3 in
    ages_by form next band.0.0 active.0.0 inactive.0.0 ws n.0 band.0.1 active.0.1 inactive.0.1 t valid order.0 band.1 active.1 inactive.1 order.1 band.3 active.2 inactive.2 inactive.3

-- ---- an object

pub chosen : {A : Type 0} (b : Bool) (x y : Result A Why) (z : A) → cond b x y ≡ Ok z → ((b ≡ true) × (x ≡ Ok z)) ⊎ ((b ≡ false) × (y ≡ Ok z))
chosen true x y z e = inl (refl, e)
chosen false x y z e = inr (refl, e)

pub reference-then : {B : Type 0} (high count : ℕ) (ws : List Word) (f : ℕ × List Word → Result B Why) (y : B) → high < 2 ^ 64 → (reference high count ws >>= f) ≡ Ok y
    → (x : ℕ × List Word) × (ws ≡ decimal x.0 ∷ x.1) × (x.0 < count) × (f x ≡ Ok y)
reference-then high count ws f y small e =
    let b = bind_ok (reference high count ws) f y e in
    let t = reference_spelled high count ws b.0 small b.1 in
    (b.0, t.0, t.1, b.2)

abbrev SharersAre : ℕ → ℕ → List Word → List ℕ × List Word → Type 0
SharersAre tasks bound ws x = (ws ≡ map decimal x.0 ++ codes "pages" ∷ x.1) × IsRisingFrom bound x.0 × All (λ t. t < tasks) x.0

sharer_by : (tasks bound n : ℕ) (w : Word) (ws : List Word) (r x : List ℕ × List Word) → w ≡ decimal n → bound ≤ n → n < tasks → SharersAre tasks (n + 1) ws r → (n ∷ r.0, r.1) ≡ x → SharersAre tasks bound (w ∷ ws) x
sharer_by tasks bound n w ws r x word above declared more e = subst (SharersAre tasks bound (w ∷ ws)) e (front word more.0, (above, more.1), All-cons (λ t. t < tasks) n r.0 declared more.2)

sharers_take : (tasks bound : ℕ) (ws : List Word) (x : List ℕ × List Word) → grammar.sharers tasks bound ws ≡ Ok x → SharersAre tasks bound ws x
unfolding grammar.sharers
sharers_take tasks bound [] x e = absurd cc
sharers_take tasks bound (w ∷ ws) x e = elim (chosen (bytes_eq w (codes "pages")) (Ok ([], ws)) _ x e) [
  | inl end ↦ subst (SharersAre tasks bound (w ∷ ws)) (ok_is ([], ws) x end.1) (ap (λ (v : Word). v ∷ ws) (word_takes w (codes "pages") end.0), tt, All-nil (λ t. t < tasks))
  | inr other ↦
      let g = guard_then (is_plain w) (number_in 0 63 w >>= λ n. cond (ltb n tasks) (grammar.sharer_from bound n (grammar.sharers tasks (n + 1) ws)) (Err why.Unknown)) why.Word x other.1 in
      let n = bind_ok (number_in 0 63 w) (λ n. cond (ltb n tasks) (grammar.sharer_from bound n (grammar.sharers tasks (n + 1) ws)) (Err why.Unknown)) x g.1 in
      let word = number_in_takes 0 63 n.0 w (omega arith) n.1 in
      let declared = guard_then (ltb n.0 tasks) (grammar.sharer_from bound n.0 (grammar.sharers tasks (n.0 + 1) ws)) why.Unknown x n.2 in
      let above = guard_not (ltb n.0 bound) (grammar.sharers tasks (n.0 + 1) ws >>= λ r. Ok (n.0 ∷ r.0, r.1)) why.Repeated x declared.1 in
      let r = bind_ok (grammar.sharers tasks (n.0 + 1) ws) (λ r. Ok (n.0 ∷ r.0, r.1)) x above.1 in
      let more = sharers_take tasks (n.0 + 1) ws r.0 r.1 in
      sharer_by tasks bound n.0 w ws r.0 x word.0 (ltb-false n.0 bound above.0) (ltb-true n.0 tasks declared.0) more (ok_is (n.0 ∷ r.0.0, r.0.1) x r.2)
]

abbrev pub ObjectIs : ℕ → ℕ → List Word → ObjBoot → Type 0
ObjectIs tasks next ws o = (codes "object" ∷ ws ≡ text.object_words next o) × (next ≤ 255) × IsValidObject tasks o

pages_by : (tasks next first : ℕ) (ws w1 w2 rest : List Word) (others : List ℕ × List Word) (o : ObjBoot) → ws ≡ decimal next ∷ w1 → w1 ≡ codes "task" ∷ w2 → w2 ≡ decimal first ∷ rest → next ≤ 255 → first < tasks → SharersAre tasks (first + 1) rest others
    → (number 1 256 others.1 >>= λ pages. finished pages.1 (record { tasks = first ∷ others.0; pages = pages.0 })) ≡ Ok o → ObjectIs tasks next ws o
pages_by tasks next first ws w1 w2 rest others o e1 e2 e3 room declared k e =
    let line = onto (λ v. decimal next ∷ v) e1 (onto (λ v. codes "task" ∷ v) e2 e3) in
    let pages = number-then 1 256 others.1 _ o (omega arith) e in
    let p : ObjBoot = record { tasks = first ∷ others.0; pages = pages.0.0 } in
    let end = finished_takes pages.0.1 p o pages.4 in
    let last = onto (λ v. map decimal others.0 ++ codes "pages" ∷ v) k.0 (onto (λ v. decimal pages.0.0 ∷ v) pages.1 end.0) in
    subst (ObjectIs tasks next ws) end.1 (
      ap (λ (v : List Word). codes "object" ∷ v) (onto (λ v. decimal next ∷ codes "task" ∷ decimal first ∷ v) line last),
      room,
      record { shared = omega arith; rising = (omega arith, k.1); declared = All-cons (λ t. t < tasks) first others.0 declared k.2; some_pages = pages.2; pages = pages.3 },
    )

pub object_takes : (tasks next : ℕ) (ws : List Word) (o : ObjBoot) → grammar.object_line tasks next ws ≡ Ok o → ObjectIs tasks next ws o
unfolding grammar.object_line
object_takes tasks next ws o e =
    let n = bind_ok (in_order next 255 ws) _ o e in
    let order = in_order_spelled next 255 ws n.0 (omega arith) n.1 in
    let a = fixed-then (codes "task") n.0 _ o n.2 in
    let first = reference-then 63 tasks a.0 _ o (omega arith) a.2 in
    let others = bind_ok (grammar.sharers tasks (first.0.0 + 1) first.0.1) _ o first.3 in
    pages_by tasks next first.0.0 ws n.0 a.0 first.0.1 others.0 o order.0 a.1 first.1 order.1 first.2 (sharers_take tasks (first.0.0 + 1) first.0.1 others.0 others.1) others.2

-- ---- a thread

abbrev SideIs : ℕ → List Word → Side → Type 0
SideIs tasks ws side = (ws ≡ text.side_words side) × IsValidSide tasks side

side_takes : (tasks : ℕ) (ws : List Word) (side : Side) → grammar.side_words tasks ws ≡ Ok side → SideIs tasks ws side
side_takes tasks [] side e = absurd cc
side_takes tasks (w ∷ ws) side e = elim (chosen (bytes_eq w (codes "task")) _ _ side e) [
  | inl task ↦
      let t = reference-then 63 tasks ws (λ t. finished t.1 (Task t.0)) side (omega arith) task.1 in
      let end = finished_takes t.0.1 (Task t.0.0) side t.3 in
      subst (SideIs tasks (w ∷ ws)) end.1 (front (word_takes w (codes "task") task.0) (onto (λ v. decimal t.0.0 ∷ v) t.1 end.0), t.2)
  | inr other ↦
      let g = guard_then (bytes_eq w (codes "kernel")) (finished ws Kernel) why.Word side other.1 in
      let end = finished_takes ws Kernel side g.1 in
      subst (SideIs tasks (w ∷ ws)) end.1 (front (word_takes w (codes "kernel") g.0) end.0, tt)
]

pub thread_takes : (next tasks : ℕ) (ws : List Word) (side : Side) → grammar.thread_line next tasks ws ≡ Ok side → (codes "thread" ∷ ws ≡ text.thread_words next side) × (next ≤ 31) × IsValidSide tasks side
unfolding grammar.thread_line
thread_takes next tasks ws side e =
    let n = bind_ok (in_order next 31 ws) (λ rest. grammar.side_words tasks rest) side e in
    let order = in_order_spelled next 31 ws n.0 (omega arith) n.1 in
    let s = side_takes tasks n.0 side n.2 in
    (ap (λ (v : List Word). codes "thread" ∷ v) (onto (λ v. decimal next ∷ v) order.0 s.0), order.1, s.1)

-- ---- the order

abbrev pub OrderIs : ℕ → Plan → List Word → Plan → Type 0
OrderIs threads s ws t = (ns : List ℕ) × (t ≡ record s { order = s.order ++ ns }) × (ws ≡ map decimal ns) × All (λ n. n < threads) ns × (length (s.order ++ ns) ≤ 200000)

pub order_takes : (threads : ℕ) (s : Plan) (ws : List Word) (t : Plan) → length s.order ≤ 200000 → grammar.order_words threads s ws ≡ Ok t → OrderIs threads s ws t
unfolding grammar.order_words
order_takes threads s [] t few e =
    let same = sym (append-nil s.order) in
    ([], sym (ok_is s t e) ∙ ap (λ (o : List ℕ). record s { order = o }) same, refl, All-nil (λ n. n < threads), rw (← same) few)
order_takes threads s (w ∷ ws) t few e =
    let b = bind_ok (grammar.turn threads (length s.order) (w ∷ ws)) (λ n. grammar.order_words threads (record s { order = s.order ++ n.0 ∷ [] }) ws) t e in
    let n = b.0.0 in
    let u = turn-takes threads (length s.order) w ws b.0 b.1 in
    let word = reference_takes 31 threads w ws b.0 u.1 in
    let room : length (s.order ++ n ∷ []) ≤ 200000 = omega (arith, u.0, length-append s.order (n ∷ [])) in
    let more = order_takes threads (record s { order = s.order ++ n ∷ [] }) ws t room b.2 in
    let all = append_assoc s.order (n ∷ []) more.0 in (
      n ∷ more.0,
      more.1 ∙ ap (λ (o : List ℕ). record s { order = o }) all,
      ap (λ (v : Word). v ∷ ws) (let d = number_in_takes 0 31 n w (omega arith) word.0 in d.0) ∙ ap (λ (v : List Word). decimal n ∷ v) more.2,
      All-cons (λ n. n < threads) n more.0 word.1 more.3,
      rw (← all) more.4,
    )

-- ---- a call

-- the last thread is one for such a call
abbrev pub IsSide : Plan → Call → Type 0
IsSide s call = same (is_task_verb (verb_of_call call)) (is_some (task_of_side (get_or s.boot.sides (grammar.last_thread s) Kernel))) ≡ true

abbrev pub ScriptIs : Plan → Word → List Word → grammar.Front → Type 0
ScriptIs s w ws g = (call : Call) × (g ≡ grammar.reading place.Script (grammar.with_call s call)) × (w ∷ ws ≡ call_words call) × HasLine (length s.boot.tasks) (length s.boot.objects) call × IsSide s call × (call_count s.scripts < 200000)

script_by : (s : Plan) (w : Word) (ws : List Word) (g : grammar.Front) (o : Option Verb) → verb_of w ≡ o → grammar.script_line s w ws ≡ Ok g → ScriptIs s w ws g
unfolding grammar.script_line
script_by s w ws g None v e = absurd (not-ok why.Word g (sym (rw (v, grammar.script_line) refl) ∙ e))
script_by s w ws g (Some v) is e =
    let side_fits : Bool = same (is_task_verb v) (is_some (task_of_side (get_or s.boot.sides (grammar.last_thread s) Kernel))) in
    let room : Bool = ltb (call_count s.scripts) 200000 in
    let read : Result grammar.Front Why = call_of (length s.boot.tasks) (length s.boot.objects) v ws >>= λ call. Ok (grammar.reading place.Script (grammar.with_call s call)) in
    let said : cond side_fits (cond room read (Err why.Limit)) (Err why.WrongSide) ≡ Ok g = sym (rw (is, grammar.script_line) refl) ∙ e in
    let h = guard_then side_fits (cond room read (Err why.Limit)) why.WrongSide g said in
    let k = guard_then room read why.Limit g h.1 in
    let b = bind_ok (call_of (length s.boot.tasks) (length s.boot.objects) v ws) (λ call. Ok (grammar.reading place.Script (grammar.with_call s call))) g k.1 in
    let c = call_takes (length s.boot.tasks) (length s.boot.objects) v ws b.0 b.1 in (
      b.0,
      sym (ok_is (grammar.reading place.Script (grammar.with_call s b.0)) g b.2),
      ap (λ (x : Word). x ∷ ws) (verb_takes w v is ∙ ap verb_text (sym c.0)) ∙ ap (λ (x : List Word). verb_text (verb_of_call b.0) ∷ x) c.1,
      c.2,
      ap (λ (x : Verb). same (is_task_verb x) (is_some (task_of_side (get_or s.boot.sides (grammar.last_thread s) Kernel)))) c.0 ∙ h.0,
      ltb-true (call_count s.scripts) 200000 k.0,
    )

pub script_takes : (s : Plan) (w : Word) (ws : List Word) (g : grammar.Front) → grammar.script_line s w ws ≡ Ok g → ScriptIs s w ws g
script_takes s w ws g e = script_by s w ws g (verb_of w) refl e
