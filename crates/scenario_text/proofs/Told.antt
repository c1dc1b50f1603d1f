-- What a front has been told is the text of what it holds.
use Rattle.std.proofs.Common.{◌≡◌, ℕ, zero, suc, ◌+◌, ◌<◌, Bool, List, [], ◌∷◌, ◌++◌, length, map, get_or, set, Ok, refl, sym, ap, ◌∙◌, arith, subst, inl, inr, append_assoc, append-nil}
use Rattle.std.specs.Prelude.{codes}
use Rattle.std.specs.Fmt.{decimal}
use Rattle.std.specs.Str.{bytes_eq}
use Rattle.std.proofs.lemmas.List.{map-append, length-append}
use Rattle.kern_ids.specs.declared.faults.Why.TheVariants as why
use Rattle.kern_ids.specs.declared.calls.Call.{Call}
use Rattle.kernel_model.specs.declared.boot.Params.{Params}
use Rattle.kernel_model.specs.declared.boot.TaskBoot.{TaskBoot}
use Rattle.kernel_model.specs.declared.boot.ObjBoot.{ObjBoot}
use Rattle.kernel_model.specs.declared.boot.Side.{Side}
use Rattle.kernel_model.specs.declared.scenario.Form.{Form}
use Rattle.kernel_model.specs.declared.scenario.Form.TheVariants.{One, Two}
use Rattle.kernel_model.specs.Scenario.{Plan}
use Rattle.line_text.specs.Cut.{Word}
use Rattle.line_text.specs.Words.{finished}
use Rattle.line_text.specs.Calls.{call_words}
use Rattle.line_text.proofs.GrammarLemmas.{bind_ok, ok_is}
use Rattle.line_text.proofs.WordLaws.{guard_then, finished_takes}
use Rattle.scenario_text.specs.declared.place.Place.{Place}
use Rattle.scenario_text.specs.declared.place.Place.TheVariants as place
use Rattle.scenario_text.specs.Grammar as grammar
use Rattle.scenario_text.specs.Grammar.{Front, start, headed, reading, step, line_at, later_line, declaring_line}
use Rattle.scenario_text.specs.Text as text
use Rattle.scenario_text.specs.Text.{HasText}
use Rattle.scenario_text.proofs.Runs.{run}
use Rattle.scenario_text.proofs.Spelled.{word_takes, version, is_first, head_takes, system_takes, task_takes, chosen, object_takes, thread_takes, order_takes, script_takes}
use Rattle.scenario_text.proofs.Grown.{opened-holds, task-holds, object-holds, thread-holds, order-holds, call-holds}

-- the lines of what is declared, those of the end, and all that a front has been told
abbrev declared : Plan → List (List Word)
declared s = text.head_words s.form ∷ text.system_words s.form s.boot.params ∷ (text.task_lines s.form 0 s.boot.tasks ++ (text.object_lines 0 s.boot.objects ++ text.thread_lines 0 s.boot.sides s.scripts))

abbrev closing : Place → List ℕ → List (List Word)
closing place.Ordered order = text.order_words order ∷ []
closing place.Ended order = text.last_lines order
closing _ order = []

abbrev told : Front → List (List Word)
told start = []
told (headed first) = (codes "jetlab" ∷ version first ∷ []) ∷ []
told (reading p s) = declared s ++ closing p s.order

-- what is not yet declared
abbrev Fresh : Place → Plan → Type 0
Fresh place.Tasks s = (s.boot.objects ≡ []) × (s.boot.sides ≡ []) × (s.scripts ≡ []) × (s.order ≡ [])
Fresh place.Objects s = (s.boot.sides ≡ []) × (s.scripts ≡ []) × (s.order ≡ [])
Fresh place.Script s = (0 < length s.boot.sides) × (s.order ≡ [])
Fresh _ s = Unit {0}

abbrev Holds : Front → Type 0
Holds (reading p s) = HasText s × Fresh p s
Holds _ = Unit {0}

-- ---- one thing more is one line more

task_lines-push : (form : Form) (n k : ℕ) (ts : List TaskBoot) (t : TaskBoot) → k ≡ n + length ts → text.task_lines form n (ts ++ t ∷ []) ≡ text.task_lines form n ts ++ text.task_words form k t ∷ []
task_lines-push form n k [] t e = let same : n ≡ k = omega (arith, e) in ap (λ (m : ℕ). text.task_words form m t ∷ []) same
task_lines-push form n k (x ∷ xs) t e = ap (λ (ls : List (List Word)). text.task_words form n x ∷ ls) (task_lines-push form (n + 1) k xs t (omega (arith, e)))

object_lines-push : (n k : ℕ) (os : List ObjBoot) (o : ObjBoot) → k ≡ n + length os → text.object_lines n (os ++ o ∷ []) ≡ text.object_lines n os ++ text.object_words k o ∷ []
object_lines-push n k [] o e = let same : n ≡ k = omega (arith, e) in ap (λ (m : ℕ). text.object_words m o ∷ []) same
object_lines-push n k (x ∷ xs) o e = ap (λ (ls : List (List Word)). text.object_words n x ∷ ls) (object_lines-push (n + 1) k xs o (omega (arith, e)))

thread_lines-push : (n k : ℕ) (sides : List Side) (scripts : List (List Call)) (side : Side) → length scripts ≡ length sides → k ≡ n + length sides
    → text.thread_lines n (sides ++ side ∷ []) (scripts ++ [] ∷ []) ≡ text.thread_lines n sides scripts ++ text.thread_words k side ∷ []
thread_lines-push n k [] [] side l e = let same : n ≡ k = omega (arith, e) in ap (λ (m : ℕ). text.thread_words m side ∷ []) same
thread_lines-push n k [] (y ∷ ys) side l e = absurd (omega (arith, l))
thread_lines-push n k (x ∷ xs) [] side l e = absurd (omega (arith, l))
thread_lines-push n k (x ∷ xs) (y ∷ ys) side l e =
    ap (λ (ls : List (List Word)). text.thread_words n x ∷ (map call_words y ++ ls)) (thread_lines-push (n + 1) k xs ys side (omega (arith, l)) (omega (arith, e)))
    ∙ ap (λ (ls : List (List Word)). text.thread_words n x ∷ ls) (sym (append_assoc (map call_words y) (text.thread_lines (n + 1) xs ys) (text.thread_words k side ∷ [])))

thread_lines-call : (n k : ℕ) (sides : List Side) (scripts : List (List Call)) (call : Call) → length scripts ≡ length sides → k + 1 ≡ length scripts
    → text.thread_lines n sides (set scripts k (get_or scripts k [] ++ call ∷ [])) ≡ text.thread_lines n sides scripts ++ call_words call ∷ []
thread_lines-call n k [] [] call l e = absurd (omega (arith, e))
thread_lines-call n k [] (y ∷ ys) call l e = absurd (omega (arith, l))
thread_lines-call n k (x ∷ xs) [] call l e = absurd (omega (arith, l))
thread_lines-call n zero (x ∷ []) (y ∷ []) call l e = ap (λ (ls : List (List Word)). text.thread_words n x ∷ ls) (rw (map-append call_words y (call ∷ [])) (simp append-nil))
thread_lines-call n zero (x ∷ z ∷ xs) (y ∷ []) call l e = absurd (omega (arith, l))
thread_lines-call n zero (x ∷ xs) (y ∷ w ∷ ys) call l e = absurd (omega (arith, e))
thread_lines-call n (suc k) (x ∷ xs) (y ∷ ys) call l e =
    ap (λ (ls : List (List Word)). text.thread_words n x ∷ (map call_words y ++ ls)) (thread_lines-call (n + 1) k xs ys call (omega (arith, l)) (omega (arith, e)))
    ∙ ap (λ (ls : List (List Word)). text.thread_words n x ∷ ls) (sym (append_assoc (map call_words y) (text.thread_lines (n + 1) xs ys) (call_words call ∷ [])))

-- ---- a line more, at the end or where nothing follows

more_last : (xs ys zs : List (List Word)) (l : List Word) → zs ≡ ys ++ l ∷ [] → xs ++ zs ≡ (xs ++ ys) ++ l ∷ []
more_last xs ys zs l e = ap (λ (x : List (List Word)). xs ++ x) e ∙ sym (append_assoc xs ys (l ∷ []))

more_before : (xs ys none : List (List Word)) (l : List Word) → none ≡ [] → ys ≡ xs ++ l ∷ [] → ys ++ none ≡ (xs ++ none) ++ l ∷ []
more_before xs ys none l e h = rw (e, h) (simp append-nil)

more_open : (s t : Plan) (l : List Word) → declared t ≡ declared s ++ l ∷ [] → declared t ++ [] ≡ (declared s ++ []) ++ l ∷ []
more_open s t l e = more_before (declared s) (declared t) [] l refl e

abbrev Takes : Front → List Word → Front → Type 0
Takes f l g = (told g ≡ told f ++ l ∷ []) × Holds g

-- a place where the next line may be of a thread or the order
abbrev IsOpen : Place → Plan → Type 0
IsOpen p s = (closing p s.order ≡ []) × (s.order ≡ []) × HasText s

-- ---- what each line adds

open_line : (p q : Place) (s t : Plan) (l : List Word) → closing p s.order ≡ [] → closing q t.order ≡ [] → declared t ≡ declared s ++ l ∷ [] → told (reading q t) ≡ told (reading p s) ++ l ∷ []
open_line p q s t l before after e = rw (before, after) (more_open s t l e)

pub version_is : (form : Form) → text.head_words form ≡ codes "jetlab" ∷ version (is_first form) ∷ []
version_is (One delay) = refl
version_is Two = refl

order_line : (order ns : List ℕ) (w : Word) (ws : List Word) → order ≡ [] → w ≡ codes "order" → ws ≡ map decimal ns → w ∷ ws ≡ text.order_words (order ++ ns)
order_line order ns w ws none word line = rw (none, word, line) refl

order_told : (p : Place) (s : Plan) (ns : List ℕ) (l : List Word) → closing p s.order ≡ [] → l ≡ text.order_words (s.order ++ ns) → told (reading place.Ordered (record s { order = s.order ++ ns })) ≡ told (reading p s) ++ l ∷ []
order_told p s ns l before line = rw (line, before) (ap (λ (x : List (List Word)). x ++ text.order_words (s.order ++ ns) ∷ []) (sym (append-nil (declared s))))

system_told : (first : Bool) (form : Form) (p : Params) (l : List Word) → l ≡ text.system_words form p → is_first form ≡ first → told (reading place.Tasks (grammar.opened form p)) ≡ told (headed first) ++ l ∷ []
system_told first form p l line is = rw (line, ← is) (ap (λ (x : List Word). x ∷ text.system_words form p ∷ []) (version_is form))

later_told : (p : Place) (s : Plan) (w : Word) (ws : List Word) (g : Front) → IsOpen p s → later_line s w ws ≡ Ok g → Takes (reading p s) (w ∷ ws) g
unfolding later_line
later_told p s w ws g o e = elim (chosen (bytes_eq w (codes "thread")) _ _ g e) [
  | inl thread ↦
      let b = bind_ok (grammar.thread_line (length s.boot.sides) (length s.boot.tasks) ws) (λ side. Ok (reading place.Script (grammar.with_thread s side))) g thread.1 in
      let k = thread_takes (length s.boot.sides) (length s.boot.tasks) ws b.0 b.1 in
      let line : w ∷ ws ≡ text.thread_words (length s.boot.sides) b.0 = ap (λ (v : Word). v ∷ ws) (word_takes w (codes "thread") thread.0) ∙ k.0 in
      let lines = thread_lines-push 0 (length s.boot.sides) s.boot.sides s.scripts b.0 o.2.valid.scripts (omega arith) in
      subst (Takes (reading p s) (w ∷ ws)) (ok_is (reading place.Script (grammar.with_thread s b.0)) g b.2) (
        rw line (open_line p place.Script s (grammar.with_thread s b.0) (text.thread_words (length s.boot.sides) b.0) o.0 refl
            (ap (λ (x : List (List Word)). text.head_words s.form ∷ text.system_words s.form s.boot.params ∷ x)
            (more_last (text.task_lines s.form 0 s.boot.tasks) _ _ _ (more_last (text.object_lines 0 s.boot.objects) _ _ _ lines)))),
        (thread-holds s b.0 o.2 k.1 k.2, (omega (arith, length-append s.boot.sides (b.0 ∷ [])), o.1)),
      )
  | inr other ↦
      let h = guard_then (bytes_eq w (codes "order")) _ why.Word g other.1 in
      let b = bind_ok (grammar.order_words (length s.boot.sides) s ws) (λ t. Ok (reading place.Ordered t)) g h.1 in
      let k = order_takes (length s.boot.sides) s ws b.0 o.2.valid.few_turns b.1 in
      let line = order_line s.order k.0 w ws o.1 (word_takes w (codes "order") h.0) k.2 in
      subst (Takes (reading p s) (w ∷ ws)) (ap (reading place.Ordered) (sym k.1) ∙ ok_is (reading place.Ordered b.0) g b.2)
      (order_told p s k.0 (w ∷ ws) o.0 line, (order-holds s k.0 o.2 k.3 k.4, tt))
]

declaring_told : (p : Place) (s : Plan) (w : Word) (ws : List Word) (g : Front) → IsOpen p s → s.boot.sides ≡ [] → s.scripts ≡ [] → declaring_line s w ws ≡ Ok g → Takes (reading p s) (w ∷ ws) g
unfolding declaring_line
declaring_told p s w ws g o none empty e = elim (chosen (bytes_eq w (codes "object")) _ _ g e) [
  | inl object ↦
      let b = bind_ok (grammar.object_line (length s.boot.tasks) (length s.boot.objects) ws) (λ x. Ok (reading place.Objects (grammar.with_object s x))) g object.1 in
      let k = object_takes (length s.boot.tasks) (length s.boot.objects) ws b.0 b.1 in
      let line : w ∷ ws ≡ text.object_words (length s.boot.objects) b.0 = ap (λ (v : Word). v ∷ ws) (word_takes w (codes "object") object.0) ∙ k.0 in
      let lines = object_lines-push 0 (length s.boot.objects) s.boot.objects b.0 (omega arith) in
      let threads : text.thread_lines 0 s.boot.sides s.scripts ≡ [] = rw none refl in
      subst (Takes (reading p s) (w ∷ ws)) (ok_is (reading place.Objects (grammar.with_object s b.0)) g b.2) (
        rw line (open_line p place.Objects s (grammar.with_object s b.0) (text.object_words (length s.boot.objects) b.0) o.0 refl
            (ap (λ (x : List (List Word)). text.head_words s.form ∷ text.system_words s.form s.boot.params ∷ x)
            (more_last (text.task_lines s.form 0 s.boot.tasks) _ _ _ (more_before _ _ (text.thread_lines 0 s.boot.sides s.scripts) _ threads lines)))),
        (object-holds s b.0 o.2 empty k.1 k.2, (none, empty, o.1)),
      )
  | inr other ↦ later_told p s w ws g o other.1
]

task_told : (s : Plan) (w : Word) (ws : List Word) (g : Front) → HasText s → Fresh place.Tasks s → line_at place.Tasks s w ws ≡ Ok g → Takes (reading place.Tasks s) (w ∷ ws) g
unfolding line_at
task_told s w ws g h f e = elim (chosen (bytes_eq w (codes "task")) _ _ g e) [
  | inl task ↦
      let b = bind_ok (grammar.task_line s.form (length s.boot.tasks) ws) (λ t. Ok (reading place.Tasks (grammar.with_task s t))) g task.1 in
      let k = task_takes s.form (length s.boot.tasks) ws b.0 h.valid.form b.1 in
      let line : w ∷ ws ≡ text.task_words s.form (length s.boot.tasks) b.0 = ap (λ (v : Word). v ∷ ws) (word_takes w (codes "task") task.0) ∙ k.0 in
      let lines = task_lines-push s.form 0 (length s.boot.tasks) s.boot.tasks b.0 (omega arith) in
      let later : text.object_lines 0 s.boot.objects ++ text.thread_lines 0 s.boot.sides s.scripts ≡ [] = rw (f.0, f.1) refl in
      subst (Takes (reading place.Tasks s) (w ∷ ws)) (ok_is (reading place.Tasks (grammar.with_task s b.0)) g b.2) (
        rw line (open_line place.Tasks place.Tasks s (grammar.with_task s b.0) (text.task_words s.form (length s.boot.tasks) b.0) refl refl
            (ap (λ (x : List (List Word)). text.head_words s.form ∷ text.system_words s.form s.boot.params ∷ x)
            (more_before _ _ (text.object_lines 0 s.boot.objects ++ text.thread_lines 0 s.boot.sides s.scripts) _ later lines))),
        (task-holds s b.0 h f k.1 k.2 k.3 k.4, f),
      )
  | inr other ↦ declaring_told place.Tasks s w ws g (refl, f.3, h) f.1 f.2 other.1
]

call_told : (s : Plan) (w : Word) (ws : List Word) (g : Front) → HasText s → Fresh place.Script s → grammar.script_line s w ws ≡ Ok g → Takes (reading place.Script s) (w ∷ ws) g
call_told s w ws g h f e =
    let k = script_takes s w ws g e in
    let count : length s.scripts ≡ length s.boot.sides = h.valid.scripts in
    let last : grammar.last_thread s + 1 ≡ length s.scripts = omega (arith, count, f.0) in
    let lines = thread_lines-call 0 (grammar.last_thread s) s.boot.sides s.scripts k.0 count last in
    subst (Takes (reading place.Script s) (w ∷ ws)) (sym k.1) (
      rw k.2 (open_line place.Script place.Script s (grammar.with_call s k.0) (call_words k.0) refl refl
          (ap (λ (x : List (List Word)). text.head_words s.form ∷ text.system_words s.form s.boot.params ∷ x)
          (more_last (text.task_lines s.form 0 s.boot.tasks) _ _ _ (more_last (text.object_lines 0 s.boot.objects) _ _ _ lines)))),
      (call-holds s k.0 h last k.3 k.4 k.5, f),
    )

script_told : (s : Plan) (w : Word) (ws : List Word) (g : Front) → HasText s → Fresh place.Script s → line_at place.Script s w ws ≡ Ok g → Takes (reading place.Script s) (w ∷ ws) g
unfolding line_at
script_told s w ws g h f e = elim (chosen (bytes_eq w (codes "thread")) _ _ g e) [
  | inl thread ↦ later_told place.Script s w ws g (refl, f.1, h) thread.1
  | inr other ↦ elim (chosen (bytes_eq w (codes "order")) _ _ g other.1) [
    | inl order ↦ later_told place.Script s w ws g (refl, f.1, h) order.1
    | inr call ↦ call_told s w ws g h f call.1
  ]
]

end_told : (s : Plan) (w : Word) (ws : List Word) (g : Front) → HasText s → line_at place.Ordered s w ws ≡ Ok g → Takes (reading place.Ordered s) (w ∷ ws) g
unfolding line_at
end_told s w ws g h e =
    let k = guard_then (bytes_eq w (codes "end")) (finished ws (reading place.Ended s)) why.Word g e in
    let d = finished_takes ws (reading place.Ended s) g k.1 in
    subst (Takes (reading place.Ordered s) (w ∷ ws)) d.1
    (rw (word_takes w (codes "end") k.0, d.0) (sym (append_assoc (declared s) (text.order_words s.order ∷ []) ((codes "end" ∷ []) ∷ []))), (h, tt))

step_told : (f g : Front) (ws : List Word) → Holds f → step f ws ≡ Ok g → Takes f ws g
unfolding step line_at
step_told f g [] h e = absurd cc
step_told start g (w ∷ ws) h e =
    let b = bind_ok (grammar.head_line w ws) (λ first. Ok (headed first)) g e in
    subst (Takes start (w ∷ ws)) (ok_is (headed b.0) g b.2) (ap (λ (x : List Word). x ∷ []) (sym (head_takes w ws b.0 b.1)), tt)
step_told (headed first) g (w ∷ ws) h e =
    let b = bind_ok (grammar.system_line first w ws) (λ said. Ok (reading place.Tasks (grammar.opened said.0 said.1))) g e in
    let k = system_takes first w ws b.0 b.1 in
    subst (Takes (headed first) (w ∷ ws)) (ok_is (reading place.Tasks (grammar.opened b.0.0 b.0.1)) g b.2)
    (system_told first b.0.0 b.0.1 (w ∷ ws) k.0 k.1, (opened-holds b.0.0 b.0.1 k.2 k.3, (refl, refl, refl, refl)))
step_told (reading place.Tasks s) g (w ∷ ws) h e = task_told s w ws g h.0 h.1 e
step_told (reading place.Objects s) g (w ∷ ws) h e = declaring_told place.Objects s w ws g (refl, h.1.2, h.0) h.1.0 h.1.1 e
step_told (reading place.Script s) g (w ∷ ws) h e = script_told s w ws g h.0 h.1 e
step_told (reading place.Ordered s) g (w ∷ ws) h e = end_told s w ws g h.0 e
step_told (reading place.Ended s) g (w ∷ ws) h e = absurd cc

run_told : (f g : Front) (ls : List (List Word)) → Holds f → run f ls ≡ Ok g → (told g ≡ told f ++ ls) × Holds g
run_told f g [] h e =
    let same : f ≡ g = ok_is f g e in
    (ap told (sym same) ∙ sym (append-nil (told f)), subst Holds same h)
run_told f g (l ∷ ls) h e =
    let b = bind_ok (step f l) (λ x. run x ls) g e in
    let one = step_told f b.0 l h b.1 in
    let more = run_told b.0 g ls one.1 b.2 in
    (more.0 ∙ ap (λ (x : List (List Word)). x ++ ls) one.0 ∙ append_assoc (told f) (l ∷ []) ls, more.1)

lines_join : (a b c d : List (List Word)) → (a ++ (b ++ c)) ++ d ≡ a ++ (b ++ (c ++ d))
lines_join a b c d = simp append_assoc

-- lines that lead to a scenario are those of its text
pub run-lines : (s : Plan) (ls : List (List Word)) → run start ls ≡ Ok (reading place.Ended s) → (ls ≡ text.scenario_lines s) × HasText s
run-lines s ls e =
    let t = run_told start (reading place.Ended s) ls tt e in (
      sym t.0 ∙ ap (λ (x : List (List Word)). text.head_words s.form ∷ text.system_words s.form s.boot.params ∷ x)
          (lines_join (text.task_lines s.form 0 s.boot.tasks) (text.object_lines 0 s.boot.objects) (text.thread_lines 0 s.boot.sides s.scripts) (text.last_lines s.order)),
      t.1.0,
    )
