-- A valid scenario stays valid as it grows.
use Rattle.std.proofs.Common.{◌≡◌, ℕ, zero, suc, ◌+◌, ◌<◌, ◌≤◌, List, [], ◌∷◌, ◌++◌, length, get_or, set, ◌⊎◌, Bool, true, false, ◌&&◌, IsTrue, Result, Ok, Err, refl, sym, ap, ◌∙◌, subst, arith, inl, inr, ltb, All}
use Rattle.std.specs.Result.{OnOk, OnErr}
use Rattle.std.specs.Prelude.{slice_get, option_and_then, sum_by}
use Rattle.std.proofs.lemmas.Bool.{and_parts, and_from, ltb-true, ltb-false, lt-ltb}
use Rattle.std.proofs.lemmas.Bool.Decides.{eqb_tells}
use Rattle.std.proofs.lemmas.List.{length-append, length-set, get_or-set_same, get_or-set_other, get_or_append_left, get_or-append-add}
use Rattle.std.proofs.lemmas.List.Elements.{All-nil, All-push, All-set}
use Rattle.std.proofs.lemmas.List.Sums.{sum_by-append, sum_by-set}
use Rattle.kern_ids.specs.declared.calls.Call.{Call}
use Rattle.kern_ids.specs.declared.calls.Call.TheVariants.{Map, Unmap, Write, Read, SetState, GetState, Active, Ledger, Exit, PurgeOne, Forced, Scan, Tick, Jetsam, SetBand, SetLimits, Info, Purgeables, Attach}
use Rattle.kernel_model.specs.declared.boot.ObjBoot.{ObjBoot}
use Rattle.kernel_model.specs.declared.boot.Side.{Side}
use Rattle.kernel_model.specs.System.{System}
use Rattle.kernel_model.specs.Valid.{IsValidObject, IsValidSide, IsValidCall}
use Rattle.kernel_model.specs.Histories.{fits, names_fit, declares_object, is_task_call, same}
use Rattle.kernel_model.specs.Events.{task_of, task_of_side}
use Rattle.kernel_model.specs.Scenario.{Plan, IsValid, script, call_count}

-- what holds of the new value and of the old one holds after the call, whichever it left
pub after : {A E B : Type 0} (P : B → Type 0) (r : Result A E) (new old more : B) → OnOk r (new ≡ more) → OnErr r (new ≡ old) → P more → P old → P new
after P (Ok x) new old more e f p q = subst P (sym e) p
after P (Err x) new old more e f p q = subst P (sym f) q

-- what is kept at each element is kept of all
pub All-map : {A : Type 0} (P Q : A → Type 0) (xs : List A) → ((x : A) → P x → Q x) → All P xs → All Q xs
All-map P Q xs f h = λ k d l. f (get_or xs k d) (h k d l)

bool_cases : (b : Bool) → (b ≡ true) ⊎ (b ≡ false)
bool_cases true = inl refl
bool_cases false = inr refl

split_lt : (n m : ℕ) → (n < m) ⊎ (m ≤ n)
split_lt n m = elim (bool_cases (ltb n m)) [ inl below ↦ inl (ltb-true n m below) | inr above ↦ inr (ltb-false n m above) ]

below_more : {A : Type 0} (xs : List A) (x : A) (n : ℕ) → IsTrue (ltb n (length xs)) → IsTrue (ltb n (length (xs ++ x ∷ [])))
below_more xs x n h = lt-ltb n (length (xs ++ x ∷ [])) (omega (arith, ltb-true n (length xs) h, length-append xs (x ∷ [])))

abbrev HaveRanges : List Call → Type 0
HaveRanges script = All IsValidCall script

abbrev with_object : System → ObjBoot → System
with_object b o = record b { objects = b.objects ++ o ∷ [] }

-- an object more, and what fits still fits
object_names : (b : System) (o : ObjBoot) (c : Call) → IsTrue (names_fit b c) → IsTrue (names_fit (with_object b o) c)
object_names b o (Map x) h = below_more b.objects o x h
object_names b o (Attach x) h = below_more b.objects o x h
object_names b o (Unmap x) h = below_more b.objects o x h
object_names b o (Write x off bytes) h =
    let p = and_parts (declares_object b x) (ltb 0 (length bytes)) h in
    and_from (declares_object (with_object b o) x) (ltb 0 (length bytes)) (below_more b.objects o x p.0) p.1
object_names b o (Read x off len) h = below_more b.objects o x h
object_names b o (SetState x word) h = below_more b.objects o x h
object_names b o (GetState x) h = below_more b.objects o x h
object_names b o (Active on) h = h
object_names b o Ledger h = h
object_names b o Exit h = h
object_names b o PurgeOne h = h
object_names b o Forced h = h
object_names b o Scan h = h
object_names b o Tick h = h
object_names b o Jetsam h = h
object_names b o (SetBand t band) h = h
object_names b o (SetLimits t x y) h = h
object_names b o Info h = h
object_names b o Purgeables h = h

object_fits : (b : System) (o : ObjBoot) (n : ℕ) (c : Call) → IsTrue (fits b n c) → IsTrue (fits (with_object b o) n c)
object_fits b o n c h =
    let p = and_parts (ltb n (length b.sides) && same (is_task_call c) (Rattle.std.specs.Prelude.is_some (task_of b n))) (names_fit b c) h in
    and_from _ (names_fit (with_object b o) c) p.0 (object_names b o c p.1)

pub object_more : (s : Plan) (o : ObjBoot) → length s.boot.objects < 256 → IsValidObject (length s.boot.tasks) o → IsValid s → IsValid (record s { boot = with_object s.boot o })
object_more s o room valid v = record {
  boot = record {
    params = v.boot.params;
    few_tasks = v.boot.few_tasks;
    few_objects = omega (arith, length-append s.boot.objects (o ∷ []));
    few_sides = v.boot.few_sides;
    tasks = v.boot.tasks;
    objects = All-push (IsValidObject (length s.boot.tasks)) s.boot.objects o v.boot.objects valid;
    sides = v.boot.sides;
  };
  form = v.form;
  tasks = v.tasks;
  bands = v.bands;
  scripts = v.scripts;
  calls = λ n l. All-map (λ c. IsTrue (fits s.boot n c)) (λ c. IsTrue (fits (with_object s.boot o) n c)) (script s n) (λ c. object_fits s.boot o n c) (v.calls n l);
  ranges = v.ranges;
  few_calls = v.few_calls;
  order = v.order;
  few_turns = v.few_turns;
}

abbrev with_side : System → Side → System
with_side b side = record b { sides = b.sides ++ side ∷ [] }

pub slice_get-append_left : {A : Type 0} (xs ys : List A) (n : ℕ) → n < length xs → slice_get (xs ++ ys) n ≡ slice_get xs n
slice_get-append_left [] ys n l = absurd (omega arith)
slice_get-append_left (x ∷ xs) ys zero l = refl
slice_get-append_left (x ∷ xs) ys (suc n) l = slice_get-append_left xs ys n (omega arith)

-- a thread more, and what fits the others still fits
side_fits : (b : System) (side : Side) (n : ℕ) (c : Call) → IsTrue (fits b n c) → IsTrue (fits (with_side b side) n c)
side_fits b side n c h =
    let p = and_parts (ltb n (length b.sides) && same (is_task_call c) (Rattle.std.specs.Prelude.is_some (task_of b n))) (names_fit b c) h in
    let q = and_parts (ltb n (length b.sides)) (same (is_task_call c) (Rattle.std.specs.Prelude.is_some (task_of b n))) p.0 in
    let same_task : task_of (with_side b side) n ≡ task_of b n =
    ap (option_and_then task_of_side) (slice_get-append_left b.sides (side ∷ []) n (ltb-true n (length b.sides) q.0)) in
    and_from _ (names_fit b c)
    (and_from (ltb n (length (b.sides ++ side ∷ []))) _ (below_more b.sides side n q.0) (rw same_task q.1))
    p.1

pub thread_more : (s : Plan) (side : Side) → length s.boot.sides < 32 → IsValidSide (length s.boot.tasks) side → IsValid s → IsValid (record s { boot = with_side s.boot side; scripts = s.scripts ++ [] ∷ [] })
thread_more s side room valid v =
    let boot = with_side s.boot side in
    let long = length-append s.scripts ([] ∷ []) in
    let sum = sum_by-append length s.scripts ([] ∷ []) in
    record {
      boot = record {
        params = v.boot.params;
        few_tasks = v.boot.few_tasks;
        few_objects = v.boot.few_objects;
        few_sides = omega (arith, length-append s.boot.sides (side ∷ []));
        tasks = v.boot.tasks;
        objects = v.boot.objects;
        sides = All-push (IsValidSide (length s.boot.tasks)) s.boot.sides side v.boot.sides valid;
      };
      form = v.form;
      tasks = v.tasks;
      bands = v.bands;
      scripts = let e = v.scripts in omega (arith, long, length-append s.boot.sides (side ∷ []));
      calls = λ n l. elim (split_lt n (length s.scripts)) [
        | inl old ↦ rw (get_or_append_left s.scripts ([] ∷ []) [] n old) (All-map (λ c. IsTrue (fits s.boot n c)) (λ c. IsTrue (fits boot n c)) (script s n) (λ c. side_fits s.boot side n c) (v.calls n old))
        | inr new ↦
            let here : n ≡ length s.scripts + 0 = omega (arith, long) in
            rw (here, get_or-append-add s.scripts ([] ∷ []) 0 []) (λ k d none. absurd (omega arith))
      ];
      ranges = All-push HaveRanges s.scripts [] v.ranges (All-nil IsValidCall);
      few_calls = let e = v.few_calls in omega (arith, sum);
      order = All-map (λ n. n < length s.scripts) (λ n. n < length (s.scripts ++ [] ∷ [])) s.order (λ n l. omega (arith, long)) v.order;
      few_turns = v.few_turns;
    }

abbrev with_call : Plan → ℕ → Call → List (List Call)
with_call s who call = set s.scripts who (script s who ++ call ∷ [])

pub call_count-more : (s : Plan) (who : ℕ) (call : Call) → who < length s.scripts → call_count (with_call s who call) ≡ call_count s.scripts + 1
call_count-more s who call l =
    omega (arith, sum_by-set length s.scripts who (script s who ++ call ∷ []) [] l, length-append (script s who) (call ∷ []))

pub call_more : (s : Plan) (who : ℕ) (call : Call) → IsValidCall call → call_count s.scripts < 200000 → IsTrue (fits s.boot who call) → who < length s.scripts → IsValid s → IsValid (record s { scripts = with_call s who call })
call_more s who call ranges room fit l v = record {
  boot = v.boot;
  form = v.form;
  tasks = v.tasks;
  bands = v.bands;
  scripts = length-set s.scripts who (script s who ++ call ∷ []) ∙ v.scripts;
  calls = λ n m.
      let m' : n < length s.scripts = rw (length-set s.scripts who (script s who ++ call ∷ [])) at m in
      elim (eqb_tells n who) [
        | inl here ↦
            let e : n ≡ who = here.1 in
            rw (e, get_or-set_same s.scripts who (script s who ++ call ∷ []) [] l) (All-push (λ c. IsTrue (fits s.boot who c)) (script s who) call (v.calls who l) fit)
        | inr other ↦ rw (get_or-set_other s.scripts who n (script s who ++ call ∷ []) [] other.1) (v.calls n m')
      ];
  ranges = All-set HaveRanges s.scripts who (script s who ++ call ∷ []) (All-push IsValidCall (script s who) call (v.ranges who [] l) ranges) v.ranges;
  few_calls = omega (arith, call_count-more s who call l);
  order = All-map (λ n. n < length s.scripts) (λ n. n < length (with_call s who call)) s.order (λ n b. rw (length-set s.scripts who (script s who ++ call ∷ [])) b) v.order;
  few_turns = v.few_turns;
}

-- a thread for which a call fits has a script
pub fits-thread : (s : Plan) (who : ℕ) (call : Call) → IsValid s → IsTrue (fits s.boot who call) → who < length s.scripts
fits-thread s who call v h =
    let p = and_parts (ltb who (length s.boot.sides) && same (is_task_call call) (Rattle.std.specs.Prelude.is_some (task_of s.boot who))) (names_fit s.boot call) h in
    let q = and_parts (ltb who (length s.boot.sides)) (same (is_task_call call) (Rattle.std.specs.Prelude.is_some (task_of s.boot who))) p.0 in
    omega (arith, ltb-true who (length s.boot.sides) q.0, v.scripts)
