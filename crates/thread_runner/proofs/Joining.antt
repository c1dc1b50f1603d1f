-- Passes that are joined, and the history of all.
use Rattle.std.proofs.Common.{◌≡◌, ℕ, ◌+◌, ◌<◌, Bool, true, false, not, ◌&&◌, ◌||◌, cond, List, [], ◌∷◌, ◌++◌, length, map, reverse, Some, IsTrue, refl, sym, ap, ◌∙◌, subst, arith, eqb, inl, inr}
use Rattle.std.specs.Prelude.{is_some, nat_lt, if◌then◌else◌}
use Rattle.std.specs.List.{All, AllByRecursion, IsDistinct, list_any}
use Rattle.std.proofs.lemmas.Bool.{and_parts, false≢true, ne_eqb}
use Rattle.std.proofs.lemmas.Bool.Decides.{nat_tests, eqb_tells}
use Rattle.std.proofs.lemmas.List.{length-append, reverse-append, reverse-reverse}
use Rattle.std.proofs.lemmas.List.Elements.{All-pop}
use Rattle.kern_ids.specs.declared.entries.Entry.{Entry}
use Rattle.kernel_model.specs.System.{System}
use Rattle.kernel_model.specs.Events.{task_of}
use Rattle.kernel_model.specs.Histories.{fits, names_fit, same, is_task_call, Legal, IsLegal}
use Rattle.kernel_model.specs.Scenario.{Plan, IsValid, script}
use Rattle.turn_lock.specs.Histories.{list_in, entries_of}
use Rattle.turn_lock.specs.Passes.{gathered_by, numbers_of, weight_of}
use Rattle.turn_lock.proofs.Ends.{each_key}
use Rattle.kernel_shared.specs.Calls.{KernelTable, KernelPass, IsIdleOf, pass_count}
use Rattle.thread_runner.specs.declared.threads.Finished.{Finished}
use Rattle.kernel_model.specs.Whole.{IsWhole, calls_of}
use Rattle.thread_runner.specs.Threads.{IsFinished, IsScripted, IsJoined}

-- the last of a list is taken out
pub popped : {A : Type 0} (P : A → Type 0) (xs ys : List A) (x : A) → xs ≡ ys ++ x ∷ [] → All P xs → All P ys × P x
popped P xs ys x e h = All-pop P xs ys (Some x) e h

pub popped-length : {A : Type 0} (xs ys : List A) (x : A) → xs ≡ ys ++ x ∷ [] → length xs ≡ length ys + 1
popped-length xs ys x e = ap length e ∙ length-append ys (x ∷ [])

pub not-false : (b : Bool) → not b ≡ false → b ≡ true
not-false true h = refl
not-false false h = absurd (false≢true (sym h))

all_append : {A : Type 0} (P : A → Type 0) (xs ys : List A) → AllByRecursion P xs → AllByRecursion P ys → AllByRecursion P (xs ++ ys)
all_append P [] ys p q = q
all_append P (x ∷ xs) ys p q = (p.0, all_append P xs ys p.1 q)

all_weaker : {A : Type 0} (P Q : A → Type 0) → ((x : A) → P x → Q x) → (xs : List A) → AllByRecursion P xs → AllByRecursion Q xs
all_weaker P Q f [] h = tt
all_weaker P Q f (x ∷ xs) h = (f x h.0, all_weaker P Q f xs h.1)

distinct_one : (n : ℕ) (gs : List (ℕ × List Entry)) → gs ≡ [] → IsDistinct eqb (n ∷ map (λ g. g.0) gs)
unfolding IsDistinct
distinct_one n gs e = subst (λ (xs : List (ℕ × List Entry)). IsDistinct eqb (n ∷ map (λ g. g.0) xs)) (sym e) (tt, tt)

module _ (t : KernelTable) (s : Plan) where
  -- a pass alone
  pub alone-distinct : (f : Finished) → IsFinished t s f → IsDistinct eqb (numbers_of f.pass)
  alone-distinct f h = distinct_one f.pass.number f.pass.others h.alone

  pub alone-weight : (f : Finished) → IsFinished t s f → weight_of f.pass ≡ 1
  alone-weight f h = ap (λ (gs : List (ℕ × List Entry)). length ((f.pass.number, f.pass.mine) ∷ gs)) h.alone

  pub alone-scripted : (f : Finished) → IsFinished t s f → f.whole ≡ true → AllByRecursion (IsScripted t s) (gathered_by f.pass)
  alone-scripted f h w = ((h.below, h.calls w), subst (AllByRecursion (IsScripted t s)) (sym h.alone) tt)

  -- a pass that took in another
  pub joined-idle : (old new : KernelPass) (seen : List Entry) (others : List (ℕ × List Entry)) → new ≡ record old { seen = seen; others = others } → IsIdleOf t old → IsIdleOf t new
  joined-idle old new seen others e i = subst (IsIdleOf t) (sym e) i

  pub joined-scripted : (old new other : KernelPass) (seen : List Entry) (others : List (ℕ × List Entry)) → new ≡ record old { seen = seen; others = others } → others ≡ old.others ++ gathered_by other
      → AllByRecursion (IsScripted t s) (gathered_by old) → AllByRecursion (IsScripted t s) (gathered_by other) → AllByRecursion (IsScripted t s) (gathered_by new)
  joined-scripted old new other seen others e o p q =
      subst (λ (x : KernelPass). AllByRecursion (IsScripted t s) (gathered_by x)) (sym e)
      (p.0, subst (AllByRecursion (IsScripted t s)) (sym o) (all_append (IsScripted t s) old.others (gathered_by other) p.1 q))

-- each thread of a legal history is declared
legal_all : (boot : System) (P : Entry → Type 0) → ((e : Entry) → IsTrue (fits boot e.who e.call) → P e) → (past : List Entry) → IsLegal boot past → AllByRecursion P past
legal_all boot P h [] l = tt
legal_all boot P h (e ∷ past) l = (h e l.0, legal_all boot P h past l.2)

all_reverse : {A : Type 0} (P : A → Type 0) (xs : List A) → AllByRecursion P xs → AllByRecursion P (reverse xs)
all_reverse P [] h = tt
all_reverse P (x ∷ xs) h = subst (AllByRecursion P) (sym (reverse-append (x ∷ []) xs)) (all_append P (reverse xs) (x ∷ []) (all_reverse P xs h.1) (h.0, tt))

declared_who : (boot : System) (e : Entry) → IsTrue (fits boot e.who e.call) → e.who < length boot.sides
declared_who boot e f =
    let parts = and_parts (nat_lt e.who (length boot.sides) && same (is_task_call e.call) (is_some (task_of boot e.who))) (names_fit boot e.call) f in
    let declared = (and_parts (nat_lt e.who (length boot.sides)) (same (is_task_call e.call) (is_some (task_of boot e.who))) parts.0).0 in
    grind (arith, nat_tests, declared)

legal_declared : (boot : System) (n : ℕ) (h : List Entry) → length boot.sides ≡ n → Legal boot h → AllByRecursion (λ e. e.who < n) h
legal_declared boot n h e l =
    let P = λ (x : Entry). x.who < n in
    subst (AllByRecursion P) (reverse-reverse h)
    (all_reverse P (reverse h) (legal_all boot P (λ (x : Entry) (f : IsTrue (fits boot x.who x.call)). let w = declared_who boot x f in omega arith) (reverse h) l))

-- what is kept under a number is its script
under : (t : KernelTable) (s : Plan) (gs : List (ℕ × List Entry)) (n : ℕ) → AllByRecursion (IsScripted t s) gs → list_any (eqb n) (map (λ g. g.0) gs) ≡ true → calls_of (list_in n gs) ≡ script s n
under t s [] n h k = absurd (false≢true k)
under t s (g ∷ gs) n h k = elim (eqb_tells g.0 n) [
  | inl here ↦
      let e : g.0 ≡ n = here.1 in
      ap (λ (b : Bool). calls_of (cond b g.1 (list_in n gs))) here.0 ∙ (h.0.1 ∙ ap (script s) e)
  | inr there ↦
      let rest : list_any (eqb n) (map (λ (x : ℕ × List Entry). x.0) gs) ≡ true =
      sym (ap (λ (b : Bool). b || list_any (eqb n) (map (λ (x : ℕ × List Entry). x.0) gs)) (ne_eqb n g.0 (λ q. there.1 (sym q)))) ∙ k in
      ap (λ (b : Bool). calls_of (cond b g.1 (list_in n gs))) there.0 ∙ under t s gs n h.1 rest
]

few_passes : (n : ℕ) (sides : List Rattle.kernel_model.specs.declared.boot.Side.Side) → n < length sides → n < pass_count sides
few_passes n [] l = absurd (omega arith)
few_passes n (x ∷ xs) l = subst (λ (b : Bool). n < (if b then 1 else length (x ∷ xs))) (sym (ne_eqb (length (x ∷ xs)) 0 (λ e. omega arith))) l

pub whole-history : (s : Plan) (t : KernelTable) (p : KernelPass) (h : List Entry) (count : ℕ) → IsValid s → t.base ≡ s.boot → t.passes ≡ pass_count s.boot.sides → count ≡ t.passes → IsJoined t s count p → Legal t.base h
    → ((n : ℕ) → n < t.passes → entries_of (λ e. e.who) n h ≡ list_in n (gathered_by p)) → IsWhole s h
whole-history s t p h count v base passes all j legal lists =
    let below : AllByRecursion (λ g. g.0 < t.passes) (gathered_by p) = all_weaker (IsScripted t s) (λ g. g.0 < t.passes) (λ g q. q.0) (gathered_by p) j.scripted in
    record {
      declared = legal_declared s.boot (length s.scripts) h (sym v.scripts) (subst (λ b. Legal b h) base legal);
      scripts = λ n l.
          let m : n < t.passes = subst (λ (k : ℕ). n < k) (sym passes) (few_passes n s.boot.sides (let e = v.scripts in omega arith)) in
          ap calls_of (lists n m) ∙ under t s (gathered_by p) n j.scripted (each_key t.passes (gathered_by p) below j.distinct (j.weight ∙ all) n m);
    }
