-- A replay that is fed one entry more.
use Rattle.std.proofs.Common.{◌≡◌, ℕ, zero, suc, ◌+◌, ◌<◌, ◌≤◌, List, [], ◌∷◌, ◌++◌, length, get_or, set, Bool, true, false, nat_eq, nat_lt, Option, Some, None, ◌&&◌, refl, sym, ap, ap₂, ◌∙◌, arith, inl, inr, length-append, is_some, cond}
use Rattle.std.specs.Prelude.{slice_get}
use Rattle.std.specs.Option.{option_map_or, unwrap_or}
use Rattle.std.proofs.lemmas.Bool.{cases_eq, and_left, and_right, lt-ltb, le-ltb}
use Rattle.std.proofs.lemmas.List.{get_or-set_same, get_or-set_other, length-set}
use Rattle.kern_ids.specs.declared.entries.Entry.{Entry}
use Rattle.kern_ids.specs.declared.calls.Call.{Call}
use Rattle.kern_ids.specs.declared.replies.Reply.{Reply}
use Rattle.kernel_model.specs.Lists.{some_if}
use Rattle.kernel_model.specs.Scenario.{Plan, script}
use Rattle.slow_kernel.specs.ObjectTables.{or_else}
use Rattle.slow_kernel.proofs.Firsts.{first_some_more}
use Rattle.replay_check.specs.declared.verdicts.Verdict.{Verdict}
use Rattle.replay_check.specs.declared.verdicts.Verdict.TheVariants.{Legal, WrongReply, WrongCall, Missing}
use Rattle.replay_check.specs.Same.{same_call, same_reply}
use Rattle.replay_check.specs.Verdicts.{is_call_at, is_next, reply_due, entry_fault, first_fault, has_more, unspent, verdict_of}
use Rattle.kernel_model.specs.Whole.{of_thread}
use Rattle.replay_check.specs.Replays.{ReplayView, StandsFor, first_unspent}
use Rattle.replay_check.proofs.Sames.{same_reply-true}
use Rattle.replay_check.proofs.Faults.{first_some-alike, first_fault-push, entry_fault-call, entry_fault-reply, entry_fault-right}
use Rattle.replay_check.proofs.Begun.{of_thread-own, of_thread-other}

or_else-some : {A : Type 0} (o rest : Option A) → is_some o ≡ true → or_else o rest ≡ o
or_else-some None rest h = cc
or_else-some (Some x) rest h = refl

none-some : {A : Type 0} (o : Option A) → is_some o ≡ true → o ≡ None → ⊥
none-some None h e = cc
none-some (Some x) h e = cc

-- with a fault it stands for each entry more
pub stands-faulty : (s : Plan) (es : List Entry) (e : Entry) (r : ReplayView) → StandsFor s es r → is_some r.fault ≡ true → StandsFor s (es ++ e ∷ []) r
stands-faulty s es e r stands some = record {
  boot = stands.boot;
  threads = stands.threads;
  fault = stands.fault ∙ sym (first_fault-push s es e ∙ or_else-some (first_fault s es) (entry_fault s es e) (ap is_some (sym stands.fault) ∙ some));
  history = λ none. absurd (none-some r.fault some none);
  made = λ none. absurd (none-some r.fault some none);
}

pub none-from : {A : Type 0} (o : Option A) → is_some o ≡ false → o ≡ None
none-from None h = refl
none-from (Some x) h = cc

-- the first fault is that of the entry
pub stands-fault : (s : Plan) (es : List Entry) (e : Entry) (r next : ReplayView) (fault : Verdict) → StandsFor s es r → r.fault ≡ None → entry_fault s es e ≡ Some fault
    → next.boot ≡ r.boot → next.made ≡ r.made → next.fault ≡ Some fault → StandsFor s (es ++ e ∷ []) next
stands-fault s es e r next fault stands none here boot made is =
    let some : is_some next.fault ≡ true = ap is_some is in
    record {
      boot = boot ∙ stands.boot;
      threads = ap length made ∙ stands.threads;
      fault = is ∙ sym (first_fault-push s es e ∙ ap₂ or_else (sym stands.fault ∙ none) here);
      history = λ none. absurd (none-some next.fault some none);
      made = λ none. absurd (none-some next.fault some none);
    }

-- its call isn't the next of its script
pub stands-wrong_call : (s : Plan) (es : List Entry) (e : Entry) (r next : ReplayView) (k place : ℕ) → StandsFor s es r → r.fault ≡ None → k ≡ length (of_thread e.who es) → place ≡ length es
    → is_call_at s e.who e.call k ≡ false → next.boot ≡ r.boot → next.made ≡ r.made → next.fault ≡ Some (WrongCall place) → StandsFor s (es ++ e ∷ []) next
stands-wrong_call s es e r next k place stands none count here wrong boot made is =
    stands-fault s es e r next (WrongCall place) stands none
    (entry_fault-call s es e (ap (is_call_at s e.who e.call) (sym count) ∙ wrong) ∙ ap (λ (n : ℕ). Some (WrongCall n)) (sym here))
    boot made is

-- its reply isn't the kernel's
pub stands-wrong_reply : (s : Plan) (es : List Entry) (e : Entry) (r next : ReplayView) (k place : ℕ) (expected : Reply) → StandsFor s es r → r.fault ≡ None → k ≡ length (of_thread e.who es) → place ≡ length es
    → is_call_at s e.who e.call k ≡ true → expected ≡ reply_due s es e → same_reply e.reply expected ≡ false
    → next.boot ≡ r.boot → next.made ≡ r.made → next.fault ≡ Some (WrongReply place expected) → StandsFor s (es ++ e ∷ []) next
stands-wrong_reply s es e r next k place expected stands none count here right due wrong boot made is =
    stands-fault s es e r next (WrongReply place expected) stands none
    (entry_fault-reply s es e (ap (is_call_at s e.who e.call) (sym count) ∙ right) (ap (same_reply e.reply) (sym due) ∙ wrong)
    ∙ ap₂ (λ (n : ℕ) (x : Reply). Some (WrongReply n x)) (sym here) (sym due))
    boot made is

pub length-of_thread : (n : ℕ) (es : List Entry) → length (of_thread n es) ≤ length es
length-of_thread n [] = omega arith
length-of_thread n (e ∷ es) = elim (nat_eq e.who n) as (λ (b : Bool). length (cond b (e ∷ of_thread n es) (of_thread n es)) ≤ length (e ∷ es)) [
  | true ↦ omega (arith, length-of_thread n es)
  | false ↦ omega (arith, length-of_thread n es)
]

made-more : (made : List ℕ) (es : List Entry) (e : Entry) → e.who < length made → ((n : ℕ) → n < 32 → get_or made n 0 ≡ length (of_thread n es)) → (n : ℕ) → n < 32
    → get_or (set made e.who (get_or made e.who 0 + 1)) n 0 ≡ length (of_thread n (es ++ e ∷ []))
made-more made es e l was n m = elim (cases_eq e.who n) [
  | inl same ↦
      let own : get_or made e.who 0 ≡ length (of_thread n es) = ap (λ (k : ℕ). get_or made k 0) same ∙ was n m in
      ap (λ (k : ℕ). get_or (set made e.who (get_or made e.who 0 + 1)) k 0) (sym same)
      ∙ get_or-set_same made e.who (get_or made e.who 0 + 1) 0 l
      ∙ ap (λ (k : ℕ). k + 1) own
      ∙ sym (ap length (of_thread-own n es e same) ∙ length-append (of_thread n es) (e ∷ []))
  | inr other ↦
      get_or-set_other made e.who n (get_or made e.who 0 + 1) 0 (λ back. other (sym back))
      ∙ was n m ∙ sym (ap length (of_thread-other n es e other))
]

-- the entry is right
pub stands-right : (s : Plan) (es : List Entry) (e : Entry) (r next : ReplayView) → StandsFor s es r → r.fault ≡ None → is_next s es e ≡ true → same_reply e.reply (reply_due s es e) ≡ true
    → e.who < 32 → next.boot ≡ r.boot → next.history ≡ r.history ++ record e { reply = reply_due s es e } ∷ [] → next.made ≡ set r.made e.who (get_or r.made e.who 0 + 1) → next.fault ≡ None
    → StandsFor s (es ++ e ∷ []) next
stands-right s es e r next stands none right same l boot history made is =
    let reply : e.reply ≡ reply_due s es e = same_reply-true e.reply (reply_due s es e) same in
    let entry : record e { reply = reply_due s es e } ≡ e = ap (λ (x : Reply). record e { reply = x }) (sym reply) in
    record {
      boot = boot ∙ stands.boot;
      threads = ap length made ∙ length-set r.made e.who (get_or r.made e.who 0 + 1) ∙ stands.threads;
      fault = is ∙ sym (first_fault-push s es e ∙ ap₂ or_else (sym stands.fault ∙ none) (entry_fault-right s es e right same));
      history = λ _. history ∙ ap₂ (λ (h : List Entry) (x : Entry). h ++ x ∷ []) (stands.history none) entry;
      made = λ _ n m. ap (λ (xs : List ℕ). get_or xs n 0) made ∙ made-more r.made es e (let t = stands.threads in omega arith) (stands.made none) n m;
    }

pub first_unspent-zero : (s : Plan) (made : List ℕ) → first_unspent s made 0 ≡ None
unfolding first_unspent
first_unspent-zero s made = refl

pub first_unspent-more : (s : Plan) (made : List ℕ) (k : ℕ) → first_unspent s made (k + 1) ≡ or_else (first_unspent s made k) (some_if (has_more s k (get_or made k 0)) k)
unfolding first_unspent
first_unspent-more s made k = first_some_more (λ (n : ℕ). some_if (has_more s n (get_or made n 0)) n) k

-- it knows what each thread has made
pub first_unspent-all : (s : Plan) (es : List Entry) (made : List ℕ) → length s.scripts ≤ 32 → ((n : ℕ) → n < 32 → get_or made n 0 ≡ length (of_thread n es)) → first_unspent s made (length s.scripts) ≡ unspent s es
unfolding first_unspent unspent
first_unspent-all s es made few was =
    first_some-alike (λ (n : ℕ). some_if (has_more s n (get_or made n 0)) n) (λ (n : ℕ). some_if (has_more s n (length (of_thread n es))) n) 0 (length s.scripts)
    (λ k l m. ap (λ (j : ℕ). some_if (has_more s k j) k) (was k (omega arith)))

pub verdict-fault : (s : Plan) (es : List Entry) (fault : Verdict) → first_fault s es ≡ Some fault → fault ≡ verdict_of s es
unfolding verdict_of
verdict-fault s es fault e = ap (λ (f : Option Verdict). unwrap_or f (option_map_or Missing (unspent s es) Legal)) (sym e)

pub verdict-end : (s : Plan) (es : List Entry) (left : Option ℕ) → first_fault s es ≡ None → left ≡ unspent s es → option_map_or Missing left Legal ≡ verdict_of s es
unfolding verdict_of
verdict-end s es left e u = ap₂ (λ (f : Option Verdict) (o : Option ℕ). unwrap_or f (option_map_or Missing o Legal)) (sym e) u

pub undeclared : (s : Plan) (n : ℕ) (call : Call) (k : ℕ) → length s.scripts ≤ n → is_call_at s n call k ≡ false
unfolding is_call_at
undeclared s n call k l = and_left (nat_lt n (length s.scripts)) (option_map_or (same_call call) (slice_get (script s n) k) false) (le-ltb n (length s.scripts) l)

pub call_at-some : (s : Plan) (n : ℕ) (call other : Call) (k : ℕ) → n < length s.scripts → slice_get (script s n) k ≡ Some other → is_call_at s n call k ≡ same_call call other
unfolding is_call_at
call_at-some s n call other k l here = ap₂ (λ (b : Bool) (o : Option Call). b && option_map_or (same_call call) o false) (lt-ltb n (length s.scripts) l) here

pub call_at-none : (s : Plan) (n : ℕ) (call : Call) (k : ℕ) → slice_get (script s n) k ≡ None → is_call_at s n call k ≡ false
unfolding is_call_at
call_at-none s n call k here =
    and_right (nat_lt n (length s.scripts)) (option_map_or (same_call call) (slice_get (script s n) k) false) (ap (λ (o : Option Call). option_map_or (same_call call) o false) here)

pub has_none : (s : Plan) (made : List ℕ) (n thread calls : ℕ) → thread ≡ n → calls ≡ length (script s thread) → calls ≤ get_or made n 0 → some_if (has_more s n (get_or made n 0)) n ≡ None
has_none s made n thread calls same long l =
    let all : calls ≡ length (script s n) = long ∙ ap (λ (k : ℕ). length (script s k)) same in
    ap (λ (b : Bool). some_if b n) (le-ltb (get_or made n 0) (length (script s n)) (omega arith))

pub has_some : (s : Plan) (made : List ℕ) (n thread calls : ℕ) → thread ≡ n → calls ≡ length (script s thread) → get_or made n 0 < calls → some_if (has_more s n (get_or made n 0)) n ≡ Some n
has_some s made n thread calls same long l =
    let all : calls ≡ length (script s n) = long ∙ ap (λ (k : ℕ). length (script s k)) same in
    ap (λ (b : Bool). some_if b n) (lt-ltb (get_or made n 0) (length (script s n)) (omega arith))

pub first_unspent-found : (s : Plan) (made : List ℕ) (n m : ℕ) → first_unspent s made n ≡ None → some_if (has_more s n (get_or made n 0)) n ≡ Some n → n < m → first_unspent s made m ≡ Some n
first_unspent-found s made n zero none here l = absurd (omega arith)
first_unspent-found s made n (suc m) none here l =
    let one : suc m ≡ m + 1 = omega arith in
    ap (first_unspent s made) one ∙ first_unspent-more s made m ∙ elim (cases_eq m n) [
      | inl same ↦ ap (λ (k : ℕ). or_else (first_unspent s made k) (some_if (has_more s k (get_or made k 0)) k)) same ∙ ap₂ or_else none here
      | inr other ↦ ap (λ (o : Option ℕ). or_else o (some_if (has_more s m (get_or made m 0)) m)) (first_unspent-found s made n m none here (omega arith))
    ]
