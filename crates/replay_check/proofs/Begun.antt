-- A history without a fault is legal, and its scripts are begun; and the other way round.
use Rattle.std.proofs.Common.{◌≡◌, ℕ, ◌+◌, ◌<◌, ◌≤◌, List, [], ◌∷◌, ◌++◌, length, drop, reverse, Bool, true, false, nat_eq, nat_lt, Option, Some, None, IsTrue, refl, sym, ap, ap₂, ◌∙◌, subst, arith, inl, inr, length-append}
use Rattle.std.specs.Prelude.{filter, slice_get}
use Rattle.std.specs.Option.{option_map_or, unwrap_or}
use Rattle.std.specs.List.{range_with_len, AllByRecursion}
use Rattle.std.proofs.lemmas.Bool.{cases_eq, ltb-true, ltb-false, lt-ltb, le-ltb, eq-eqb, ne_eqb, and_parts, and_from}
use Rattle.std.proofs.lemmas.List.{append-nil, append_assoc, length-map, map-append, reverse-append, reverse-reverse}
use Rattle.std.proofs.lemmas.List.Elements.{filter-append}
use Rattle.std.proofs.lemmas.Option.{same_Some, slice_get_within, get_or_from_slice_get}
use Rattle.kern_ids.specs.declared.entries.Entry.{Entry}
use Rattle.kern_ids.specs.declared.calls.Call.{Call}
use Rattle.kernel_model.specs.Answers.{answer}
use Rattle.kernel_model.specs.Histories as histories
use Rattle.kernel_model.specs.Lists.{some_if}
use Rattle.kernel_model.specs.Scenario.{Plan, IsValid, script}
use Rattle.slow_kernel.specs.ObjectTables.{or_else}
use Rattle.replay_check.specs.declared.verdicts.Verdict.{Verdict}
use Rattle.replay_check.specs.declared.verdicts.Verdict.TheVariants.{Legal, Missing}
use Rattle.replay_check.specs.Same.{same_call, same_reply}
use Rattle.replay_check.specs.Verdicts.{is_call_at, is_next, reply_due, entry_fault, first_fault, has_more, unspent, verdict_of, AreFirst, IsBegun}
use Rattle.kernel_model.specs.Whole.{of_thread, calls_of, IsWhole}
use Rattle.replay_check.proofs.Sames.{same_call-true, same_call-refl, same_reply-true, same_reply-refl}
use Rattle.replay_check.proofs.Faults.{slice_get-append_seam, first_some-none, first_some-absent, or_else-none, first_fault-push, first_fault-none, first_fault-legal, entry_fault-right, right-entry}

only_if : (n : ℕ) (e : Entry) → nat_eq e.who n ≡ true → of_thread n (e ∷ []) ≡ e ∷ []
only_if n e h = rw h refl

none_if : (n : ℕ) (e : Entry) → nat_eq e.who n ≡ false → of_thread n (e ∷ []) ≡ []
none_if n e h = rw h refl

pub of_thread-own : (n : ℕ) (es : List Entry) (e : Entry) → e.who ≡ n → of_thread n (es ++ e ∷ []) ≡ of_thread n es ++ e ∷ []
of_thread-own n es e same =
    filter-append (λ (x : Entry). nat_eq x.who n) es (e ∷ []) ∙ ap (λ (rest : List Entry). of_thread n es ++ rest) (only_if n e (eq-eqb e.who n same))

pub of_thread-other : (n : ℕ) (es : List Entry) (e : Entry) → (e.who ≡ n → ⊥) → of_thread n (es ++ e ∷ []) ≡ of_thread n es
of_thread-other n es e other =
    filter-append (λ (x : Entry). nat_eq x.who n) es (e ∷ []) ∙ ap (λ (rest : List Entry). of_thread n es ++ rest) (none_if n e (ne_eqb e.who n other)) ∙ append-nil (of_thread n es)

calls-own : (n : ℕ) (es : List Entry) (e : Entry) → e.who ≡ n → calls_of (of_thread n (es ++ e ∷ [])) ≡ calls_of (of_thread n es) ++ e.call ∷ []
calls-own n es e same = ap calls_of (of_thread-own n es e same) ∙ map-append (λ (x : Entry). x.call) (of_thread n es) (e ∷ [])

all-push : {A : Type 0} (P : A → Type 0) (xs : List A) (x : A) → AllByRecursion P xs → P x → AllByRecursion P (xs ++ x ∷ [])
all-push P [] x h p = (p, tt)
all-push P (y ∷ ys) x h p = (h.0, all-push P ys x h.1 p)

all-front : {A : Type 0} (P : A → Type 0) (xs : List A) (x : A) → AllByRecursion P (xs ++ x ∷ []) → AllByRecursion P xs
all-front P [] x h = tt
all-front P (y ∷ ys) x h = (h.0, all-front P ys x h.1)

all-last : {A : Type 0} (P : A → Type 0) (xs : List A) (x : A) → AllByRecursion P (xs ++ x ∷ []) → P x
all-last P [] x h = h.0
all-last P (y ∷ ys) x h = all-last P ys x h.1

first-part : {A : Type 0} (xs : List A) (x : A) → slice_get xs 0 ≡ Some x → xs ≡ x ∷ drop 1 xs
first-part [] x h = cc
first-part (y ∷ ys) x h = ap (λ z. z ∷ ys) (same_Some y x h)

-- the list that begins with these, and has this next, begins with both
begins-more : (calls whole : List Call) (call : Call) → AreFirst calls whole → slice_get whole (length calls) ≡ Some call → AreFirst (calls ++ call ∷ []) whole
begins-more calls whole call first next =
    let rest = first.0 in
    let here : slice_get rest 0 ≡ Some call = sym (ap (λ (w : List Call). slice_get w (length calls)) first.1 ∙ slice_get-append_seam calls rest) ∙ next in
    (drop 1 rest, first.1 ∙ ap (λ (r : List Call). calls ++ r) (first-part rest call here) ∙ sym (append_assoc calls (call ∷ []) (drop 1 rest)))

begins-less : (calls whole : List Call) (call : Call) → AreFirst (calls ++ call ∷ []) whole → AreFirst calls whole
begins-less calls whole call first = (call ∷ first.0, first.1 ∙ append_assoc calls (call ∷ []) first.0)

begins-next : (calls whole : List Call) (call : Call) → AreFirst (calls ++ call ∷ []) whole → slice_get whole (length calls) ≡ Some call
begins-next calls whole call first =
    ap (λ (w : List Call). slice_get w (length calls)) (first.1 ∙ append_assoc calls (call ∷ []) first.0) ∙ slice_get-append_seam calls (call ∷ first.0)

found_call : (call : Call) (o : Option Call) → option_map_or (same_call call) o false ≡ true → o ≡ Some call
found_call call None h = cc
found_call call (Some other) h = ap Some (sym (same_call-true call other h))

pub call_at-parts : (s : Plan) (n : ℕ) (call : Call) (k : ℕ) → is_call_at s n call k ≡ true → (n < length s.scripts) × (slice_get (script s n) k ≡ Some call)
unfolding is_call_at
call_at-parts s n call k h =
    let p = and_parts (nat_lt n (length s.scripts)) (option_map_or (same_call call) (slice_get (script s n) k) false) h in
    (ltb-true n (length s.scripts) p.0, found_call call (slice_get (script s n) k) p.1)

pub call_at-from : (s : Plan) (n : ℕ) (call : Call) (k : ℕ) → n < length s.scripts → slice_get (script s n) k ≡ Some call → is_call_at s n call k ≡ true
unfolding is_call_at
call_at-from s n call k l h =
    and_from (nat_lt n (length s.scripts)) (option_map_or (same_call call) (slice_get (script s n) k) false) (lt-ltb n (length s.scripts) l)
    (ap (λ (o : Option Call). option_map_or (same_call call) o false) h ∙ same_call-refl call)

-- the call of a valid scenario's script fits
pub call_at-fits : (s : Plan) (n : ℕ) (call : Call) (k : ℕ) → IsValid s → is_call_at s n call k ≡ true → IsTrue (histories.fits s.boot n call)
call_at-fits s n call k v h =
    let p = call_at-parts s n call k h in
    at_place (script s n) k call p.1 (v.calls n p.0)
  where
    P : Call → Type 0
    P c = IsTrue (histories.fits s.boot n c)

    at_place : (calls : List Call) (i : ℕ) (c : Call) → slice_get calls i ≡ Some c → Rattle.std.specs.Prelude.All P calls → P c
    at_place calls i c e all = subst P (get_or_from_slice_get calls i c c e) (all i c (slice_get_within calls i c e))

begun-push : (s : Plan) (es : List Entry) (e : Entry) → IsBegun s es → is_next s es e ≡ true → IsBegun s (es ++ e ∷ [])
begun-push s es e begun next =
    let p = call_at-parts s e.who e.call (length (of_thread e.who es)) next in
    record {
      declared = all-push (λ (x : Entry). x.who < length s.scripts) es e begun.declared p.0;
      scripts = λ n l. elim (cases_eq e.who n) [
        | inl same ↦
            let here : slice_get (script s n) (length (calls_of (of_thread n es))) ≡ Some e.call =
            ap (slice_get (script s n)) (length-map (of_thread n es) (λ (x : Entry). x.call))
            ∙ ap (λ (m : ℕ). slice_get (script s m) (length (of_thread m es))) (sym same) ∙ p.1 in
            subst (λ (calls : List Call). AreFirst calls (script s n)) (sym (calls-own n es e same))
            (begins-more (calls_of (of_thread n es)) (script s n) e.call (begun.scripts n l) here)
        | inr other ↦ subst (λ (own : List Entry). AreFirst (calls_of own) (script s n)) (sym (of_thread-other n es e other)) (begun.scripts n l)
      ];
    }

order-more : (e : Entry) (before : List Entry) → reverse (e ∷ before) ≡ reverse before ++ e ∷ []
order-more e before = reverse-append (e ∷ []) before

pub begun-from : (s : Plan) → IsValid s → (past : List Entry) → first_fault s (reverse past) ≡ None → histories.IsLegal s.boot past × IsBegun s (reverse past)
begun-from s v [] h = (tt, record { declared = tt; scripts = λ n l. (script s n, refl) })
begun-from s v (e ∷ before) h =
    let es : List Entry = reverse before in
    let parts = or_else-none (first_fault s es) (entry_fault s es e) (sym (first_fault-push s es e) ∙ ap (first_fault s) (sym (order-more e before)) ∙ h) in
    let rest = begun-from s v before parts.0 in
    let right = right-entry s es e parts.1 in
    let reply : e.reply ≡ answer s.boot before e.who e.call =
    same_reply-true e.reply (reply_due s es e) right.1 ∙ ap (λ (past : List Entry). answer s.boot past e.who e.call) (reverse-reverse before) in (
      (call_at-fits s e.who e.call (length (of_thread e.who es)) v right.0, reply, rest.0),
      subst (IsBegun s) (sym (order-more e before)) (begun-push s es e rest.1 right.0),
    )

begun-pop : (s : Plan) (es : List Entry) (e : Entry) → IsBegun s (es ++ e ∷ []) → IsBegun s es
begun-pop s es e begun = record {
  declared = all-front (λ (x : Entry). x.who < length s.scripts) es e begun.declared;
  scripts = λ n l. elim (cases_eq e.who n) [
    | inl same ↦
        begins-less (calls_of (of_thread n es)) (script s n) e.call
        (subst (λ (calls : List Call). AreFirst calls (script s n)) (calls-own n es e same) (begun.scripts n l))
    | inr other ↦ subst (λ (own : List Entry). AreFirst (calls_of own) (script s n)) (of_thread-other n es e other) (begun.scripts n l)
  ];
}

begun-last : (s : Plan) (es : List Entry) (e : Entry) → IsBegun s (es ++ e ∷ []) → is_next s es e ≡ true
begun-last s es e begun =
    let n : ℕ = e.who in
    let l : n < length s.scripts = all-last (λ (x : Entry). x.who < length s.scripts) es e begun.declared in
    let first : AreFirst (calls_of (of_thread n es) ++ e.call ∷ []) (script s n) =
    subst (λ (calls : List Call). AreFirst calls (script s n)) (calls-own n es e refl) (begun.scripts n l) in
    call_at-from s n e.call (length (of_thread n es)) l
    (ap (slice_get (script s n)) (sym (length-map (of_thread n es) (λ (x : Entry). x.call))) ∙ begins-next (calls_of (of_thread n es)) (script s n) e.call first)

pub unfaulty : (s : Plan) (past : List Entry) → histories.IsLegal s.boot past → IsBegun s (reverse past) → first_fault s (reverse past) ≡ None
unfaulty s [] legal begun = first_fault-none s
unfaulty s (e ∷ before) legal begun =
    let es : List Entry = reverse before in
    let here : IsBegun s (es ++ e ∷ []) = subst (IsBegun s) (order-more e before) begun in
    let due : e.reply ≡ reply_due s es e = legal.1 ∙ ap (λ (past : List Entry). answer s.boot past e.who e.call) (sym (reverse-reverse before)) in
    let same : same_reply e.reply (reply_due s es e) ≡ true = ap (same_reply e.reply) (sym due) ∙ same_reply-refl e.reply in
    ap (first_fault s) (order-more e before)
    ∙ first_fault-push s es e
    ∙ ap₂ or_else (unfaulty s before legal.2 (begun-pop s es e here)) (entry_fault-right s es e (begun-last s es e here) same)

some_if-none : {A : Type 0} (b : Bool) (x : A) → some_if b x ≡ None → b ≡ false
some_if-none true x h = cc
some_if-none false x h = refl

not-unspent : (s : Plan) (h : List Entry) → unspent s h ≡ None → (n : ℕ) → n < length s.scripts → some_if (has_more s n (length (of_thread n h))) n ≡ None
unfolding unspent
not-unspent s h none n l = first_some-none (λ (k : ℕ). some_if (has_more s k (length (of_thread k h))) k) 0 (length s.scripts) none n (omega arith) (omega arith)

nothing-behind : (calls whole : List Call) → AreFirst calls whole → length whole ≤ length calls → calls ≡ whole
nothing-behind calls whole first l =
    let long : length whole ≡ length calls + length first.0 = ap length first.1 ∙ length-append calls first.0 in
    let none : first.0 ≡ [] = empty_by first.0 (omega arith) in
    sym (first.1 ∙ ap (λ (r : List Call). calls ++ r) none ∙ append-nil calls)
  where
    empty_by : (xs : List Call) → length xs ≡ 0 → xs ≡ []
    empty_by [] e = refl
    empty_by (x ∷ xs) e = absurd (omega arith)

-- a thread that has no more has made its script
pub spent-thread : (s : Plan) (h : List Entry) (n : ℕ) → IsBegun s h → n < length s.scripts → some_if (has_more s n (length (of_thread n h))) n ≡ None → calls_of (of_thread n h) ≡ script s n
spent-thread s h n begun l none =
    let spent : length (script s n) ≤ length (of_thread n h) = ltb-false (length (of_thread n h)) (length (script s n)) (some_if-none (has_more s n (length (of_thread n h))) n none) in
    let long : length (calls_of (of_thread n h)) ≡ length (of_thread n h) = length-map (of_thread n h) (λ (x : Entry). x.call) in
    nothing-behind (calls_of (of_thread n h)) (script s n) (begun.scripts n l) (omega arith)

whole-from : (s : Plan) (h : List Entry) → IsBegun s h → unspent s h ≡ None → IsWhole s h
whole-from s h begun none = record {
  declared = begun.declared;
  scripts = λ n l. spent-thread s h n begun l (not-unspent s h none n l);
}

begun-whole : (s : Plan) (h : List Entry) → IsWhole s h → IsBegun s h
begun-whole s h w = record {
  declared = w.declared;
  scripts = λ n l. ([], sym (append-nil (calls_of (of_thread n h)) ∙ w.scripts n l));
}

spent-whole : (s : Plan) (h : List Entry) → IsWhole s h → unspent s h ≡ None
unfolding unspent
spent-whole s h w = first_some-absent (λ (k : ℕ). some_if (has_more s k (length (of_thread k h))) k) 0 (length s.scripts) (λ k l m.
    let long : length (script s k) ≡ length (of_thread k h) = ap length (sym (w.scripts k (omega arith))) ∙ length-map (of_thread k h) (λ (x : Entry). x.call) in
    let spent : has_more s k (length (of_thread k h)) ≡ false = le-ltb (length (of_thread k h)) (length (script s k)) (omega arith) in
    ap (λ (b : Bool). some_if b k) spent)

verdict-parts : (f : Option Verdict) (u : Option ℕ) → (f ≡ Some Legal → ⊥) → unwrap_or f (option_map_or Missing u Legal) ≡ Legal → (f ≡ None) × (u ≡ None)
verdict-parts None None not_legal h = (refl, refl)
verdict-parts None (Some n) not_legal h = cc
verdict-parts (Some v) u not_legal h = absurd (not_legal (ap Some h))

pub parts-legal : (s : Plan) (h : List Entry) → verdict_of s h ≡ Legal → (first_fault s h ≡ None) × (unspent s h ≡ None)
unfolding verdict_of
parts-legal s h e = verdict-parts (first_fault s h) (unspent s h) (first_fault-legal s h) e

pub unfaulted : (s : Plan) (h : List Entry) → IsValid s → first_fault s h ≡ None → histories.Legal s.boot h × IsBegun s h
unfaulted s h v none =
    let parts = begun-from s v (reverse h) (ap (first_fault s) (reverse-reverse h) ∙ none) in
    (parts.0, subst (IsBegun s) (reverse-reverse h) parts.1)

pub verdict-legal : (s : Plan) (h : List Entry) → IsValid s → verdict_of s h ≡ Legal → histories.Legal s.boot h
verdict-legal s h v e = (unfaulted s h v (parts-legal s h e).0).0

pub verdict-whole : (s : Plan) (h : List Entry) → IsValid s → verdict_of s h ≡ Legal → IsWhole s h
verdict-whole s h v e =
    let parts = parts-legal s h e in
    whole-from s h (unfaulted s h v parts.0).1 parts.1

pub legal-verdict : (s : Plan) (h : List Entry) → histories.Legal s.boot h → IsWhole s h → verdict_of s h ≡ Legal
unfolding verdict_of
legal-verdict s h legal w =
    let none : first_fault s h ≡ None =
    ap (first_fault s) (sym (reverse-reverse h)) ∙ unfaulty s (reverse h) legal (subst (IsBegun s) (sym (reverse-reverse h)) (begun-whole s h w)) in
    ap₂ (λ (f : Option Verdict) (u : Option ℕ). unwrap_or f (option_map_or Missing u Legal)) none (spent-whole s h w)
