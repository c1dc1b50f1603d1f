-- The first fault of a history that grows.
use Rattle.std.proofs.Common.{◌≡◌, ℕ, zero, suc, ◌+◌, ◌<◌, ◌≤◌, List, [], ◌∷◌, ◌++◌, length, take, Bool, true, false, Option, Some, None, refl, sym, ap, ap₂, ◌∙◌, arith, length-append, inl, inr}
use Rattle.std.specs.Prelude.{slice_get}
use Rattle.std.specs.Option.{option_and_then}
use Rattle.std.specs.List.{range_with_len}
use Rattle.std.proofs.Math.Seq.{take-append_seam}
use Rattle.std.proofs.lemmas.Bool.{cases_eq}
use Rattle.std.proofs.lemmas.List.{take-append-le}
use Rattle.kern_ids.specs.declared.entries.Entry.{Entry}
use Rattle.kern_ids.specs.declared.replies.Reply.{Reply}
use Rattle.kernel_model.specs.Lists.{first_some}
use Rattle.kernel_model.specs.Scenario.{Plan}
use Rattle.slow_kernel.specs.ObjectTables.{or_else}
use Rattle.slow_kernel.proofs.Firsts.{first_some_more}
use Rattle.replay_check.specs.declared.verdicts.Verdict.TheVariants.{Legal, WrongReply, WrongCall}
use Rattle.replay_check.specs.Same.{same_reply}
use Rattle.replay_check.specs.Verdicts.{is_next, reply_due, judged, entry_fault, fault_at, first_fault}

pub slice_get-append_left : {A : Type 0} (xs ys : List A) (n : ℕ) → n < length xs → slice_get (xs ++ ys) n ≡ slice_get xs n
slice_get-append_left [] ys n l = absurd (omega arith)
slice_get-append_left (x ∷ xs) ys zero l = refl
slice_get-append_left (x ∷ xs) ys (suc n) l = slice_get-append_left xs ys n (omega arith)

pub slice_get-append_seam : {A : Type 0} (xs ys : List A) → slice_get (xs ++ ys) (length xs) ≡ slice_get ys 0
slice_get-append_seam [] ys = refl
slice_get-append_seam (x ∷ xs) ys = slice_get-append_seam xs ys

-- what two tests find alike
pub first_some-alike : {B : Type 0} (f g : ℕ → Option B) (a n : ℕ) → ((k : ℕ) → a ≤ k → k < a + n → f k ≡ g k) → first_some f (range_with_len a n) ≡ first_some g (range_with_len a n)
first_some-alike f g a zero h = refl
first_some-alike {B} f g a (suc n) h =
    ap₂ (λ (o rest : Option B). elim o [ Some y ↦ Some y | None ↦ rest ]) (h a (omega arith) (omega arith))
    (first_some-alike f g (a + 1) n (λ k l m. h k (omega arith) (omega arith)))

pub or_else-none : {B : Type 0} (o rest : Option B) → or_else o rest ≡ None → (o ≡ None) × (rest ≡ None)
or_else-none None rest h = (refl, h)
or_else-none (Some y) rest h = cc

-- the first of one number more
pub first_some-cons : {B : Type 0} (f : ℕ → Option B) (a : ℕ) (ks : List ℕ) → first_some f (a ∷ ks) ≡ or_else (f a) (first_some f ks)
first_some-cons {B} f a ks = elim (f a) as (λ (o : Option B). elim o [ Some y ↦ Some y | None ↦ first_some f ks ] ≡ or_else o (first_some f ks)) [ Some y ↦ refl | None ↦ refl ]

-- what isn't found is at none of the numbers
pub first_some-none : {B : Type 0} (f : ℕ → Option B) (a n : ℕ) → first_some f (range_with_len a n) ≡ None → (k : ℕ) → a ≤ k → k < a + n → f k ≡ None
first_some-none f a zero h k l m = absurd (omega arith)
first_some-none f a (suc n) h k l m =
    let parts = or_else-none (f a) (first_some f (range_with_len (a + 1) n)) (sym (first_some-cons f a (range_with_len (a + 1) n)) ∙ h) in
    elim (cases_eq k a) [
      | inl here ↦ ap f here ∙ parts.0
      | inr other ↦ first_some-none f (a + 1) n parts.1 k (omega arith) (omega arith)
    ]

-- what is at none of the numbers isn't found
pub first_some-absent : {B : Type 0} (f : ℕ → Option B) (a n : ℕ) → ((k : ℕ) → a ≤ k → k < a + n → f k ≡ None) → first_some f (range_with_len a n) ≡ None
first_some-absent f a zero h = refl
first_some-absent f a (suc n) h =
    first_some-cons f a (range_with_len (a + 1) n)
    ∙ ap₂ or_else (h a (omega arith) (omega arith)) (first_some-absent f (a + 1) n (λ k l m. h k (omega arith) (omega arith)))

pub fault_at-before : (s : Plan) (es rest : List Entry) (n : ℕ) → n < length es → fault_at s (es ++ rest) n ≡ fault_at s es n
fault_at-before s es rest n l =
    ap₂ (λ (before : List Entry) (o : Option Entry). option_and_then (entry_fault s before) o)
    (take-append-le n es rest (omega arith)) (slice_get-append_left es rest n l)

fault_at-here : (s : Plan) (es : List Entry) (e : Entry) → fault_at s (es ++ e ∷ []) (length es) ≡ entry_fault s es e
fault_at-here s es e =
    ap₂ (λ (before : List Entry) (o : Option Entry). option_and_then (entry_fault s before) o)
    (take-append_seam es (e ∷ [])) (slice_get-append_seam es (e ∷ []))

-- the first fault with one entry more
pub first_fault-push : (s : Plan) (es : List Entry) (e : Entry) → first_fault s (es ++ e ∷ []) ≡ or_else (first_fault s es) (entry_fault s es e)
unfolding first_fault
first_fault-push s es e =
    ap (λ (n : ℕ). first_some (fault_at s (es ++ e ∷ [])) (range_with_len 0 n)) (length-append es (e ∷ []))
    ∙ first_some_more (fault_at s (es ++ e ∷ [])) (length es)
    ∙ ap₂ or_else (first_some-alike (fault_at s (es ++ e ∷ [])) (fault_at s es) 0 (length es) (λ k l m. fault_at-before s es (e ∷ []) k (omega arith))) (fault_at-here s es e)

pub first_fault-none : (s : Plan) → first_fault s [] ≡ None
unfolding first_fault
first_fault-none s = refl

pub entry_fault-call : (s : Plan) (es : List Entry) (e : Entry) → is_next s es e ≡ false → entry_fault s es e ≡ Some (WrongCall (length es))
unfolding entry_fault
entry_fault-call s es e h = ap (λ (b : Bool). judged b (same_reply e.reply (reply_due s es e)) (length es) (reply_due s es e)) h

pub entry_fault-reply : (s : Plan) (es : List Entry) (e : Entry) → is_next s es e ≡ true → same_reply e.reply (reply_due s es e) ≡ false → entry_fault s es e ≡ Some (WrongReply (length es) (reply_due s es e))
unfolding entry_fault
entry_fault-reply s es e h w = ap₂ (λ (b c : Bool). judged b c (length es) (reply_due s es e)) h w

pub entry_fault-right : (s : Plan) (es : List Entry) (e : Entry) → is_next s es e ≡ true → same_reply e.reply (reply_due s es e) ≡ true → entry_fault s es e ≡ None
unfolding entry_fault
entry_fault-right s es e h w = ap₂ (λ (b c : Bool). judged b c (length es) (reply_due s es e)) h w

judged-none : (b c : Bool) (n : ℕ) (due : Reply) → judged b c n due ≡ None → (b ≡ true) × (c ≡ true)
judged-none false c n due h = cc
judged-none true false n due h = cc
judged-none true true n due h = (refl, refl)

judged-legal : (b c : Bool) (n : ℕ) (due : Reply) → judged b c n due ≡ Some Legal → ⊥
judged-legal false c n due h = cc
judged-legal true false n due h = cc
judged-legal true true n due h = cc

-- an entry with no fault is right
pub right-entry : (s : Plan) (es : List Entry) (e : Entry) → entry_fault s es e ≡ None → (is_next s es e ≡ true) × (same_reply e.reply (reply_due s es e) ≡ true)
unfolding entry_fault
right-entry s es e h = judged-none (is_next s es e) (same_reply e.reply (reply_due s es e)) (length es) (reply_due s es e) h

-- no fault is Legal
at_some : (s : Plan) (before : List Entry) (o : Option Entry) → option_and_then (entry_fault s before) o ≡ Some Legal → ⊥
unfolding entry_fault
at_some s before None h = cc
at_some s before (Some e) h = judged-legal (is_next s before e) (same_reply e.reply (reply_due s before e)) (length before) (reply_due s before e) h

first_some-never : {A B : Type 0} (f : A → Option B) (y : B) → ((x : A) → f x ≡ Some y → ⊥) → (xs : List A) → first_some f xs ≡ Some y → ⊥
first_some-never f y never [] h = cc
first_some-never {A} {B} f y never (x ∷ xs) h =
    elim (f x) as (λ (o : Option B). f x ≡ o → elim o [ Some z ↦ Some z | None ↦ first_some f xs ] ≡ Some y → ⊥) [
      | Some z ↦ λ e g. never x (e ∙ g)
      | None ↦ λ e g. first_some-never f y never xs g
    ] refl h

pub first_fault-legal : (s : Plan) (h : List Entry) → first_fault s h ≡ Some Legal → ⊥
unfolding first_fault
first_fault-legal s h e = first_some-never (fault_at s h) Legal (λ n. at_some s (take n h) (slice_get h n)) (range_with_len 0 (length h)) e
