-- The bodies after one entry more.
use Rattle.std.proofs.Common.{◌≡◌, ◌≢◌, ℕ, zero, suc, ◌<◌, List, [], ◌∷◌, ◌++◌, length, get_or, reverse, Some, None, Result, Ok, Err, OnOk, OnErr, refl, sym, ap, ◌∙◌, subst, arith, inl, inr}
use Rattle.std.specs.List.{AllByRecursion}
use Rattle.std.proofs.Math.ListN.{set}
use Rattle.std.proofs.lemmas.Bool.Decides.{eqb_tells}
use Rattle.std.proofs.lemmas.List.{length-set, get_or-set_same, get_or-set_other}
use Rattle.kern_ids.specs.declared.entries.Entry.{Entry}
use Rattle.kern_ids.specs.declared.calls.Call.{Call}
use Rattle.kern_ids.specs.declared.replies.Reply.{Reply}
use Rattle.kernel_model.specs.System.{System}
use Rattle.kernel_model.specs.Answers.{answer}
use Rattle.kernel_core.specs.declared.need.Need.{Need}
use Rattle.kernel_core.specs.declared.need.Need.TheVariants.{Nothing, Bytes as NeedsBytes}
use Rattle.kernel_core.specs.Need.{named, or_purged}
use Rattle.page_store.specs.Contents.{Contents, nothing}
use Rattle.kernel_core.specs.Bodies.{content, made}
use Rattle.kernel_core.specs.Touches.{NeedsAtMost, bytes_left, named_number, needed_number, number_of}
use Rattle.kernel_core.proofs.Effects.{content-first, content-left, content-other}
use Rattle.kernel_core.specs.OneThreads.{HasBodies}

empty_at : (bodies : List Contents) (o : ℕ) (d : Contents) → AllByRecursion (λ body. body ≡ nothing) bodies → o < length bodies → get_or bodies o d ≡ nothing
empty_at [] o d all l = absurd (omega arith)
empty_at (b ∷ bs) zero d all l = all.0
empty_at (b ∷ bs) (suc o) d all l = empty_at bs o d all.1 (omega arith)

-- bodies with nothing in them are what the objects have at first
pub first-bodies : (boot : System) (bodies : List Contents) → length bodies ≡ length boot.objects → AllByRecursion (λ body. body ≡ nothing) bodies → HasBodies boot [] bodies
first-bodies boot bodies n all = record {
  count = n;
  bytes = λ o d l. ap (λ (c : Contents). c.bytes) (empty_at bodies o d all l) ∙ sym (content-first o);
}

none_some : {x : ℕ} → None ≡ Some x → ⊥
none_some h = cc

-- a call that needs no object keeps all bodies
pub alone-kept : (boot : System) (h later : List Entry) (who : ℕ) (call : Call) (reply : Reply) (bodies : List Contents) → reply ≡ answer boot (reverse h) who call → needed_number boot (reverse h) who call ≡ None → later ≡ h ++ made who call reply ∷ [] → HasBodies boot h bodies → HasBodies boot later bodies
alone-kept boot h later who call reply bodies r n is has = record {
  count = has.count;
  bytes = λ o d l. has.bytes o d l ∙ sym (ap (λ (es : List Entry). content es o) is ∙ content-other boot h who o call reply r (λ k. none_some (sym n ∙ k)));
}

-- the same, whether the call was made or not
pub alone-made : {A E : Type 0} (boot after : System) (h later : List Entry) (who : ℕ) (call : Call) (result : Result A E) (reply : Reply) (bodies : List Contents) → after ≡ boot → OnOk result (reply ≡ answer boot (reverse h) who call) → OnOk result (later ≡ h ++ made who call reply ∷ []) → OnErr result (later ≡ h)
    → needed_number boot (reverse h) who call ≡ None → HasBodies boot h bodies → HasBodies after later bodies
alone-made boot after h later who call (Ok x) reply bodies same r is err n has = subst (λ (b : System). HasBodies b later bodies) (sym same) (alone-kept boot h later who call reply bodies r n is has)
alone-made boot after h later who call (Err e) reply bodies same r is err n has = subst (λ (b : System). HasBodies b later bodies) (sym same) (subst (λ (es : List Entry). HasBodies boot es bodies) (sym err) has)

-- another body for one object, with the bytes that it is to have
pub put-body : (boot : System) (h later : List Entry) (o : ℕ) (body : Contents) (bodies : List Contents) → HasBodies boot h bodies → body.bytes ≡ content later o → ((i : ℕ) → i ≢ o → content later i ≡ content h i) → HasBodies boot later (set bodies o body)
put-body boot h later o body bodies has same others = record {
  count = length-set bodies o body ∙ has.count;
  bytes = λ i d l. let m : i < length bodies = omega (arith, length-set bodies o body) in elim (eqb_tells i o) [
    | inl here ↦
        let e : i ≡ o = here.1 in
        subst (λ (j : ℕ). (get_or (set bodies o body) j d).bytes ≡ content later j) (sym e) (ap (λ (c : Contents). c.bytes) (get_or-set_same bodies o body d (subst (λ (j : ℕ). j < length bodies) e m)) ∙ same)
    | inr other ↦ ap (λ (c : Contents). c.bytes) (get_or-set_other bodies o i body d other.1) ∙ (has.bytes i d m ∙ sym (others i other.1))
  ];
}

-- the bytes of the body of an object
pub held-bytes : (boot : System) (h : List Entry) (o : ℕ) (body : Contents) (bodies : List Contents) → o < length boot.objects → HasBodies boot h bodies → body ≡ get_or bodies o body → body.bytes ≡ content h o
held-bytes boot h o body bodies l has is = ap (λ (c : Contents). c.bytes) is ∙ has.bytes o body (subst (λ (n : ℕ). o < n) (sym has.count) l)

some_is : (x y : ℕ) → Some x ≡ Some y → x ≡ y
some_is x y e = cc

-- a call that needs an object, whose body was changed as the reply says
pub needed-kept : (boot : System) (h later : List Entry) (who o : ℕ) (call : Call) (reply : Reply) (was now : Contents) (bodies : List Contents) → reply ≡ answer boot (reverse h) who call → needed_number boot (reverse h) who call ≡ Some o → later ≡ h ++ made who call reply ∷ []
    → HasBodies boot h bodies → was.bytes ≡ content h o → now.bytes ≡ bytes_left call reply was.bytes → HasBodies boot later (set bodies o now)
needed-kept boot h later who o call reply was now bodies r n is has old left =
    put-body boot h later o now bodies has
    (left ∙ (ap (bytes_left call reply) old ∙ sym (ap (λ (es : List Entry). content es o) is ∙ content-left boot h who o call reply r (subst (NeedsAtMost o) (sym n) refl))))
    (λ i apart. ap (λ (es : List Entry). content es i) is ∙ content-other boot h who i call reply r (λ k. apart (sym (some_is o i (sym n ∙ k)))))

named_most : (n : Need) (r : Reply) (o : ℕ) → number_of (or_purged n r) ≡ Some o → NeedsAtMost o (number_of n)
named_most (NeedsBytes x) r o h = some_is x o h
named_most Nothing r o h = tt {0}

-- the object that a call names is the one that it needs
pub needed-named : (boot : System) (past : List Entry) (who : ℕ) (call : Call) (o : ℕ) → needed_number boot past who call ≡ Some o → NeedsAtMost o (named_number call)
needed-named boot past who call o h = named_most (named call) (answer boot past who call) o h
