-- Facts on passes, held objects and first bodies.
use Rattle.std.proofs.Common.{◌≡◌, ℕ, zero, suc, ◌+◌, ◌<◌, List, [], ◌∷◌, ◌++◌, length, reverse, Option, Some, None, true, IsTrue, refl, sym, ap, ap₂, ◌∙◌, subst, arith, slice_get, append_assoc, append-nil}
use Rattle.std.specs.Prelude.{is_some, nat_lt, ◌&&◌}
use Rattle.std.specs.List.{Contains, AllByRecursion}
use Rattle.std.proofs.lemmas.Bool.{and_parts}
use Rattle.std.proofs.lemmas.Bool.Decides.{nat_tests}
use Rattle.kern_ids.specs.declared.entries.Entry.{Entry}
use Rattle.kern_ids.specs.declared.calls.Call.{Call}
use Rattle.kern_ids.specs.declared.replies.Reply.{Reply}
use Rattle.kernel_model.specs.System.{System}
use Rattle.kernel_model.specs.Answers.{answer}
use Rattle.kernel_model.specs.Events.{task_of}
use Rattle.kernel_model.specs.Histories.{fits, names_fit, same, is_task_call}
use Rattle.kernel_model.specs.Valid.{IsValidBoot}
use Rattle.page_store.specs.Contents.{Contents, nothing}
use Rattle.turn_lock.specs.Histories.{StartsWith}
use Rattle.kernel_core.specs.Bodies.{content, made}
use Rattle.kernel_shared.specs.Calls.{Bytes, KernelTable, KernelPass, IsIdleOf, IsSamePass, HasMade, entry_of}
use Rattle.kernel_shared.specs.Steps.{IsWanted, MayTouch, held_after}
use Rattle.kernel_core.proofs.Needs.{named-declared, touched-needed}
use Rattle.kernel_core.proofs.Effects.{content-first, content-left}
use Rattle.kernel_core.specs.Touches.{NeedsAtMost, bytes_left, touched, named_number, needed_number}

-- a thread whose call fits is declared
pub who-below : (boot : System) (who : ℕ) (call : Call) → IsValidBoot boot → IsTrue (fits boot who call) → who < 32
who-below boot who call v f =
    let parts = and_parts (nat_lt who (length boot.sides) && same (is_task_call call) (is_some (task_of boot who))) (names_fit boot call) f in
    let declared = (and_parts (nat_lt who (length boot.sides)) (same (is_task_call call) (is_some (task_of boot who))) parts.0).0 in
    let l : who < length boot.sides = grind (arith, nat_tests, declared) in
    let few = v.few_sides in omega arith

some_body : (b x : Contents) → Some b ≡ Some x → b ≡ x
some_body b x e = cc

first_body : (bodies : List Contents) → AllByRecursion (λ body. body ≡ nothing) bodies → (i : ℕ) (x : Contents) → slice_get bodies i ≡ Some x → x ≡ nothing
first_body [] h i x e = absurd (cc)
first_body (b ∷ bs) h zero x e = sym (some_body b x e) ∙ h.0
first_body (b ∷ bs) h (suc i) x e = first_body bs h.1 i x e

-- a body with nothing in it is what its object has at first
pub nothing-first : (bodies : List Contents) → AllByRecursion (λ body. body ≡ nothing) bodies → (i : ℕ) (x : Contents) → slice_get bodies i ≡ Some x → x.bytes ≡ content [] i
nothing-first bodies h i x e =
    ap (λ (c : Contents). c.bytes) (first_body bodies h i x e) ∙ sym (content-first i)

-- what begins with something still does, with more at its end
pub starts-more : (later long short es : List Entry) → later ≡ long ++ es → StartsWith long short → StartsWith later short
starts-more later long short es l s = (s.0 ++ es, l ∙ (ap (λ (xs : List Entry). xs ++ es) s.1 ∙ append_assoc short s.0 es))

pub same-pass : (t : KernelTable) (p : KernelPass) → IsIdleOf t p → IsSamePass t p p
same-pass t p i = record { idle = i; number = refl; others = refl; seen = ([], sym (append-nil p.seen)) }

starts_on : (a b c : List Entry) → StartsWith a b → StartsWith b c → StartsWith a c
starts_on a b c x y = (y.0 ++ x.0, x.1 ∙ (ap (λ (l : List Entry). l ++ x.0) y.1 ∙ append_assoc c y.0 x.0))

pub same-on : (t : KernelTable) (a b c : KernelPass) → IsSamePass t a b → IsSamePass t b c → IsSamePass t a c
same-on t a b c x y = record { idle = y.idle; number = y.number ∙ x.number; others = y.others ∙ x.others; seen = starts_on c.seen b.seen a.seen y.seen x.seen }

entry_same : (a b : KernelPass) (call : Call) (reply : Reply) → b.number ≡ a.number → entry_of b call reply ≡ entry_of a call reply
entry_same a b call reply n = ap (λ (who : ℕ). record { who = who; call = call; reply = reply }) n

-- a call that is made after tries that made no entry
pub made-on : (t : KernelTable) (a b c : KernelPass) (call : Call) (reply : Reply) → IsSamePass t a b → b.mine ≡ a.mine → HasMade t b c call reply → HasMade t a c call reply
made-on t a b c call reply same mine made =
    let e = entry_same a b call reply same.number in
    record {
      before = made.before;
      starts = starts_on made.before b.seen a.seen made.starts same.seen;
      seen = made.seen ∙ ap (λ (x : Entry). made.before ++ x ∷ []) e;
      mine = made.mine ∙ ap₂ (λ (xs : List Entry) (x : Entry). xs ++ x ∷ []) mine e;
      legal = made.legal;
    }

named_first : (boot : System) (call : Call) (n : Option ℕ) → named_number call ≡ n → names_fit boot call ≡ true → IsWanted boot call n
named_first boot call None e f = tt {0}
named_first boot call (Some o) e f = (named-declared boot call o f e, subst (NeedsAtMost o) (sym e) refl)

-- the object that the call names is declared
pub wanted-first : (boot : System) (who : ℕ) (call : Call) → IsTrue (fits boot who call) → IsWanted boot call (named_number call)
wanted-first boot who call f = named_first boot call (named_number call) refl (and_parts (nat_lt who (length boot.sides) && same (is_task_call call) (is_some (task_of boot who))) (names_fit boot call) f).1

-- the body that the object is to have, once the entry of the call was made
pub put-held : (boot : System) (seen later : List Entry) (who o : ℕ) (call : Call) (reply : Reply) (was now : Bytes) (object after : Option (ℕ × Bytes)) → NeedsAtMost o (needed_number boot (reverse seen) who call)
    → reply ≡ answer boot (reverse seen) who call → later ≡ seen ++ made who call reply ∷ [] → object ≡ Some (o, was) → after ≡ held_after later object → was ≡ content seen o → now ≡ bytes_left call reply was → after ≡ Some (o, now)
put-held boot seen later who o call reply was now object after m r l h a w n =
    let left : content later o ≡ bytes_left call reply (content seen o) = ap (λ (es : List Entry). content es o) l ∙ content-left boot seen who o call reply r m in
    a ∙ (ap (held_after later) h ∙ ap (λ (c : Bytes). Some (o, c)) (left ∙ (ap (bytes_left call reply) (sym w) ∙ sym n)))

-- the entry of a call touches nothing but the object that it needs
pub needed-touches : (boot : System) (past : List Entry) (who : ℕ) (call : Call) (object : Option (ℕ × Bytes)) → MayTouch (needed_number boot past who call) object
    → (i : ℕ) → Contains (touched (made who call (answer boot past who call))) i → (c : Bytes) × (object ≡ Some (i, c))
needed-touches boot past who call object m i k = subst (λ (n : Option ℕ). MayTouch n object) (touched-needed boot past who call i k) m
