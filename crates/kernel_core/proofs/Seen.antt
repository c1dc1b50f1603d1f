-- What is seen in a body, and what is in range.
use Rattle.std.proofs.Common.{◌≡◌, ℕ, zero, suc, ◌+◌, ◌<◌, ◌≤◌, List, ◌∷◌, map, reverse, Some, None, Bool, true, false, refl, sym, ap, ap₂, ◌∙◌, arith, inl, inr}
use Rattle.std.specs.List.{range_with_len}
use Rattle.std.proofs.lemmas.Bool.{true≢false}
use Rattle.kern_ids.specs.declared.entries.Entry.{Entry}
use Rattle.kern_ids.specs.declared.calls.Call.{Call}
use Rattle.kern_ids.specs.declared.calls.Call.TheVariants.{Read, Write}
use Rattle.kern_ids.specs.declared.replies.Reply.{Reply}
use Rattle.kern_ids.specs.declared.replies.Refusal.TheVariants.{Range}
use Rattle.kernel_model.specs.System.{System}
use Rattle.kernel_model.specs.Answers.{answer, out_of_range, refusal, causes}
use Rattle.kernel_model.specs.Contents.{byte}
use Rattle.kernel_model.specs.Events.{is_reply}
use Rattle.kernel_model.specs.Lists.{some_if}
use Rattle.kernel_model.proofs.Laws.Answers.{refused, gets, answer-cases, first_some-none}
use Rattle.kernel_core.specs.Kernels.{SeesBytes}
use Rattle.page_store.specs.Contents.{byte_at}
use Rattle.page_store.proofs.ContentsLemmas.{byte_at-bytes_of}
use Rattle.kernel_core.specs.Bodies.{content}
use Rattle.kernel_core.specs.Ranges.{IsSeenOf, IsWriteInRange}
use Rattle.kernel_core.specs.Touches.{NeedsAtMost, named_number, needed_number}

some_none : {x : ℕ} → Some x ≡ None → ⊥
some_none h = cc

-- a call that needs no object reads none
pub sees-none : (boot : System) (h : List Entry) (who : ℕ) (call : Call) (seen : List ℕ) → needed_number boot (reverse h) who call ≡ None → SeesBytes boot h call seen
sees-none boot h who (Read o off len) seen n = absurd (some_none n)
sees-none boot h who call seen n = tt {0}

map_range : (f g : ℕ → ℕ) (off len : ℕ) → ((p : ℕ) → off ≤ p → p < off + len → f p ≡ g p) → map f (range_with_len off len) ≡ map g (range_with_len off len)
map_range f g off zero h = refl
map_range f g off (suc n) h = ap₂ (λ (x : ℕ) (xs : List ℕ). x ∷ xs) (h off (omega arith) (omega arith)) (map_range f g (off + 1) n (λ p l m. h p (omega arith) (omega arith)))

sees_range : (h : List Entry) (x o off len : ℕ) (body : List (ℕ × ℕ)) → x ≡ o → body ≡ content h o → off + len ≤ 1048576 → map (byte_at body) (range_with_len off len) ≡ map (byte (reverse h) x) (range_with_len off len)
sees_range h x o off len body same is inside =
    map_range (byte_at body) (byte (reverse h) x) off len (λ p l m. ap (λ (b : List (ℕ × ℕ)). byte_at b p) is ∙ (byte_at-bytes_of (byte (reverse h) o) p (omega arith) ∙ ap (λ (y : ℕ). byte (reverse h) y p) (sym same)))

-- what was seen in the body is what the history gives to the object
pub sees-held : (boot : System) (h : List Entry) (call : Call) (o : ℕ) (body : List (ℕ × ℕ)) (seen : List ℕ) → NeedsAtMost o (named_number call) → body ≡ content h o → IsSeenOf boot call body seen → SeesBytes boot h call seen
sees-held boot h (Read x off len) o body seen m is s = λ good. (s good).1 ∙ sees_range h x o off len body m is (s good).0
sees-held boot h call o body seen m is s = tt {0}

some_if-none : (b : Bool) {A : Type 0} (x : A) → some_if b x ≡ None → b ≡ false
some_if-none true x h = absurd (cc)
some_if-none false x h = refl

in_range : (boot : System) (past : List Entry) (who : ℕ) (call : Call) → refusal boot past who call ≡ None → out_of_range boot call ≡ false
unfolding refusal
in_range boot past who call h = some_if-none (out_of_range boot call) Range (first_some-none (causes boot past who call) (some_if (out_of_range boot call) Range) (inr (inr (inr (inr (inr (inl refl)))))) h)

accepted_in_range : (boot : System) (past : List Entry) (who : ℕ) (call : Call) → is_reply (answer boot past who call) ≡ true → out_of_range boot call ≡ false
accepted_in_range boot past who call h = elim (answer-cases boot past who call) [
  | refused why r a ↦ absurd (true≢false (sym h ∙ ap is_reply a))
  | gets r a ↦ in_range boot past who call r
]

-- a Write that is accepted is in range
pub write-in_range : (boot : System) (past : List Entry) (who : ℕ) (call : Call) (reply : Reply) → reply ≡ answer boot past who call → IsWriteInRange boot call reply
write-in_range boot past who (Write o off bytes) reply e = λ a. accepted_in_range boot past who (Write o off bytes) (ap is_reply (sym e) ∙ a)
write-in_range boot past who call reply e = tt {0}
