-- What a call does to the bytes of the object that it needs.
use Rattle.std.proofs.Common.{◌≡◌, ◌≢◌, ℕ, List, [], ◌∷◌, ◌++◌, reverse, Option, Some, None, Bool, true, false, ◌&&◌, not, if◌then◌else◌, refl, sym, ap, ◌∙◌, subst, nat_eq}
use Rattle.std.specs.Prelude.{is_some}
use Rattle.std.specs.List.{Contains}
use Rattle.std.specs.Option.{option_map_or, unwrap_or}
use Rattle.std.proofs.lemmas.Bool.{eq-eqb}
use Rattle.std.proofs.lemmas.List.{reverse-append}
use Rattle.kern_ids.specs.declared.entries.Entry.{Entry}
use Rattle.kern_ids.specs.declared.calls.Call.{Call}
use Rattle.kern_ids.specs.declared.calls.Call.TheVariants.{Map, Write, SetState}
use Rattle.kern_ids.specs.declared.calls.State.{State}
use Rattle.kern_ids.specs.declared.replies.Reply.{Reply}
use Rattle.kern_ids.specs.declared.replies.Reply.TheVariants.{Old, Purged, Refused}
use Rattle.kern_ids.specs.StateWord.{decoded}
use Rattle.kernel_model.specs.System.{System}
use Rattle.kernel_model.specs.Answers.{answer}
use Rattle.kernel_model.specs.Contents.{byte, empties, is_ask_empty, next_byte}
use Rattle.kernel_model.specs.Events.{is_reply, is_map_call, purged_by, written_byte}
use Rattle.kernel_model.specs.State.{state, is_empty}
use Rattle.kernel_model.proofs.Laws.Answers.{refused, gets, answer-cases, answer-tells, purge-none}
use Rattle.kernel_model.proofs.Laws.Contents.{byte-more, byte-none}
use Rattle.kernel_model.proofs.Laws.Kept.{byte-kept}
use Rattle.page_store.specs.Contents.{overwritten, written_at}
use Rattle.page_store.proofs.ContentsLemmas.{bytes_of-alike, bytes_of-zero, byte_at-bytes_of}
use Rattle.kernel_core.specs.Bodies.{content, content_after, made}
use Rattle.kernel_core.specs.Touches.{bytes_left, wasnt_empty, touched, NeedsAtMost, needed_number}
use Rattle.kernel_core.specs.Untouched.{content-kept, content-untouched, not-touched, asks_if, and_right, IsApart}
use Rattle.kernel_core.proofs.Needs.{named-needed, purged-needed, named-purged, touched-needed}

byte_emptied : (e : Entry) (past : List Entry) (o b : ℕ) → empties o past e ≡ true → byte (e ∷ past) o b ≡ 0
unfolding next_byte
byte_emptied e past o b h = byte-more e past o b ∙ rw h refl

-- an emptying leaves no bytes
pub content-emptied : (e : Entry) (past : List Entry) (o : ℕ) → empties o past e ≡ true → content_after (e ∷ past) o ≡ []
content-emptied e past o h = bytes_of-alike (byte (e ∷ past) o) (λ _. 0) (λ place inside. byte_emptied e past o place h) ∙ bytes_of-zero

-- an entry that neither empties the object nor writes it leaves its bytes
pub content-same : (e : Entry) (past : List Entry) (o : ℕ) → empties o past e ≡ false → ((b : ℕ) → written_byte o b e ≡ None) → content_after (e ∷ past) o ≡ content_after past o
content-same e past o h w = bytes_of-alike (byte (e ∷ past) o) (byte past o) (λ place inside. byte-kept e past o place h (w place))

byte_written : (e : Entry) (past : List Entry) (o b off : ℕ) (bytes : List ℕ) → empties o past e ≡ false → written_byte o b e ≡ written_at off bytes b → byte (e ∷ past) o b ≡ unwrap_or (written_at off bytes b) (byte past o b)
unfolding next_byte
byte_written e past o b off bytes h w = byte-more e past o b ∙ rw (h, w) refl

-- a Write puts its bytes over those that were there
pub content-written : (e : Entry) (past : List Entry) (o off : ℕ) (bytes : List ℕ) → empties o past e ≡ false → ((b : ℕ) → written_byte o b e ≡ written_at off bytes b) → content_after (e ∷ past) o ≡ overwritten (content_after past o) off bytes
content-written e past o off bytes h w =
    bytes_of-alike _ _ (λ place inside. byte_written e past o place off bytes h (w place) ∙ ap (unwrap_or (written_at off bytes place)) (sym (byte_at-bytes_of (byte past o) place inside)))

purged_is : (r : Reply) (x : ℕ) → purged_by r ≡ Some x → r ≡ Purged x
purged_is (Purged y) x q = cc
purged_is r x q = absurd (cc)

no_purge : (o : ℕ) (p : Option ℕ) → p ≡ None → option_map_or (nat_eq o) p false ≡ false
no_purge o p h = rw h refl

-- a Map of the object
mapped_content : (past : List Entry) (who x o : ℕ) (r : Reply) (b : Bool) → x ≡ o → is_reply r ≡ b → purged_by r ≡ None
    → content_after (made who (Map x) r ∷ past) o ≡ (if b then [] else content_after past o)
mapped_content past who x o r true same a p = content-emptied (made who (Map x) r) past o (rw (a, eq-eqb x o same) refl)
mapped_content past who x o r false same a p = content-same (made who (Map x) r) past o (rw (a, p) refl) (λ b. rw a refl)

-- a Write of it
written_content : (past : List Entry) (who x o off : ℕ) (bytes : List ℕ) (r : Reply) (b : Bool) → x ≡ o → is_reply r ≡ b → purged_by r ≡ None
    → content_after (made who (Write x off bytes) r ∷ past) o ≡ (if b then overwritten (content_after past o) off bytes else content_after past o)
written_content past who x o off bytes r true same a p = content-written (made who (Write x off bytes) r) past o off bytes (rw (a, p) refl) (λ b. rw (a, eq-eqb x o same) refl)
written_content past who x o off bytes r false same a p = content-same (made who (Write x off bytes) r) past o (rw (a, p) refl) (λ b. rw a refl)

-- a SetState EMPTY of it that is accepted, by its state before
asked_content : (past : List Entry) (who x o word : ℕ) (s : State) (b : Bool) → x ≡ o → option_map_or is_ask_empty (decoded word) false ≡ true → state past o ≡ s → is_empty s ≡ b
    → content_after (made who (SetState x word) (Old s) ∷ past) o ≡ (if not b then [] else content_after past o)
asked_content past who x o word s true same ask e h = content-same (made who (SetState x word) (Old s)) past o (rw (eq-eqb x o same, ask, e, h) refl) (λ b. refl)
asked_content past who x o word s false same ask e h = content-emptied (made who (SetState x word) (Old s)) past o (rw (eq-eqb x o same, ask, e, h) refl)

-- any other call, by what its reply purges
other_content : (past : List Entry) (who o : ℕ) (call : Call) (r : Reply) (p : Option ℕ) → IsApart o call → purged_by r ≡ p → ((x : ℕ) → p ≡ Some x → x ≡ o)
    → content_after (made who call r ∷ past) o ≡ (if is_some p then [] else content_after past o)
other_content past who o call r None a q same = content-kept (made who call r) past o (not-touched o (made who call r) a (no_purge o (purged_by r) q))
other_content past who o call r (Some x) a q same = content-emptied (made who call r) past o (rw (and_right (is_reply r) (is_map_call o call) a.map, q, eq-eqb o x (sym (same x refl))) refl)

module _ (boot : System) (past : List Entry) (who o : ℕ) where
  set_content : (x word : ℕ) (ask : Bool) → option_map_or is_ask_empty (decoded word) false ≡ ask → NeedsAtMost o (needed_number boot past who (SetState x word))
      → content_after (made who (SetState x word) (answer boot past who (SetState x word)) ∷ past) o ≡ (if ask && wasnt_empty (answer boot past who (SetState x word)) then [] else content_after past o)
  set_content x word false ask m =
      let call : Call = SetState x word in
      let none = purge-none (answer boot past who call) call (answer-tells boot past who call) refl in
      content-kept (made who call (answer boot past who call)) past o (not-touched o (made who call (answer boot past who call)) (record { map = refl; write = refl; asks = asks_if (nat_eq x o) (decoded word) ask }) (no_purge o (purged_by (answer boot past who call)) none))
  set_content x word true ask m =
      let call : Call = SetState x word in
      let same : x ≡ o = named-needed boot past who call o x (rw ask refl) m in
      elim (answer-cases boot past who call) [
        | refused why r a ↦ rw a (content-same (made who call (Refused why)) past o refl (λ b. refl))
        | gets r a ↦ rw a (asked_content past who x o word (state past x) (is_empty (state past x)) same ask (ap (state past) (sym same)) refl)
      ]

  -- the bytes of the object that a call needs, after its entry
  pub content-after : (call : Call) → NeedsAtMost o (needed_number boot past who call)
      → content_after (made who call (answer boot past who call) ∷ past) o ≡ bytes_left call (answer boot past who call) (content_after past o)
  content-after (Map x) m =
      let call : Call = Map x in let r = answer boot past who call in
      mapped_content past who x o r (is_reply r) (named-needed boot past who call o x refl m) refl (named-purged boot past who call x refl)
  content-after (Write x off bytes) m =
      let call : Call = Write x off bytes in let r = answer boot past who call in
      written_content past who x o off bytes r (is_reply r) (named-needed boot past who call o x refl m) refl (named-purged boot past who call x refl)
  content-after (SetState x word) m = set_content x word (option_map_or is_ask_empty (decoded word) false) refl m
  content-after call m =
      let r = answer boot past who call in
      other_content past who o call r (purged_by r) (record { map = refl; write = refl; asks = refl }) refl (λ x q. purged-needed boot past who call o x (purged_is r x q) m)

-- a history with the entry of a call at its end
content-more : (h : List Entry) (e : Entry) (o : ℕ) → content (h ++ e ∷ []) o ≡ content_after (e ∷ reverse h) o
content-more h e o = ap (λ (past : List Entry). content_after past o) (reverse-append h (e ∷ []))

-- the bytes of the object that the call needs, in the history with its entry
pub content-left : (boot : System) (h : List Entry) (who o : ℕ) (call : Call) (reply : Reply) → reply ≡ answer boot (reverse h) who call → NeedsAtMost o (needed_number boot (reverse h) who call) → content (h ++ made who call reply ∷ []) o ≡ bytes_left call reply (content h o)
content-left boot h who o call reply r m =
    let past = reverse h in
    content-more h (made who call reply) o
    ∙ subst (λ (x : Reply). content_after (made who call x ∷ past) o ≡ bytes_left call x (content_after past o)) (sym r) (content-after boot past who o call m)

-- and those of any other object
pub content-other : (boot : System) (h : List Entry) (who o : ℕ) (call : Call) (reply : Reply) → reply ≡ answer boot (reverse h) who call → needed_number boot (reverse h) who call ≢ Some o → content (h ++ made who call reply ∷ []) o ≡ content h o
content-other boot h who o call reply r apart =
    content-untouched h (made who call reply) o (λ k. apart (touched-needed boot (reverse h) who call o (subst (λ (x : Reply). Contains (touched (made who call x)) o) r k)))

-- at first an object has no bytes
pub content-first : (o : ℕ) → content [] o ≡ []
content-first o = bytes_of-alike (byte [] o) (λ _. 0) (λ place inside. byte-none o place) ∙ bytes_of-zero
