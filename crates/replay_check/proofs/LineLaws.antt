-- A line that begins as that of the entry that is due.
use Rattle.std.proofs.Common.{◌≡◌, ℕ, ◌+◌, ◌<◌, List, [], ◌∷◌, ◌++◌, length, get_or, set, reverse, true, false, Some, None, sym, ap, ap₂, ◌∙◌, arith, subst, append_assoc}
use Rattle.std.specs.Prelude.{codes}
use Rattle.std.specs.Fmt.{decimal}
use Rattle.std.proofs.lemmas.Bool.{false_from_ne_true}
use Rattle.std.proofs.lemmas.Option.{same_Some}
use Rattle.kern_ids.specs.declared.calls.Call.{Call}
use Rattle.kern_ids.specs.declared.replies.Reply.{Reply}
use Rattle.kern_ids.specs.declared.entries.Entry.{Entry}
use Rattle.kernel_model.specs.System.{System}
use Rattle.kernel_model.specs.Answers.{answer}
use Rattle.kernel_model.specs.Scenario.{Plan}
use Rattle.line_text.specs.Cut.{Word, line_of, words_of}
use Rattle.line_text.specs.Calls.{call_words, HasLine}
use Rattle.line_text.proofs.GrammarLemmas.{ok_is}
use Rattle.line_text.proofs.CutLaws.{words_again}
use Rattle.history_text.specs.Entries.{entry_words, reply_words}
use Rattle.history_text.specs.EntryReading.{Parts, sign_cut, entry_of, HasText, IsLineOf}
use Rattle.history_text.specs.ReplyReading.{HasReply}
use Rattle.history_text.proofs.EntryLaws.{front_words, entry_line, entry_again, entry_clean}
use Rattle.history_text.proofs.Signs.{decimal_unsigned, call_unsigned, line_unsigned, sign_again}
use Rattle.replay_check.specs.declared.verdicts.Verdict.TheVariants.{WrongReply}
use Rattle.replay_check.specs.Same.{same_reply}
use Rattle.replay_check.specs.Verdicts.{is_call_at, is_next, reply_due}
use Rattle.kernel_model.specs.Whole.{of_thread}
use Rattle.replay_check.specs.Replays.{ReplayView, StandsFor}
use Rattle.replay_check.specs.Lines.{front_text, IsNextCall, BeginsWithNumber}
use Rattle.replay_check.proofs.Sames.{same_reply-true, same_reply-refl}
use Rattle.replay_check.proofs.Standing.{stands-wrong_reply, stands-right}

-- ---- the text

-- an entry of this thread with this call
abbrev pub made : ℕ → Call → Reply → Entry
made who call reply = record { who = who; call = call; reply = reply }

pub front-joined : (who : ℕ) (call : Call) (rest : List ℕ) → front_text who call ++ rest ≡ line_of (decimal who ∷ call_words call) ++ 32 ∷ 61 ∷ 32 ∷ rest
front-joined who call rest = append_assoc (line_of (decimal who ∷ call_words call)) (codes " = ") rest

pub made-line : (who : ℕ) (call : Call) (reply : Reply) → line_of (entry_words (made who call reply)) ≡ front_text who call ++ line_of (reply_words reply)
made-line who call reply = entry_line (made who call reply) ∙ sym (front-joined who call (line_of (reply_words reply)))

cut : (who : ℕ) (call : Call) (rest : List ℕ) → who < 32 → HasLine 64 256 call → sign_cut (line_of (decimal who ∷ call_words call) ++ 32 ∷ 61 ∷ 32 ∷ rest) ≡ Some (line_of (decimal who ∷ call_words call), rest)
cut who call rest small has = sign_again (line_of (decimal who ∷ call_words call)) rest (line_unsigned (decimal who) (call_words call) (decimal_unsigned who (omega (arith, small))) (call_unsigned call has))

-- a line that begins so is cut behind the sign
pub back-is : (e : Entry) (who : ℕ) (call : Call) (rest : List ℕ) → HasText e → who < 32 → HasLine 64 256 call → line_of (entry_words e) ≡ front_text who call ++ rest → rest ≡ line_of (reply_words e.reply)
back-is e who call rest text small has is =
    let mine : sign_cut (line_of (entry_words e)) ≡ Some (line_of (front_words e), line_of (reply_words e.reply)) = ap sign_cut (entry_line e) ∙ cut e.who e.call (line_of (reply_words e.reply)) text.who text.call in
    let other : sign_cut (line_of (entry_words e)) ≡ Some (line_of (decimal who ∷ call_words call), rest) = ap sign_cut (is ∙ front-joined who call rest) ∙ cut who call rest small has in
    ap (λ (p : Parts). p.1) (same_Some _ _ (sym other ∙ mine))

-- it is the line of an entry of that thread with that call
pub entry-is : (e : Entry) (who : ℕ) (call : Call) (rest : List ℕ) → HasText e → who < 32 → HasLine 64 256 call → line_of (entry_words e) ≡ front_text who call ++ rest → e ≡ made who call e.reply
entry-is e who call rest text small has is =
    let m = made who call e.reply in
    let back = back-is e who call rest text small has is in
    let same : line_of (entry_words e) ≡ line_of (entry_words m) = is ∙ ap (λ (r : List ℕ). front_text who call ++ r) back ∙ sym (made-line who call e.reply) in
    let there : HasText m = record { who = small; call = has; reply = text.reply } in
    ok_is e m (sym (entry_again e text) ∙ ap entry_of same ∙ entry_again m there)

pub front-number : (who : ℕ) (call : Call) (line rest : List ℕ) → who < 32 → line ≡ front_text who call ++ rest → BeginsWithNumber line
front-number who call line rest small is =
    let words = call_words call in
    (who, line_of words ++ 32 ∷ 61 ∷ 32 ∷ rest, omega (arith, small), is ∙ front-joined who call rest ∙ append_assoc (decimal who) (32 ∷ line_of words) (32 ∷ 61 ∷ 32 ∷ rest))

-- the first word of an entry's line is its thread
pub line-words : (line : List ℕ) (e : Entry) → IsLineOf line e → (ws : List Word) × (words_of line ≡ decimal e.who ∷ ws)
line-words line e is =
    let clean = entry_clean e is.text in
    (call_words e.call ++ codes "=" ∷ reply_words e.reply, ap words_of is.words ∙ words_again (decimal e.who) (call_words e.call ++ codes "=" ∷ reply_words e.reply) clean.0 clean.1)

-- an entry's line goes on as the line of its thread and call
pub line-front : (line : List ℕ) (e : Entry) → IsLineOf line e → line ≡ front_text e.who e.call ++ line_of (reply_words e.reply)
line-front line e is = is.words ∙ made-line e.who e.call e.reply

-- ---- the replay

-- its reply is another one
pub line-wrong : (s : Plan) (es : List Entry) (e : Entry) (r next : ReplayView) (who : ℕ) (call : Call) (expected : Reply) (line rest : List ℕ) (place : ℕ) → r.fault ≡ None → IsNextCall s r.made who call → HasLine 64 256 call
    → line ≡ front_text who call ++ rest → expected ≡ answer r.boot (reverse r.history) who call → (HasReply expected → line ≡ front_text who call ++ line_of (reply_words expected) → ⊥)
    → place ≡ length r.history → next.boot ≡ r.boot → next.made ≡ r.made → next.fault ≡ Some (WrongReply place expected) → IsLineOf line e → StandsFor s es r → StandsFor s (es ++ e ∷ []) next
line-wrong s es e r next who call expected line rest place none due has begins answered differs here boot same fault is stands =
    let history = stands.history none in
    let whole : line_of (entry_words e) ≡ front_text who call ++ rest = sym is.words ∙ begins in
    let entry : e ≡ made who call e.reply = entry-is e who call rest is.text due.thread has whole in
    let count : get_or r.made who 0 ≡ length (of_thread who es) = stands.made none who due.thread in
    let right : is_call_at s who call (get_or r.made who 0) ≡ true = due.next in
    let given : expected ≡ answer s.boot (reverse es) who call = answered ∙ ap₂ (λ (b : System) (h : List Entry). answer b (reverse h) who call) stands.boot history in
    let wrong : same_reply e.reply expected ≡ false = false_from_ne_true (same_reply e.reply expected) (λ yes.
    let equal : e.reply ≡ expected = same_reply-true e.reply expected yes in
    differs (subst HasReply equal is.text.reply) (is.words ∙ ap (λ (x : Entry). line_of (entry_words x)) entry ∙ made-line who call e.reply ∙ ap (λ (x : Reply). front_text who call ++ line_of (reply_words x)) equal)) in
    subst (λ (x : Entry). StandsFor s (es ++ x ∷ []) next) (sym entry)
    (stands-wrong_reply s es (made who call e.reply) r next (get_or r.made who 0) place expected stands none count (here ∙ ap length history) right given wrong boot same fault)

-- its reply is the kernel's
pub line-right : (s : Plan) (es : List Entry) (r next : ReplayView) (who : ℕ) (call : Call) (expected : Reply) → r.fault ≡ None → IsNextCall s r.made who call → expected ≡ answer r.boot (reverse r.history) who call
    → next.boot ≡ r.boot → next.history ≡ r.history ++ made who call expected ∷ [] → next.made ≡ set r.made who (get_or r.made who 0 + 1) → next.fault ≡ r.fault → StandsFor s es r → StandsFor s (es ++ made who call expected ∷ []) next
line-right s es r next who call expected none due answered boot history more same stands =
    let was = stands.history none in
    let e = made who call expected in
    let count : get_or r.made who 0 ≡ length (of_thread who es) = stands.made none who due.thread in
    let given : expected ≡ reply_due s es e = answered ∙ ap₂ (λ (b : System) (h : List Entry). answer b (reverse h) who call) stands.boot was in
    let right : is_next s es e ≡ true = ap (is_call_at s who call) (sym count) ∙ due.next in
    let equal : same_reply expected (reply_due s es e) ≡ true = ap (same_reply expected) (sym given) ∙ same_reply-refl expected in
    stands-right s es e r next stands none right equal due.thread boot (history ∙ ap (λ (x : Reply). r.history ++ made who call x ∷ []) given) more (same ∙ none)
