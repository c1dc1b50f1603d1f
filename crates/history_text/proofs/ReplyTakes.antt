-- What is read of a reply is spelled so.
use Rattle.std.proofs.Common.{◌≡◌, ℕ, zero, suc, ◌+◌, ◌<◌, ◌≤◌, ◌^◌, Bool, true, false, cond, List, [], ◌∷◌, ◌++◌, length, map, Result, Ok, refl, sym, ap, ◌∙◌, arith, subst}
use Rattle.std.specs.Prelude.{codes}
use Rattle.std.specs.List.{AllByRecursion}
use Rattle.std.specs.Fmt.{decimal}
use Rattle.std.specs.Str.{bytes_eq}
use Rattle.std.proofs.lemmas.Slice.Eq.{bytes_eq-Decides}
use Rattle.kern_ids.specs.declared.faults.Why.{Why}
use Rattle.kern_ids.specs.declared.calls.State.{State}
use Rattle.kern_ids.specs.declared.replies.Move.{Move}
use Rattle.kern_ids.specs.declared.replies.Move.TheVariants as move
use Rattle.kern_ids.specs.declared.replies.Counts.{Counts}
use Rattle.kern_ids.specs.declared.replies.FrameCounts.{FrameCounts}
use Rattle.kern_ids.specs.declared.replies.QueueCounts.{QueueCounts}
use Rattle.kern_ids.specs.declared.replies.Refusal.{Refusal}
use Rattle.kern_ids.specs.declared.replies.Refusal.TheVariants.{Dead, NotMine, NoObject, Already, Invalid, Range, Emptied, Shortage}
use Rattle.kern_ids.specs.declared.replies.Reply.{Reply}
use Rattle.kern_ids.specs.declared.replies.Reply.TheVariants.{Mapped, Unmapped, Wrote, Bytes, Old, Is, Was, Pages, Exited, Purged, Nothing, Enough, Moved, Idle, Aged, Quiet, Killed, NoVictim, Banded, Limited, Frames, Tokens, Refused, Attached}
use Rattle.line_text.specs.Cut.{Word}
use Rattle.line_text.specs.Words.{◌>>=◌, choice, number, reference, hex, finished}
use Rattle.line_text.specs.Hex.{hex_text}
use Rattle.line_text.specs.Calls.{flag_word}
use Rattle.line_text.proofs.GrammarLemmas.{bind_ok, ok_is}
use Rattle.line_text.proofs.WordLaws.{number_spelled, reference_spelled, finished_takes}
use Rattle.line_text.proofs.HexLaws.{hex_spelled}
use Rattle.line_text.proofs.CallLaws.{choice_takes}
use Rattle.history_text.specs.Entries as text
use Rattle.history_text.specs.Entries.{state_word, cause_word, reply_word, reply_arguments, reply_words}
use Rattle.history_text.specs.declared.kind.Kind.{Kind}
use Rattle.history_text.specs.declared.kind.Kind.TheVariants as kind
use Rattle.history_text.specs.ReplyReading.{one_of, states, causes, refusal_word, bare_refusals, kind_text, kinds, count, long_count, task_words, bytes_reply, state_words, was_reply, pages_reply, purged_reply, moved_reply, aged_reply, killed_reply, frames_reply, queue_words, tokens_reply, shortage_words, refusal_words, reply_by, reply_of, HasQueue, HasRefusal, HasReply, kind_of_move, kind_of_reply}
use Rattle.history_text.proofs.Found.{one_of_takes, word_takes}

-- ---- one word, and what goes on behind it

onto : {ws rest all : List Word} (f : List Word → List Word) → ws ≡ f rest → rest ≡ all → ws ≡ f all
onto f e h = e ∙ ap f h

abbrev Then : {B : Type 0} → ℕ → List Word → (ℕ × List Word → Result B Why) → B → Type 0
Then bound ws f y = (x : ℕ × List Word) × (ws ≡ decimal x.0 ∷ x.1) × (x.0 < bound) × (f x ≡ Ok y)

number_then : {B : Type 0} (high bound : ℕ) (ws : List Word) (f : ℕ × List Word → Result B Why) (y : B) → high < 2 ^ 64 → high + 1 ≡ bound → (number 0 high ws >>= f) ≡ Ok y → Then bound ws f y
number_then high bound ws f y small end e =
    let b = bind_ok (number 0 high ws) f y e in
    let t = number_spelled 0 high ws b.0 small b.1 in
    (b.0, t.0, omega (arith, t.2), b.2)

count_then : {B : Type 0} (ws : List Word) (f : ℕ × List Word → Result B Why) (y : B) → (count ws >>= f) ≡ Ok y → Then (2 ^ 32) ws f y
count_then ws f y e = number_then 0xffff_ffff (2 ^ 32) ws f y (omega arith) (omega arith) e

long_then : {B : Type 0} (ws : List Word) (f : ℕ × List Word → Result B Why) (y : B) → (long_count ws >>= f) ≡ Ok y → Then (2 ^ 64) ws f y
long_then ws f y e = number_then 0xffff_ffff_ffff_ffff (2 ^ 64) ws f y (omega arith) (omega arith) e

reference_then : {B : Type 0} (high bound : ℕ) (ws : List Word) (f : ℕ × List Word → Result B Why) (y : B) → high < 2 ^ 64 → (reference high bound ws >>= f) ≡ Ok y → Then bound ws f y
reference_then high bound ws f y small e =
    let b = bind_ok (reference high bound ws) f y e in
    let t = reference_spelled high bound ws b.0 small b.1 in
    (b.0, t.0, t.1, b.2)

-- ---- each kind

-- a reply that was read is of this kind, has these words behind its first one, and has a text
abbrev pub Reads : Kind → List Word → Reply → Type 0
Reads k ws r = (kind_of_reply r ≡ k) × (ws ≡ reply_arguments r) × HasReply r

bare : (k : Kind) (x : Reply) (ws : List Word) (r : Reply) → kind_of_reply x ≡ k → (reply_arguments x ≡ []) × HasReply x → finished ws x ≡ Ok r → Reads k ws r
bare k x ws r is s e =
    let d = finished_takes ws x r e in
    subst (λ (y : Reply). Reads k ws y) d.1 (is, d.0 ∙ sym s.0, s.1)

bytes_takes : (ws : List Word) (r : Reply) → bytes_reply ws ≡ Ok r → Reads kind.Bytes ws r
unfolding bytes_reply
bytes_takes ws r e =
    let h = bind_ok (hex ws) (λ b. finished b.1 (Bytes b.0)) r e in
    let d = finished_takes h.0.1 (Bytes h.0.0) r h.2 in
    let t = hex_spelled ws h.0 h.1 in
    subst (Reads kind.Bytes ws) d.1 (refl, onto (λ v. hex_text h.0.0 ∷ v) t.0 d.0, t.1)

state_takes : (ws : List Word) (s : State) → state_words ws ≡ Ok s → ws ≡ state_word s ∷ []
unfolding state_words
state_takes ws s e =
    let b = bind_ok (one_of state_word states ws) (λ s. finished s.1 s.0) s e in
    let d = finished_takes b.0.1 b.0.0 s b.2 in
    onto (λ v. state_word b.0.0 ∷ v) (word_takes state_word states ws b.0 b.1) d.0 ∙ ap (λ (x : State). state_word x ∷ []) d.1

state_by : (k : Kind) (make : State → Reply) (ws : List Word) (r : Reply) → ((s : State) → kind_of_reply (make s) ≡ k) → ((s : State) → (reply_arguments (make s) ≡ state_word s ∷ []) × HasReply (make s)) → (state_words ws >>= λ s. Ok (make s)) ≡ Ok r → Reads k ws r
state_by k make ws r is words e =
    let b = bind_ok (state_words ws) (λ s. Ok (make s)) r e in
    let w = words b.0 in
    subst (Reads k ws) (ok_is (make b.0) r b.2) (is b.0, state_takes ws b.0 b.1 ∙ sym w.0, w.1)

flag_is : (b : Bool) → cond b (codes "1") (codes "0") ≡ flag_word b
flag_is b = refl

was_takes : (ws : List Word) (r : Reply) → was_reply ws ≡ Ok r → Reads kind.Was ws r
unfolding was_reply
was_takes ws r e =
    let b = bind_ok (choice (codes "1") (codes "0") ws) (λ on. finished on.1 (Was on.0)) r e in
    let d = finished_takes b.0.1 (Was b.0.0) r b.2 in
    subst (Reads kind.Was ws) d.1 (refl, onto (λ v. flag_word b.0.0 ∷ v) (choice_takes (codes "1") (codes "0") ws b.0 b.1) d.0, tt)

pages_by : (c : Counts) (ws w1 w2 w3 w4 w5 : List Word) (r : Reply) → ws ≡ decimal c.res_non ∷ w1 → w1 ≡ decimal c.res_vol ∷ w2 → w2 ≡ decimal c.com_non ∷ w3 → w3 ≡ decimal c.com_vol ∷ w4 → w4 ≡ decimal c.footprint ∷ w5 → HasReply (Pages c) → finished w5 (Pages c) ≡ Ok r → Reads kind.Pages ws r
pages_by c ws w1 w2 w3 w4 w5 r e1 e2 e3 e4 e5 has e =
    let d = finished_takes w5 (Pages c) r e in
    let words : ws ≡ text.counts_words c = onto (λ v. decimal c.res_non ∷ v) e1 (onto (λ v. decimal c.res_vol ∷ v) e2 (onto (λ v. decimal c.com_non ∷ v) e3 (onto (λ v. decimal c.com_vol ∷ v) e4 (onto (λ v. decimal c.footprint ∷ v) e5 d.0)))) in
    subst (Reads kind.Pages ws) d.1 (refl, words, has)

pages_takes : (ws : List Word) (r : Reply) → pages_reply ws ≡ Ok r → Reads kind.Pages ws r
unfolding pages_reply
pages_takes ws r e =
    let n1 = count_then ws _ r e in
    let n2 = count_then n1.0.1 _ r n1.3 in
    let n3 = count_then n2.0.1 _ r n2.3 in
    let n4 = count_then n3.0.1 _ r n3.3 in
    let n5 = count_then n4.0.1 _ r n4.3 in
    pages_by (record { res_non = n1.0.0; res_vol = n2.0.0; com_non = n3.0.0; com_vol = n4.0.0; footprint = n5.0.0 }) ws n1.0.1 n2.0.1 n3.0.1 n4.0.1 n5.0.1 r n1.1 n2.1 n3.1 n4.1 n5.1 (n1.2, n2.2, n3.2, n4.2, n5.2) n5.3

purged_takes : (ws : List Word) (r : Reply) → purged_reply ws ≡ Ok r → Reads kind.Purged ws r
unfolding purged_reply
purged_takes ws r e =
    let o = reference_then 255 256 ws (λ o. finished o.1 (Purged o.0)) r (omega arith) e in
    let d = finished_takes o.0.1 (Purged o.0.0) r o.3 in
    subst (Reads kind.Purged ws) d.1 (refl, onto (λ v. decimal o.0.0 ∷ v) o.1 d.0, o.2)

moved_takes : (m : Move) (ws : List Word) (r : Reply) → moved_reply m ws ≡ Ok r → Reads (kind_of_move m) ws r
unfolding moved_reply
moved_takes m ws r e =
    let o = reference_then 255 256 ws _ r (omega arith) e in
    let p = number_then 255 256 o.0.1 (λ p. finished p.1 (Moved m (record { obj = o.0.0; page = p.0 }))) r (omega arith) refl o.3 in
    let d = finished_takes p.0.1 (Moved m (record { obj = o.0.0; page = p.0.0 })) r p.3 in
    subst (Reads (kind_of_move m) ws) d.1 (refl, onto (λ v. decimal o.0.0 ∷ v) o.1 (onto (λ v. decimal p.0.0 ∷ v) p.1 d.0), (o.2, p.2))

tasks_takes : (room : ℕ) (ws : List Word) (ts : List ℕ) → task_words room ws ≡ Ok ts → (ws ≡ map decimal ts) × (length ts ≤ room) × AllByRecursion (λ t. t < 64) ts
unfolding task_words
tasks_takes zero [] ts e = subst (λ (xs : List ℕ). ([] ≡ map decimal xs) × (length xs ≤ 0) × AllByRecursion (λ t. t < 64) xs) (ok_is [] ts e) (refl, omega arith, tt)
tasks_takes (suc room) [] ts e = subst (λ (xs : List ℕ). ([] ≡ map decimal xs) × (length xs ≤ suc room) × AllByRecursion (λ t. t < 64) xs) (ok_is [] ts e) (refl, omega arith, tt)
tasks_takes zero (w ∷ ws) ts e = absurd cc
tasks_takes (suc room) (w ∷ ws) ts e =
    let t = reference_then 63 64 (w ∷ ws) (λ t. task_words room t.1 >>= λ xs. Ok (t.0 ∷ xs)) ts (omega arith) e in
    let b = bind_ok (task_words room t.0.1) (λ xs. Ok (t.0.0 ∷ xs)) ts t.3 in
    let more = tasks_takes room t.0.1 b.0 b.1 in
    subst (λ (xs : List ℕ). (w ∷ ws ≡ map decimal xs) × (length xs ≤ suc room) × AllByRecursion (λ t. t < 64) xs) (ok_is (t.0.0 ∷ b.0) ts b.2)
    (onto (λ v. decimal t.0.0 ∷ v) t.1 more.0, omega (arith, more.1), (t.2, more.2))

aged_takes : (ws : List Word) (r : Reply) → aged_reply ws ≡ Ok r → Reads kind.Aged ws r
unfolding aged_reply
aged_takes ws r e =
    let b = bind_ok (task_words 64 ws) (λ ts. Ok (Aged ts)) r e in
    let t = tasks_takes 64 ws b.0 b.1 in
    subst (Reads kind.Aged ws) (ok_is (Aged b.0) r b.2) (refl, t.0, (t.1, t.2))

killed_takes : (ws : List Word) (r : Reply) → killed_reply ws ≡ Ok r → Reads kind.Killed ws r
unfolding killed_reply
killed_takes ws r e =
    let t = reference_then 63 64 ws _ r (omega arith) e in
    let c = bind_ok (one_of cause_word causes t.0.1) (λ c. finished c.1 (Killed t.0.0 c.0)) r t.3 in
    let d = finished_takes c.0.1 (Killed t.0.0 c.0.0) r c.2 in
    subst (Reads kind.Killed ws) d.1 (refl, onto (λ v. decimal t.0.0 ∷ v) t.1 (onto (λ v. cause_word c.0.0 ∷ v) (word_takes cause_word causes t.0.1 c.0 c.1) d.0), t.2)

frames_by : (f : FrameCounts) (ws w1 w2 w3 w4 w5 w6 : List Word) (r : Reply) → ws ≡ decimal f.free ∷ w1 → w1 ≡ decimal f.active ∷ w2 → w2 ≡ decimal f.inactive ∷ w3 → w3 ≡ decimal f.stored ∷ w4 → w4 ≡ decimal f.entered ∷ w5 → w5 ≡ decimal f.left ∷ w6
    → HasReply (Frames f) → finished w6 (Frames f) ≡ Ok r → Reads kind.Frames ws r
frames_by f ws w1 w2 w3 w4 w5 w6 r e1 e2 e3 e4 e5 e6 has e =
    let d = finished_takes w6 (Frames f) r e in
    let words : ws ≡ text.frame_words f = onto (λ v. decimal f.free ∷ v) e1 (onto (λ v. decimal f.active ∷ v) e2 (onto (λ v. decimal f.inactive ∷ v) e3 (onto (λ v. decimal f.stored ∷ v) e4 (onto (λ v. decimal f.entered ∷ v) e5 (onto (λ v. decimal f.left ∷ v) e6 d.0))))) in
    subst (Reads kind.Frames ws) d.1 (refl, words, has)

frames_takes : (ws : List Word) (r : Reply) → frames_reply ws ≡ Ok r → Reads kind.Frames ws r
unfolding frames_reply
frames_takes ws r e =
    let n1 = count_then ws _ r e in
    let n2 = count_then n1.0.1 _ r n1.3 in
    let n3 = count_then n2.0.1 _ r n2.3 in
    let n4 = count_then n3.0.1 _ r n3.3 in
    let n5 = long_then n4.0.1 _ r n4.3 in
    let n6 = long_then n5.0.1 _ r n5.3 in
    frames_by (record { free = n1.0.0; active = n2.0.0; inactive = n3.0.0; stored = n4.0.0; entered = n5.0.0; left = n6.0.0 }) ws n1.0.1 n2.0.1 n3.0.1 n4.0.1 n5.0.1 n6.0.1 r n1.1 n2.1 n3.1 n4.1 n5.1 n6.1 (n1.2, n2.2, n3.2, n4.2, n5.2, n6.2) n6.3

queue_takes : (ws : List Word) (x : QueueCounts × List Word) → queue_words ws ≡ Ok x → (ws ≡ text.queue_words x.0 ++ x.1) × HasQueue x.0
unfolding queue_words
queue_takes ws x e =
    let n1 = count_then ws _ x e in
    let n2 = count_then n1.0.1 _ x n1.3 in
    let n3 = long_then n2.0.1 _ x n2.3 in
    let n4 = long_then n3.0.1 _ x n3.3 in
    let q : QueueCounts = record { tokens = n1.0.0; ripe = n2.0.0; next = n3.0.0; last = n4.0.0 } in
    subst (λ (y : QueueCounts × List Word). (ws ≡ text.queue_words y.0 ++ y.1) × HasQueue y.0) (ok_is (q, n4.0.1) x n4.3)
    (onto (λ v. decimal n1.0.0 ∷ v) n1.1 (onto (λ v. decimal n2.0.0 ∷ v) n2.1 (onto (λ v. decimal n3.0.0 ∷ v) n3.1 n4.1)), (n1.2, n2.2, n3.2, n4.2))

tokens_by : (o l f : QueueCounts) (ws w1 w2 w3 : List Word) (r : Reply) → ws ≡ text.queue_words o ++ w1 → w1 ≡ text.queue_words l ++ w2 → w2 ≡ text.queue_words f ++ w3 → HasQueue o → HasQueue l → HasQueue f → finished w3 (Tokens (record { obsolete = o; lifo = l; fifo = f })) ≡ Ok r → Reads kind.Tokens ws r
tokens_by o l f ws w1 w2 w3 r e1 e2 e3 h1 h2 h3 e =
    let d = finished_takes w3 (Tokens (record { obsolete = o; lifo = l; fifo = f })) r e in
    let words : ws ≡ text.queue_words o ++ (text.queue_words l ++ (text.queue_words f ++ [])) = onto (λ v. text.queue_words o ++ v) e1 (onto (λ v. text.queue_words l ++ v) e2 (onto (λ v. text.queue_words f ++ v) e3 d.0)) in
    subst (Reads kind.Tokens ws) d.1 (refl, words, (h1, h2, h3))

tokens_takes : (ws : List Word) (r : Reply) → tokens_reply ws ≡ Ok r → Reads kind.Tokens ws r
unfolding tokens_reply
tokens_takes ws r e =
    let o = bind_ok (queue_words ws) _ r e in
    let l = bind_ok (queue_words o.0.1) _ r o.2 in
    let f = bind_ok (queue_words l.0.1) _ r l.2 in
    let t1 = queue_takes ws o.0 o.1 in
    let t2 = queue_takes o.0.1 l.0 l.1 in
    let t3 = queue_takes l.0.1 f.0 f.1 in
    tokens_by o.0.0 l.0.0 f.0.0 ws o.0.1 l.0.1 f.0.1 r t1.0 t2.0 t3.0 t1.1 t2.1 t3.1 f.2

-- ---- refusals

abbrev RefusalIs : List Word → Refusal → Type 0
RefusalIs ws r = (ws ≡ text.refusal_words r) × HasRefusal r

shortage_takes : (ws : List Word) (r : Refusal) → shortage_words ws ≡ Ok r → RefusalIs (codes "shortage" ∷ ws) r
unfolding shortage_words
shortage_takes ws r e =
    let n = count_then ws _ r e in
    let m = count_then n.0.1 (λ m. finished m.1 (Shortage n.0.0 m.0)) r n.3 in
    let d = finished_takes m.0.1 (Shortage n.0.0 m.0.0) r m.3 in
    subst (RefusalIs (codes "shortage" ∷ ws)) d.1 (ap (λ (v : List Word). codes "shortage" ∷ v) (onto (λ v. decimal n.0.0 ∷ v) n.1 (onto (λ v. decimal m.0.0 ∷ v) m.1 d.0)), (n.2, m.2))

abbrev is_bare : Refusal → Bool
is_bare (Shortage needed free) = false
is_bare _ = true

bare_words : (r : Refusal) → is_bare r ≡ true → RefusalIs (refusal_word r ∷ []) r
bare_words Dead e = (refl, tt)
bare_words NotMine e = (refl, tt)
bare_words NoObject e = (refl, tt)
bare_words Already e = (refl, tt)
bare_words Invalid e = (refl, tt)
bare_words Range e = (refl, tt)
bare_words Emptied e = (refl, tt)
bare_words (Shortage needed free) e = absurd cc

bare_takes : (ws : List Word) (r : Refusal) → (one_of refusal_word bare_refusals ws >>= λ r. finished r.1 r.0) ≡ Ok r → RefusalIs ws r
bare_takes ws r e =
    let b = bind_ok (one_of refusal_word bare_refusals ws) (λ r. finished r.1 r.0) r e in
    let t = one_of_takes refusal_word is_bare bare_refusals ws b.0 refl b.1 in
    let d = finished_takes b.0.1 b.0.0 r b.2 in
    let w = bare_words b.0.0 t.1 in
    subst (RefusalIs ws) d.1 (onto (λ v. refusal_word b.0.0 ∷ v) t.0 d.0 ∙ w.0, w.1)

refusal_by : (b : Bool) (w : Word) (ws : List Word) (r : Refusal) → bytes_eq w (codes "shortage") ≡ b → cond b (shortage_words ws) (one_of refusal_word bare_refusals (w ∷ ws) >>= λ r. finished r.1 r.0) ≡ Ok r → RefusalIs (w ∷ ws) r
refusal_by true w ws r is e =
    let d = bytes_eq-Decides w (codes "shortage") in
    subst (λ (v : Word). RefusalIs (v ∷ ws) r) (sym (d.0 is)) (shortage_takes ws r e)
refusal_by false w ws r is e = bare_takes (w ∷ ws) r e

refusal_takes : (ws : List Word) (r : Refusal) → refusal_words ws ≡ Ok r → RefusalIs ws r
unfolding refusal_words
refusal_takes [] r e = absurd cc
refusal_takes (w ∷ ws) r e = refusal_by (bytes_eq w (codes "shortage")) w ws r refl e

refused_takes : (ws : List Word) (r : Reply) → (refusal_words ws >>= λ r. Ok (Refused r)) ≡ Ok r → Reads kind.Refused ws r
refused_takes ws r e =
    let b = bind_ok (refusal_words ws) (λ r. Ok (Refused r)) r e in
    subst (Reads kind.Refused ws) (ok_is (Refused b.0) r b.2) (let t = refusal_takes ws b.0 b.1 in (refl, t.0, t.1))

-- ---- all kinds

by_takes : (k : Kind) (ws : List Word) (r : Reply) → reply_by k ws ≡ Ok r → Reads k ws r
unfolding reply_by
by_takes kind.Mapped ws r e = bare kind.Mapped Mapped ws r refl (refl, tt) e
by_takes kind.Unmapped ws r e = bare kind.Unmapped Unmapped ws r refl (refl, tt) e
by_takes kind.Wrote ws r e = bare kind.Wrote Wrote ws r refl (refl, tt) e
by_takes kind.Bytes ws r e = bytes_takes ws r e
by_takes kind.Old ws r e = state_by kind.Old Old ws r (λ s. refl) (λ s. (refl, tt)) e
by_takes kind.State ws r e = state_by kind.State Is ws r (λ s. refl) (λ s. (refl, tt)) e
by_takes kind.Was ws r e = was_takes ws r e
by_takes kind.Pages ws r e = pages_takes ws r e
by_takes kind.Exited ws r e = bare kind.Exited Exited ws r refl (refl, tt) e
by_takes kind.Purged ws r e = purged_takes ws r e
by_takes kind.Nothing ws r e = bare kind.Nothing Nothing ws r refl (refl, tt) e
by_takes kind.Enough ws r e = bare kind.Enough Enough ws r refl (refl, tt) e
by_takes kind.Deactivated ws r e = moved_takes move.Deactivated ws r e
by_takes kind.Reactivated ws r e = moved_takes move.Reactivated ws r e
by_takes kind.Freed ws r e = moved_takes move.Freed ws r e
by_takes kind.Compressed ws r e = moved_takes move.Compressed ws r e
by_takes kind.Requeued ws r e = moved_takes move.Requeued ws r e
by_takes kind.Idle ws r e = bare kind.Idle Idle ws r refl (refl, tt) e
by_takes kind.Aged ws r e = aged_takes ws r e
by_takes kind.Quiet ws r e = bare kind.Quiet Quiet ws r refl (refl, tt) e
by_takes kind.Killed ws r e = killed_takes ws r e
by_takes kind.NoVictim ws r e = bare kind.NoVictim NoVictim ws r refl (refl, tt) e
by_takes kind.Banded ws r e = bare kind.Banded Banded ws r refl (refl, tt) e
by_takes kind.Limited ws r e = bare kind.Limited Limited ws r refl (refl, tt) e
by_takes kind.Frames ws r e = frames_takes ws r e
by_takes kind.Tokens ws r e = tokens_takes ws r e
by_takes kind.Refused ws r e = refused_takes ws r e
by_takes kind.Attached ws r e = bare kind.Attached Attached ws r refl (refl, tt) e

pub moved_word : (m : Move) → kind_text (kind_of_move m) ≡ text.move_word m
moved_word move.Deactivated = refl
moved_word move.Reactivated = refl
moved_word move.Freed = refl
moved_word move.Compressed = refl
moved_word move.Requeued = refl

-- the kind's word is the first word of the reply
pub kind_word : (r : Reply) → kind_text (kind_of_reply r) ≡ reply_word r
kind_word Mapped = refl
kind_word Unmapped = refl
kind_word Wrote = refl
kind_word (Bytes bytes) = refl
kind_word (Old s) = refl
kind_word (Is s) = refl
kind_word (Was on) = refl
kind_word (Pages counts) = refl
kind_word Exited = refl
kind_word (Purged o) = refl
kind_word Nothing = refl
kind_word Enough = refl
kind_word (Moved m page) = moved_word m
kind_word Idle = refl
kind_word (Aged tasks) = refl
kind_word Quiet = refl
kind_word (Killed t c) = refl
kind_word NoVictim = refl
kind_word Banded = refl
kind_word Limited = refl
kind_word (Frames frames) = refl
kind_word (Tokens tokens) = refl
kind_word (Refused refusal) = refl
kind_word Attached = refl

pub reply_takes : (ws : List Word) (r : Reply) → reply_of ws ≡ Ok r → (ws ≡ reply_words r) × HasReply r
unfolding reply_of
reply_takes ws r e =
    let b = bind_ok (one_of kind_text kinds ws) (λ k. reply_by k.0 k.1) r e in
    let w = word_takes kind_text kinds ws b.0 b.1 in
    let t = by_takes b.0.0 b.0.1 r b.2 in
    (w ∙ ap (λ (v : List Word). kind_text b.0.0 ∷ v) t.1 ∙ ap (λ (k : Kind). kind_text k ∷ reply_arguments r) (sym t.0) ∙ ap (λ (v : Word). v ∷ reply_arguments r) (kind_word r), t.2)
