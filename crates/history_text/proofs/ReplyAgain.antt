-- What is written of a reply is read again, and its words are cut as they were put together.
use Rattle.std.proofs.Common.{◌≡◌, ℕ, zero, suc, ◌<◌, ◌≤◌, ◌^◌, Bool, true, false, List, [], ◌∷◌, ◌++◌, length, map, Ok, Some, refl, arith, subst, ltb}
use Rattle.std.specs.Prelude.{codes}
use Rattle.std.specs.List.{AllByRecursion, list_all}
use Rattle.std.specs.Fmt.{decimal}
use Rattle.std.specs.Str.{bytes_eq}
use Rattle.std.proofs.Common.{find}
use Rattle.kern_ids.specs.declared.calls.State.{State}
use Rattle.kern_ids.specs.declared.calls.State.TheVariants as state
use Rattle.kern_ids.specs.declared.replies.Move.{Move}
use Rattle.kern_ids.specs.declared.replies.Move.TheVariants as move
use Rattle.kern_ids.specs.declared.replies.Cause.{Cause}
use Rattle.kern_ids.specs.declared.replies.Cause.TheVariants as cause
use Rattle.kern_ids.specs.declared.replies.QueueCounts.{QueueCounts}
use Rattle.kern_ids.specs.declared.replies.Refusal.{Refusal}
use Rattle.kern_ids.specs.declared.replies.Refusal.TheVariants.{Dead, NotMine, NoObject, Already, Invalid, Range, Emptied, Shortage}
use Rattle.kern_ids.specs.declared.replies.Reply.{Reply}
use Rattle.kern_ids.specs.declared.replies.Reply.TheVariants.{Mapped, Unmapped, Wrote, Bytes, Old, Is, Was, Pages, Exited, Purged, Nothing, Enough, Moved, Idle, Aged, Quiet, Killed, NoVictim, Banded, Limited, Frames, Tokens, Refused, Attached}
use Rattle.line_text.specs.Cut.{Word}
use Rattle.line_text.specs.Calls.{flag_word}
use Rattle.line_text.proofs.WordLaws.{number_again, reference_again}
use Rattle.line_text.proofs.HexLaws.{hex_again}
use Rattle.line_text.proofs.CutLaws.{IsClean, decimal_clean, hex_clean, clean_by}
use Rattle.history_text.specs.Entries as text
use Rattle.history_text.specs.Entries.{state_word, cause_word, reply_word, reply_arguments, reply_words}
use Rattle.history_text.specs.declared.kind.Kind.{Kind}
use Rattle.history_text.specs.declared.kind.Kind.TheVariants as kind
use Rattle.history_text.specs.ReplyReading.{states, causes, kind_text, kinds, kind_of, count, long_count, task_words, bytes_reply, state_words, was_reply, pages_reply, purged_reply, moved_reply, aged_reply, killed_reply, frames_reply, queue_words, tokens_reply, shortage_words, refusal_words, reply_by, reply_of, HasQueue, HasRefusal, HasReply, kind_of_move, kind_of_reply}
use Rattle.history_text.proofs.Found.{found, word_again}
use Rattle.history_text.proofs.ReplyTakes.{kind_word}

-- ---- words

count_again : (n : ℕ) (rest : List Word) → n < 2 ^ 32 → count (decimal n ∷ rest) ≡ Ok (n, rest)
count_again n rest small = number_again 0 0xffff_ffff n rest (omega arith) (omega arith) (omega arith)

long_again : (n : ℕ) (rest : List Word) → n < 2 ^ 64 → long_count (decimal n ∷ rest) ≡ Ok (n, rest)
long_again n rest small = number_again 0 0xffff_ffff_ffff_ffff n rest (omega arith) (omega arith) (omega arith)

state_found : (s : State) → find (λ y. bytes_eq (state_word s) (state_word y)) states ≡ Some s
state_found state.Nonvolatile = refl
state_found state.Volatile = refl
state_found state.Empty = refl

cause_found : (c : Cause) → find (λ y. bytes_eq (cause_word c) (cause_word y)) causes ≡ Some c
cause_found cause.Limit = refl
cause_found cause.HighWater = refl
cause_found cause.Pressure = refl

kind_found : (k : Kind) → kind_of (kind_text k) ≡ Some k
kind_found kind.Mapped = refl
kind_found kind.Unmapped = refl
kind_found kind.Wrote = refl
kind_found kind.Bytes = refl
kind_found kind.Old = refl
kind_found kind.State = refl
kind_found kind.Was = refl
kind_found kind.Pages = refl
kind_found kind.Exited = refl
kind_found kind.Purged = refl
kind_found kind.Nothing = refl
kind_found kind.Enough = refl
kind_found kind.Deactivated = refl
kind_found kind.Reactivated = refl
kind_found kind.Freed = refl
kind_found kind.Compressed = refl
kind_found kind.Requeued = refl
kind_found kind.Idle = refl
kind_found kind.Aged = refl
kind_found kind.Quiet = refl
kind_found kind.Killed = refl
kind_found kind.NoVictim = refl
kind_found kind.Banded = refl
kind_found kind.Limited = refl
kind_found kind.Frames = refl
kind_found kind.Tokens = refl
kind_found kind.Refused = refl
kind_found kind.Attached = refl

-- ---- what stands behind the first word

state_again : (s : State) → state_words (state_word s ∷ []) ≡ Ok s
unfolding state_words
state_again s = rw (state_words, word_again state_word states s [] (state_found s)) refl

was_again : (on : Bool) → was_reply (flag_word on ∷ []) ≡ Ok (Was on)
unfolding was_reply
was_again true = refl
was_again false = refl

moved_again : (m : Move) (o p : ℕ) → o < 256 → p < 256 → moved_reply m (decimal o ∷ decimal p ∷ []) ≡ Ok (Moved m (record { obj = o; page = p }))
unfolding moved_reply
moved_again m o p few room =
    rw (moved_reply, reference_again 255 256 o (decimal p ∷ []) (omega arith) (omega arith) few, number_again 0 255 p [] (omega arith) (omega arith) (omega arith)) refl

move_again : (m : Move) (o p : ℕ) → o < 256 → p < 256 → reply_by (kind_of_move m) (decimal o ∷ decimal p ∷ []) ≡ Ok (Moved m (record { obj = o; page = p }))
unfolding reply_by
move_again move.Deactivated o p few room = moved_again move.Deactivated o p few room
move_again move.Reactivated o p few room = moved_again move.Reactivated o p few room
move_again move.Freed o p few room = moved_again move.Freed o p few room
move_again move.Compressed o p few room = moved_again move.Compressed o p few room
move_again move.Requeued o p few room = moved_again move.Requeued o p few room

tasks_again : (room : ℕ) (ts : List ℕ) → length ts ≤ room → AllByRecursion (λ t. t < 64) ts → task_words room (map decimal ts) ≡ Ok ts
unfolding task_words
tasks_again zero [] few all = refl
tasks_again (suc room) [] few all = refl
tasks_again zero (t ∷ ts) few all = absurd (omega arith)
tasks_again (suc room) (t ∷ ts) few all =
    let small : t < 64 = all.0 in
    rw (reference_again 63 64 t (map decimal ts) (omega arith) (omega arith) small, tasks_again room ts (omega arith) all.1) refl

queue_again : (q : QueueCounts) (rest : List Word) → HasQueue q → queue_words (text.queue_words q ++ rest) ≡ Ok (q, rest)
unfolding queue_words
queue_again q rest h =
    rw (queue_words, count_again q.tokens (decimal q.ripe ∷ decimal q.next ∷ decimal q.last ∷ rest) h.0, count_again q.ripe (decimal q.next ∷ decimal q.last ∷ rest) h.1, long_again q.next (decimal q.last ∷ rest) h.2, long_again q.last rest h.3) refl

refusal_again : (r : Refusal) → HasRefusal r → refusal_words (text.refusal_words r) ≡ Ok r
unfolding refusal_words shortage_words
refusal_again Dead h = refl
refusal_again NotMine h = refl
refusal_again NoObject h = refl
refusal_again Already h = refl
refusal_again Invalid h = refl
refusal_again Range h = refl
refusal_again Emptied h = refl
refusal_again (Shortage needed free) h = rw (shortage_words, count_again needed (decimal free ∷ []) h.0, count_again free [] h.1) refl

by_again : (r : Reply) → HasReply r → reply_by (kind_of_reply r) (reply_arguments r) ≡ Ok r
unfolding reply_by bytes_reply pages_reply purged_reply aged_reply killed_reply frames_reply tokens_reply
by_again Mapped h = refl
by_again Unmapped h = refl
by_again Wrote h = refl
by_again (Bytes bytes) h = rw (bytes_reply, hex_again bytes [] h) refl
by_again (Old s) h = rw (state_again s) refl
by_again (Is s) h = rw (state_again s) refl
by_again (Was on) h = was_again on
by_again (Pages c) h =
    rw (pages_reply, count_again c.res_non (decimal c.res_vol ∷ decimal c.com_non ∷ decimal c.com_vol ∷ decimal c.footprint ∷ []) h.0, count_again c.res_vol (decimal c.com_non ∷ decimal c.com_vol ∷ decimal c.footprint ∷ []) h.1, count_again c.com_non (decimal c.com_vol ∷ decimal c.footprint ∷ []) h.2, count_again c.com_vol (decimal c.footprint ∷ []) h.3, count_again c.footprint [] h.4) refl
by_again Exited h = refl
by_again (Purged o) h = rw (purged_reply, reference_again 255 256 o [] (omega arith) (omega arith) h) refl
by_again Nothing h = refl
by_again Enough h = refl
by_again (Moved m page) h = move_again m page.obj page.page h.0 h.1
by_again Idle h = refl
by_again (Aged tasks) h = rw (aged_reply, tasks_again 64 tasks h.0 h.1) refl
by_again Quiet h = refl
by_again (Killed t c) h = rw (killed_reply, reference_again 63 64 t (cause_word c ∷ []) (omega arith) (omega arith) h, word_again cause_word causes c [] (cause_found c)) refl
by_again NoVictim h = refl
by_again Banded h = refl
by_again Limited h = refl
by_again (Frames f) h =
    rw (frames_reply, count_again f.free (decimal f.active ∷ decimal f.inactive ∷ decimal f.stored ∷ decimal f.entered ∷ decimal f.left ∷ []) h.0, count_again f.active (decimal f.inactive ∷ decimal f.stored ∷ decimal f.entered ∷ decimal f.left ∷ []) h.1, count_again f.inactive (decimal f.stored ∷ decimal f.entered ∷ decimal f.left ∷ []) h.2, count_again f.stored (decimal f.entered ∷ decimal f.left ∷ []) h.3, long_again f.entered (decimal f.left ∷ []) h.4, long_again f.left [] h.5) refl
by_again (Tokens t) h =
    rw (tokens_reply, queue_again t.obsolete (text.queue_words t.lifo ++ text.queue_words t.fifo) h.0, queue_again t.lifo (text.queue_words t.fifo) h.1, queue_again t.fifo [] h.2) refl
by_again (Refused r) h = rw (refusal_again r h) refl
by_again Attached h = refl

pub reply_again : (r : Reply) → HasReply r → reply_of (reply_words r) ≡ Ok r
unfolding reply_of
reply_again r h =
    let first = word_again kind_text kinds (kind_of_reply r) (reply_arguments r) (kind_found (kind_of_reply r)) in
    rw (reply_of, ← kind_word r, first) (by_again r h)

-- ---- no word has a space or a line feed

kind_clean : (k : Kind) → IsClean (kind_text k)
kind_clean k = let f = found (λ x. bytes_eq (kind_text k) (kind_text x)) (λ x. list_all (λ b. ltb 32 b) (kind_text x)) kinds k refl (kind_found k) in clean_by (kind_text k) f.1

state_clean : (s : State) → IsClean (state_word s)
state_clean s = let f = found (λ x. bytes_eq (state_word s) (state_word x)) (λ x. list_all (λ b. ltb 32 b) (state_word x)) states s refl (state_found s) in clean_by (state_word s) f.1

cause_clean : (c : Cause) → IsClean (cause_word c)
cause_clean c = let f = found (λ x. bytes_eq (cause_word c) (cause_word x)) (λ x. list_all (λ b. ltb 32 b) (cause_word x)) causes c refl (cause_found c) in clean_by (cause_word c) f.1

flag_clean : (on : Bool) → IsClean (flag_word on)
flag_clean true = clean_by (codes "1") refl
flag_clean false = clean_by (codes "0") refl

abbrev AreClean : List Word → Type 0
AreClean ws = AllByRecursion IsClean ws

count_clean : (n : ℕ) → n < 2 ^ 32 → IsClean (decimal n)
count_clean n small = decimal_clean n (omega arith)

tasks_clean : (ts : List ℕ) → AllByRecursion (λ t. t < 64) ts → AreClean (map decimal ts)
tasks_clean [] all = tt
tasks_clean (t ∷ ts) all = let small : t < 64 = all.0 in (decimal_clean t (omega arith), tasks_clean ts all.1)

queue_clean : (q : QueueCounts) (rest : List Word) → HasQueue q → AreClean rest → AreClean (text.queue_words q ++ rest)
queue_clean q rest h more = (count_clean q.tokens h.0, (count_clean q.ripe h.1, (decimal_clean q.next h.2, (decimal_clean q.last h.3, more))))

refusal_clean : (r : Refusal) → HasRefusal r → AreClean (text.refusal_words r)
refusal_clean Dead h = (clean_by (codes "dead") refl, tt)
refusal_clean NotMine h = (clean_by (codes "notmine") refl, tt)
refusal_clean NoObject h = (clean_by (codes "noobject") refl, tt)
refusal_clean Already h = (clean_by (codes "already") refl, tt)
refusal_clean Invalid h = (clean_by (codes "invalid") refl, tt)
refusal_clean Range h = (clean_by (codes "range") refl, tt)
refusal_clean Emptied h = (clean_by (codes "emptied") refl, tt)
refusal_clean (Shortage needed free) h = (clean_by (codes "shortage") refl, (count_clean needed h.0, (count_clean free h.1, tt)))

arguments_clean : (r : Reply) → HasReply r → AreClean (reply_arguments r)
arguments_clean Mapped h = tt
arguments_clean Unmapped h = tt
arguments_clean Wrote h = tt
arguments_clean (Bytes bytes) h = (hex_clean bytes, tt)
arguments_clean (Old s) h = (state_clean s, tt)
arguments_clean (Is s) h = (state_clean s, tt)
arguments_clean (Was on) h = (flag_clean on, tt)
arguments_clean (Pages c) h = (count_clean c.res_non h.0, (count_clean c.res_vol h.1, (count_clean c.com_non h.2, (count_clean c.com_vol h.3, (count_clean c.footprint h.4, tt)))))
arguments_clean Exited h = tt
arguments_clean (Purged o) h = (decimal_clean o (omega arith), tt)
arguments_clean Nothing h = tt
arguments_clean Enough h = tt
arguments_clean (Moved m page) h = let o = h.0 in let p = h.1 in (decimal_clean page.obj (omega arith), (decimal_clean page.page (omega arith), tt))
arguments_clean Idle h = tt
arguments_clean (Aged tasks) h = tasks_clean tasks h.1
arguments_clean Quiet h = tt
arguments_clean (Killed t c) h = (decimal_clean t (omega arith), (cause_clean c, tt))
arguments_clean NoVictim h = tt
arguments_clean Banded h = tt
arguments_clean Limited h = tt
arguments_clean (Frames f) h = (count_clean f.free h.0, (count_clean f.active h.1, (count_clean f.inactive h.2, (count_clean f.stored h.3, (decimal_clean f.entered h.4, (decimal_clean f.left h.5, tt))))))
arguments_clean (Tokens t) h = queue_clean t.obsolete (text.queue_words t.lifo ++ text.queue_words t.fifo) h.0 (queue_clean t.lifo (text.queue_words t.fifo) h.1 (queue_clean t.fifo [] h.2 tt))
arguments_clean (Refused r) h = refusal_clean r h
arguments_clean Attached h = tt

pub reply_clean : (r : Reply) → HasReply r → AllByRecursion IsClean (reply_words r)
reply_clean r h = (subst IsClean (kind_word r) (kind_clean (kind_of_reply r)), arguments_clean r h)
