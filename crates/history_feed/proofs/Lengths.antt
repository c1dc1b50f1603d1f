-- The line of an entry has at most 1,100 bytes.
use Rattle.std.proofs.Common.{◌≡◌, ℕ, ◌+◌, ◌*◌, ◌<◌, ◌≤◌, ◌^◌, Bool, true, false, List, [], ◌∷◌, ◌++◌, length, map, Ok, ap, ◌∙◌, arith}
use Rattle.std.specs.Prelude.{codes}
use Rattle.std.specs.List.{AllByRecursion}
use Rattle.std.specs.Fmt.{decimal}
use Rattle.std.proofs.lemmas.Fmt.{length-decimal-le}
use Rattle.std.proofs.lemmas.List.{length-append}
use Rattle.kern_ids.specs.declared.calls.Call.{Call}
use Rattle.kern_ids.specs.declared.calls.Call.TheVariants.{Map, Unmap, Write, Read, SetState, GetState, Active, Ledger, Exit, PurgeOne, Forced, Scan, Tick, Jetsam, SetBand, SetLimits, Info, Purgeables, Attach}
use Rattle.kern_ids.specs.declared.calls.State.{State}
use Rattle.kern_ids.specs.declared.calls.State.TheVariants as state
use Rattle.kern_ids.specs.declared.replies.Move.{Move}
use Rattle.kern_ids.specs.declared.replies.Move.TheVariants as move
use Rattle.kern_ids.specs.declared.replies.Cause.{Cause}
use Rattle.kern_ids.specs.declared.replies.Cause.TheVariants as cause
use Rattle.kern_ids.specs.declared.replies.Refusal.{Refusal}
use Rattle.kern_ids.specs.declared.replies.Refusal.TheVariants.{Dead, NotMine, NoObject, Already, Invalid, Range, Emptied, Shortage}
use Rattle.kern_ids.specs.declared.replies.Reply.{Reply}
use Rattle.kern_ids.specs.declared.replies.Reply.TheVariants.{Mapped, Unmapped, Wrote, Bytes, Old, Is, Was, Pages, Exited, Purged, Nothing, Enough, Moved, Idle, Aged, Quiet, Killed, NoVictim, Banded, Limited, Frames, Tokens, Refused, Attached}
use Rattle.kern_ids.specs.declared.entries.Entry.{Entry}
use Rattle.line_text.specs.declared.verb.Verb.{Verb}
use Rattle.line_text.specs.declared.verb.Verb.TheVariants as verb
use Rattle.line_text.specs.Cut.{Word, line_of, spaced}
use Rattle.line_text.specs.Hex.{hex_text}
use Rattle.line_text.specs.Verbs.{verb_text, verb_of_call}
use Rattle.line_text.specs.Calls.{flag_word, fatal_word, call_arguments, call_words, HasLine}
use Rattle.line_text.proofs.DecimalLemmas.{hex_length}
use Rattle.line_text.proofs.Lines.{line_of-cons}
use Rattle.history_text.specs.Entries.{state_word, move_word, cause_word, refusal_words, entry_words, reply_word, reply_arguments, reply_words}
use Rattle.history_text.specs.ReplyReading.{HasRefusal, HasReply}
use Rattle.history_text.specs.EntryReading.{entry_of, HasText}
use Rattle.history_text.proofs.EntryLaws.{entry_takes}

-- ---- words no longer than that

abbrev AreWithin : List ℕ → List Word → Type 0
AreWithin [] [] = Unit {0}
AreWithin [] (w ∷ ws) = ⊥
AreWithin (k ∷ ks) [] = ⊥
AreWithin (k ∷ ks) (w ∷ ws) = (length w ≤ k) × AreWithin ks ws

abbrev room : List ℕ → ℕ
room [] = 0
room (k ∷ ks) = k + 1 + room ks

spaced-more : (w : Word) (ws : List Word) → length (spaced (w ∷ ws)) ≡ length w + 1 + length (spaced ws)
spaced-more w ws = let e : length (spaced (w ∷ ws)) ≡ length (32 ∷ w) + length (spaced ws) = length-append (32 ∷ w) (spaced ws) in omega (arith, e)

spaced-within : (ks : List ℕ) (ws : List Word) → AreWithin ks ws → length (spaced ws) ≤ room ks
spaced-within [] [] h = omega arith
spaced-within [] (w ∷ ws) h = absurd h
spaced-within (k ∷ ks) [] h = absurd h
spaced-within (k ∷ ks) (w ∷ ws) h = let a : length w ≤ k = h.0 in let b = spaced-within ks ws h.1 in omega (arith, spaced-more w ws, a, b)

spaced-append : (xs ys : List Word) → length (spaced (xs ++ ys)) ≡ length (spaced xs) + length (spaced ys)
spaced-append [] ys = omega arith
spaced-append (x ∷ xs) ys = omega (arith, spaced-more x (xs ++ ys), spaced-more x xs, spaced-append xs ys)

-- ---- words

long : (n : ℕ) → n < 2 ^ 64 → length (decimal n) ≤ 20
long n h = length-decimal-le 20 n (omega arith) (omega arith) (omega arith)

short : (n : ℕ) → n < 2 ^ 32 → length (decimal n) ≤ 10
short n h = length-decimal-le 10 n (omega arith) (omega arith) (omega arith)

two : (n : ℕ) → n < 64 → length (decimal n) ≤ 2
two n h = length-decimal-le 2 n (omega arith) (omega arith) (omega arith)

hex : (bytes : List ℕ) → length bytes ≤ 256 → length (hex_text bytes) ≤ 512
hex bytes h = omega (arith, hex_length bytes)

flag : (b : Bool) → length (flag_word b) ≤ 1
flag true = omega arith
flag false = omega arith

fatal : (b : Bool) → length (fatal_word b) ≤ 5
fatal true = omega arith
fatal false = omega arith

verb_short : (v : Verb) → length (verb_text v) ≤ 9
verb_short verb.Map = omega arith
verb_short verb.Attach = omega arith
verb_short verb.Unmap = omega arith
verb_short verb.Write = omega arith
verb_short verb.Read = omega arith
verb_short verb.Set = omega arith
verb_short verb.Get = omega arith
verb_short verb.Active = omega arith
verb_short verb.Ledger = omega arith
verb_short verb.Exit = omega arith
verb_short verb.Purge = omega arith
verb_short verb.Force = omega arith
verb_short verb.Scan = omega arith
verb_short verb.Tick = omega arith
verb_short verb.Jetsam = omega arith
verb_short verb.Band = omega arith
verb_short verb.Limits = omega arith
verb_short verb.Info = omega arith
verb_short verb.Volatiles = omega arith

state_short : (s : State) → length (state_word s) ≤ 11
state_short state.Nonvolatile = omega arith
state_short state.Volatile = omega arith
state_short state.Empty = omega arith

move_short : (m : Move) → length (move_word m) ≤ 11
move_short move.Deactivated = omega arith
move_short move.Reactivated = omega arith
move_short move.Freed = omega arith
move_short move.Compressed = omega arith
move_short move.Requeued = omega arith

cause_short : (c : Cause) → length (cause_word c) ≤ 9
cause_short cause.Limit = omega arith
cause_short cause.HighWater = omega arith
cause_short cause.Pressure = omega arith

-- ---- a call

call_short : (c : Call) → HasLine 64 256 c → length (spaced (call_arguments c)) ≤ 535
call_short (Map o) h = let b = spaced-within (10 ∷ []) (decimal o ∷ []) (short o (omega arith), tt) in omega (arith, b)
call_short (Attach o) h = let b = spaced-within (10 ∷ []) (decimal o ∷ []) (short o (omega arith), tt) in omega (arith, b)
call_short (Unmap o) h = let b = spaced-within (10 ∷ []) (decimal o ∷ []) (short o (omega arith), tt) in omega (arith, b)
call_short (GetState o) h = let b = spaced-within (10 ∷ []) (decimal o ∷ []) (short o (omega arith), tt) in omega (arith, b)
call_short (Write o off bytes) h =
    let few = h.2 in
    spaced-within (10 ∷ 10 ∷ 512 ∷ []) (decimal o ∷ decimal off ∷ hex_text bytes ∷ []) (short o (let a = h.0 in omega (arith, a)), (short off h.1, (hex bytes few.1, tt)))
call_short (Read o off len) h =
    let b = spaced-within (10 ∷ 10 ∷ 10 ∷ []) (decimal o ∷ decimal off ∷ decimal len ∷ []) (short o (let a = h.0 in omega (arith, a)), (short off h.1, (short len h.2, tt))) in omega (arith, b)
call_short (SetState o word) h =
    let b = spaced-within (10 ∷ 10 ∷ []) (decimal o ∷ decimal word ∷ []) (short o (let a = h.0 in omega (arith, a)), (short word h.1, tt)) in omega (arith, b)
call_short (Active on) h = let b = spaced-within (1 ∷ []) (flag_word on ∷ []) (flag on, tt) in omega (arith, b)
call_short (SetBand t band) h =
    let b = spaced-within (2 ∷ 2 ∷ []) (decimal t ∷ decimal band ∷ []) (two t h.0, (two band (let a = h.1 in omega (arith, a)), tt)) in omega (arith, b)
call_short (SetLimits t a i) h =
    let b = spaced-within (2 ∷ 10 ∷ 5 ∷ 10 ∷ 5 ∷ []) (decimal t ∷ decimal a.pages ∷ fatal_word a.fatal ∷ decimal i.pages ∷ fatal_word i.fatal ∷ [])
    (two t h.0, (short a.pages (let x = h.1 in omega (arith, x)), (fatal a.fatal, (short i.pages (let x = h.2 in omega (arith, x)), (fatal i.fatal, tt))))) in
    omega (arith, b)
call_short Ledger h = omega arith
call_short Exit h = omega arith
call_short PurgeOne h = omega arith
call_short Forced h = omega arith
call_short Scan h = omega arith
call_short Tick h = omega arith
call_short Jetsam h = omega arith
call_short Info h = omega arith
call_short Purgeables h = omega arith

-- ---- a reply

reply_word_short : (r : Reply) → length (reply_word r) ≤ 11
reply_word_short Mapped = omega arith
reply_word_short Unmapped = omega arith
reply_word_short Wrote = omega arith
reply_word_short (Bytes bytes) = omega arith
reply_word_short (Old s) = omega arith
reply_word_short (Is s) = omega arith
reply_word_short (Was on) = omega arith
reply_word_short (Pages counts) = omega arith
reply_word_short Exited = omega arith
reply_word_short (Purged o) = omega arith
reply_word_short Nothing = omega arith
reply_word_short Enough = omega arith
reply_word_short (Moved m page) = move_short m
reply_word_short Idle = omega arith
reply_word_short (Aged tasks) = omega arith
reply_word_short Quiet = omega arith
reply_word_short (Killed t c) = omega arith
reply_word_short NoVictim = omega arith
reply_word_short Banded = omega arith
reply_word_short Limited = omega arith
reply_word_short (Frames frames) = omega arith
reply_word_short (Tokens tokens) = omega arith
reply_word_short (Refused refusal) = omega arith
reply_word_short Attached = omega arith

refusal_short : (r : Refusal) → HasRefusal r → length (spaced (refusal_words r)) ≤ 513
refusal_short (Shortage needed free) h =
    let b = spaced-within (8 ∷ 10 ∷ 10 ∷ []) (codes "shortage" ∷ decimal needed ∷ decimal free ∷ []) (omega arith, (short needed h.0, (short free h.1, tt))) in omega (arith, b)
refusal_short Dead h = omega arith
refusal_short NotMine h = omega arith
refusal_short NoObject h = omega arith
refusal_short Already h = omega arith
refusal_short Invalid h = omega arith
refusal_short Range h = omega arith
refusal_short Emptied h = omega arith

tasks_short : (ts : List ℕ) → AllByRecursion (λ t. t < 64) ts → length (spaced (map decimal ts)) ≤ 3 * length ts
tasks_short [] h = omega arith
tasks_short (t ∷ ts) h = let a = two t h.0 in let b = tasks_short ts h.1 in omega (arith, spaced-more (decimal t) (map decimal ts), a, b)

reply_short : (r : Reply) → HasReply r → length (spaced (reply_arguments r)) ≤ 513
reply_short (Bytes bytes) h = spaced-within (512 ∷ []) (hex_text bytes ∷ []) (hex bytes h.1, tt)
reply_short (Old s) h = let b = spaced-within (11 ∷ []) (state_word s ∷ []) (state_short s, tt) in omega (arith, b)
reply_short (Is s) h = let b = spaced-within (11 ∷ []) (state_word s ∷ []) (state_short s, tt) in omega (arith, b)
reply_short (Was on) h = let b = spaced-within (1 ∷ []) (flag_word on ∷ []) (flag on, tt) in omega (arith, b)
reply_short (Pages c) h =
    let b = spaced-within (10 ∷ 10 ∷ 10 ∷ 10 ∷ 10 ∷ []) (decimal c.res_non ∷ decimal c.res_vol ∷ decimal c.com_non ∷ decimal c.com_vol ∷ decimal c.footprint ∷ [])
    (short c.res_non h.0, (short c.res_vol h.1, (short c.com_non h.2, (short c.com_vol h.3, (short c.footprint h.4, tt))))) in
    omega (arith, b)
reply_short (Purged o) h = let b = spaced-within (10 ∷ []) (decimal o ∷ []) (short o (omega arith), tt) in omega (arith, b)
reply_short (Moved m page) h =
    let b = spaced-within (10 ∷ 10 ∷ []) (decimal page.obj ∷ decimal page.page ∷ []) (short page.obj (let a = h.0 in omega (arith, a)), (short page.page (let a = h.1 in omega (arith, a)), tt)) in omega (arith, b)
reply_short (Aged tasks) h = let few = h.0 in let b = tasks_short tasks h.1 in omega (arith, b, few)
reply_short (Killed t c) h = let b = spaced-within (2 ∷ 9 ∷ []) (decimal t ∷ cause_word c ∷ []) (two t h, (cause_short c, tt)) in omega (arith, b)
reply_short (Frames f) h =
    let b = spaced-within (10 ∷ 10 ∷ 10 ∷ 10 ∷ 20 ∷ 20 ∷ []) (decimal f.free ∷ decimal f.active ∷ decimal f.inactive ∷ decimal f.stored ∷ decimal f.entered ∷ decimal f.left ∷ [])
    (short f.free h.0, (short f.active h.1, (short f.inactive h.2, (short f.stored h.3, (long f.entered h.4, (long f.left h.5, tt)))))) in
    omega (arith, b)
reply_short (Tokens t) h =
    let o = h.0 in
    let l = h.1 in
    let f = h.2 in
    let b = spaced-within (10 ∷ 10 ∷ 20 ∷ 20 ∷ 10 ∷ 10 ∷ 20 ∷ 20 ∷ 10 ∷ 10 ∷ 20 ∷ 20 ∷ []) (reply_arguments (Tokens t)) (
      short t.obsolete.tokens o.0,
      (
        short t.obsolete.ripe o.1,
        (
          long t.obsolete.next o.2,
          (
            long t.obsolete.last o.3,
            (
              short t.lifo.tokens l.0,
              (
                short t.lifo.ripe l.1,
                (
                  long t.lifo.next l.2,
                  (
                    long t.lifo.last l.3,
                    (short t.fifo.tokens f.0, (short t.fifo.ripe f.1, (long t.fifo.next f.2, (long t.fifo.last f.3, tt)))),
                  ),
                ),
              ),
            ),
          ),
        ),
      ),
    ) in
    omega (arith, b)
reply_short (Refused r) h = refusal_short r h
reply_short Mapped h = omega arith
reply_short Unmapped h = omega arith
reply_short Wrote h = omega arith
reply_short Exited h = omega arith
reply_short Nothing h = omega arith
reply_short Enough h = omega arith
reply_short Idle h = omega arith
reply_short Quiet h = omega arith
reply_short NoVictim h = omega arith
reply_short Banded h = omega arith
reply_short Limited h = omega arith
reply_short Attached h = omega arith

-- ---- an entry

line_short : (e : Entry) → HasText e → length (line_of (entry_words e)) ≤ 1100
line_short e h =
    let who = h.who in
    let a = two e.who (omega (arith, who)) in
    let v = verb_short (verb_of_call e.call) in
    let c = call_short e.call h.call in
    let w = reply_word_short e.reply in
    let r = reply_short e.reply h.reply in
    let behind = call_words e.call ++ (codes "=" ∷ reply_words e.reply) in
    let whole : length (line_of (entry_words e)) ≡ length (decimal e.who) + length (spaced behind) = ap length (line_of-cons (decimal e.who) behind) ∙ length-append (decimal e.who) (spaced behind) in
    let parts : length (spaced behind) ≡ length (spaced (call_words e.call)) + length (spaced (codes "=" ∷ reply_words e.reply)) = spaced-append (call_words e.call) (codes "=" ∷ reply_words e.reply) in
    let front : length (spaced (call_words e.call)) ≡ length (verb_text (verb_of_call e.call)) + 1 + length (spaced (call_arguments e.call)) = spaced-more (verb_text (verb_of_call e.call)) (call_arguments e.call) in
    let sign : length (spaced (codes "=" ∷ reply_words e.reply)) ≡ 1 + 1 + length (spaced (reply_words e.reply)) = spaced-more (codes "=") (reply_words e.reply) in
    let back : length (spaced (reply_words e.reply)) ≡ length (reply_word e.reply) + 1 + length (spaced (reply_arguments e.reply)) = spaced-more (reply_word e.reply) (reply_arguments e.reply) in
    omega (arith, whole, parts, front, sign, back, a, v, c, w, r)

-- what is read as an entry
pub entry-short : (line : List ℕ) (e : Entry) → entry_of line ≡ Ok e → length line ≤ 1100
entry-short line e h = let t = entry_takes line e h in let b = line_short e t.1 in omega (arith, ap length t.0, b)
