-- Calls and replies are equal where the tests say so.
use Rattle.std.proofs.Common.{◌≡◌, ℕ, ◌-◌, List, Bool, true, false, ◌&&◌, nat_eq, length, take, refl, sym, ap, ap₂, ◌∙◌}
use Rattle.std.specs.Prelude.{replicate}
use Rattle.std.specs.Cmp.Lexicographic.{pointwise}
use Rattle.std.proofs.Math.Seq.{take-append_seam}
use Rattle.std.proofs.lemmas.Bool.{eqb-true, and_parts}
use lib.Pointwise.{bytes_decides}
use Rattle.kern_ids.specs.Padded.{padded}
use Rattle.kern_ids.specs.declared.calls.Call.{Call}
use Rattle.kern_ids.specs.declared.calls.Call.TheVariants.{Map, Unmap, Write, Read, SetState, GetState, Active, Ledger, Exit, PurgeOne, Forced, Scan, Tick, Jetsam, SetBand, SetLimits, Info, Purgeables, Attach}
use Rattle.kern_ids.specs.declared.calls.Limit.{Limit}
use Rattle.kern_ids.specs.declared.calls.State.{State}
use Rattle.kern_ids.specs.declared.calls.State.TheVariants.{Nonvolatile, Volatile, Empty}
use Rattle.kern_ids.specs.declared.ids.PageId.{PageId}
use Rattle.kern_ids.specs.declared.replies.Reply.{Reply}
use Rattle.kern_ids.specs.declared.replies.Reply.TheVariants.{Mapped, Unmapped, Wrote, Bytes, Old, Is, Was, Pages, Exited, Purged, Nothing, Enough, Moved, Idle, Aged, Quiet, Killed, NoVictim, Banded, Limited, Frames, Tokens, Refused, Attached}
use Rattle.kern_ids.specs.declared.replies.Move.{Move}
use Rattle.kern_ids.specs.declared.replies.Move.TheVariants.{Deactivated, Reactivated, Freed, Compressed, Requeued}
use Rattle.kern_ids.specs.declared.replies.Cause.{Cause}
use Rattle.kern_ids.specs.declared.replies.Cause.TheVariants.{Limit as limit_cause, HighWater, Pressure}
use Rattle.kern_ids.specs.declared.replies.Counts.{Counts}
use Rattle.kern_ids.specs.declared.replies.FrameCounts.{FrameCounts}
use Rattle.kern_ids.specs.declared.replies.QueueCounts.{QueueCounts}
use Rattle.kern_ids.specs.declared.replies.TokenCounts.{TokenCounts}
use Rattle.kern_ids.specs.declared.replies.Refusal.{Refusal}
use Rattle.kern_ids.specs.declared.replies.Refusal.TheVariants.{Dead, NotMine, NoObject, Already, Invalid, Range, Emptied, Shortage}
use Rattle.kern_ids.specs.contracts.calls.LimitPartialEq.TheImpl as limit_eq
use Rattle.kern_ids.specs.contracts.calls.StatePartialEq.TheImpl as state_eq
use Rattle.kern_ids.specs.contracts.calls.CallEq.TheImpl.Laws as call_laws
use Rattle.kern_ids.specs.contracts.ids.PageIdPartialEq.TheImpl as page_eq
use Rattle.kern_ids.specs.contracts.replies.MovePartialEq.TheImpl as move_eq
use Rattle.kern_ids.specs.contracts.replies.CausePartialEq.TheImpl as cause_eq
use Rattle.kern_ids.specs.contracts.replies.CountsPartialEq.TheImpl as counts_eq
use Rattle.kern_ids.specs.contracts.replies.FrameCountsPartialEq.TheImpl as frames_eq
use Rattle.kern_ids.specs.contracts.replies.QueueCountsPartialEq.TheImpl as queue_eq
use Rattle.kern_ids.specs.contracts.replies.TokenCountsPartialEq.TheImpl as tokens_eq
use Rattle.kern_ids.specs.contracts.replies.RefusalPartialEq.TheImpl as refusal_eq
use Rattle.kern_ids.specs.contracts.replies.ReplyEq.TheImpl.Laws as reply_laws
use Rattle.replay_check.specs.Same.{same_call, same_reply}

differs : {A : Type 0} → false ≡ true → A
differs h = cc

-- three tests, and four, that hold together
three : (a b c : Bool) → (a && (b && c)) ≡ true → (a ≡ true) × (b ≡ true) × (c ≡ true)
three a b c h =
    let p = and_parts a (b && c) h in
    let q = and_parts b c p.1 in
    (p.0, q.0, q.1)

four : (a b c d : Bool) → (a && (b && (c && d))) ≡ true → (a ≡ true) × (b ≡ true) × (c ≡ true) × (d ≡ true)
four a b c d h =
    let p = and_parts a (b && (c && d)) h in
    let q = three b c d p.1 in
    (p.0, q.0, q.1, q.2)

-- lists that are kept in an array of so many places
filled_same : (size : ℕ) (xs ys : List ℕ) → (pointwise nat_eq (padded 0 size xs) (padded 0 size ys) && nat_eq (length xs) (length ys)) ≡ true → xs ≡ ys
filled_same size xs ys h =
    let p = and_parts (pointwise nat_eq (padded 0 size xs) (padded 0 size ys)) (nat_eq (length xs) (length ys)) h in
    let same : padded 0 size xs ≡ padded 0 size ys = (bytes_decides (padded 0 size xs) (padded 0 size ys)).0 p.0 in
    let long : length xs ≡ length ys = eqb-true (length xs) (length ys) p.1 in
    sym (take-append_seam xs (replicate (size - length xs) 0)) ∙ ap₂ (λ (n : ℕ) (zs : List ℕ). take n zs) long same ∙ take-append_seam ys (replicate (size - length ys) 0)

flag_same : (x y : Bool) → same_reply (Was x) (Was y) ≡ true → x ≡ y
unfolding same_reply
flag_same true true h = refl
flag_same false false h = refl
flag_same true false h = differs h
flag_same false true h = differs h

limit_same : (x y : Limit) → (limit_eq.ghosts).eq x y ≡ true → x ≡ y
unfolding same_reply
limit_same x y h =
    let p = and_parts (nat_eq x.pages y.pages) (same_reply (Was x.fatal) (Was y.fatal)) h in
    let pages : x.pages ≡ y.pages = eqb-true x.pages y.pages p.0 in
    let fatal : x.fatal ≡ y.fatal = flag_same x.fatal y.fatal p.1 in
    λ i. record { pages = pages i; fatal = fatal i }

pub same_call-true : (a b : Call) → same_call a b ≡ true → a ≡ b
unfolding same_call same_reply
same_call-true (Map x) (Map y) h = ap Map (eqb-true x y h)
same_call-true (Unmap x) (Unmap y) h = ap Unmap (eqb-true x y h)
same_call-true (Write x o xs) (Write y p ys) h =
    let q = three (nat_eq x y) (nat_eq o p) (pointwise nat_eq (padded 0 256 xs) (padded 0 256 ys) && nat_eq (length xs) (length ys)) h in
    let objects : x ≡ y = eqb-true x y q.0 in
    let offsets : o ≡ p = eqb-true o p q.1 in
    let bytes : xs ≡ ys = filled_same 256 xs ys q.2 in
    λ i. Write (objects i) (offsets i) (bytes i)
same_call-true (Read x o n) (Read y p m) h =
    let q = three (nat_eq x y) (nat_eq o p) (nat_eq n m) h in
    let objects : x ≡ y = eqb-true x y q.0 in
    let offsets : o ≡ p = eqb-true o p q.1 in
    let lengths : n ≡ m = eqb-true n m q.2 in
    λ i. Read (objects i) (offsets i) (lengths i)
same_call-true (SetState x v) (SetState y w) h =
    let q = and_parts (nat_eq x y) (nat_eq v w) h in
    let objects : x ≡ y = eqb-true x y q.0 in
    let words : v ≡ w = eqb-true v w q.1 in
    λ i. SetState (objects i) (words i)
same_call-true (GetState x) (GetState y) h = ap GetState (eqb-true x y h)
same_call-true (Active x) (Active y) h = ap Active (flag_same x y h)
same_call-true Ledger Ledger h = refl
same_call-true Exit Exit h = refl
same_call-true PurgeOne PurgeOne h = refl
same_call-true Forced Forced h = refl
same_call-true Scan Scan h = refl
same_call-true Tick Tick h = refl
same_call-true Jetsam Jetsam h = refl
same_call-true (SetBand x b) (SetBand y d) h =
    let q = and_parts (nat_eq x y) (nat_eq b d) h in
    let tasks : x ≡ y = eqb-true x y q.0 in
    let bands : b ≡ d = eqb-true b d q.1 in
    λ i. SetBand (tasks i) (bands i)
same_call-true (SetLimits x a b) (SetLimits y c d) h =
    let q = three (nat_eq x y) ((limit_eq.ghosts).eq a c) ((limit_eq.ghosts).eq b d) h in
    let tasks : x ≡ y = eqb-true x y q.0 in
    let actives : a ≡ c = limit_same a c q.1 in
    let inactives : b ≡ d = limit_same b d q.2 in
    λ i. SetLimits (tasks i) (actives i) (inactives i)
same_call-true Info Info h = refl
same_call-true Purgeables Purgeables h = refl
same_call-true (Attach x) (Attach y) h = ap Attach (eqb-true x y h)
same_call-true _ _ h = differs h

state_same : (x y : State) → (state_eq.ghosts).eq x y ≡ true → x ≡ y
state_same Nonvolatile Nonvolatile h = refl
state_same Volatile Volatile h = refl
state_same Empty Empty h = refl
state_same _ _ h = differs h

move_same : (x y : Move) → (move_eq.ghosts).eq x y ≡ true → x ≡ y
move_same Deactivated Deactivated h = refl
move_same Reactivated Reactivated h = refl
move_same Freed Freed h = refl
move_same Compressed Compressed h = refl
move_same Requeued Requeued h = refl
move_same _ _ h = differs h

cause_same : (x y : Cause) → (cause_eq.ghosts).eq x y ≡ true → x ≡ y
cause_same limit_cause limit_cause h = refl
cause_same HighWater HighWater h = refl
cause_same Pressure Pressure h = refl
cause_same _ _ h = differs h

page_same : (x y : PageId) → (page_eq.ghosts).eq x y ≡ true → x ≡ y
page_same x y h =
    let q = and_parts (nat_eq x.obj y.obj) (nat_eq x.page y.page) h in
    let objects : x.obj ≡ y.obj = eqb-true x.obj y.obj q.0 in
    let pages : x.page ≡ y.page = eqb-true x.page y.page q.1 in
    λ i. record { obj = objects i; page = pages i }

counts_same : (x y : Counts) → (counts_eq.ghosts).eq x y ≡ true → x ≡ y
counts_same x y h =
    let p = and_parts (nat_eq x.res_non y.res_non) (nat_eq x.res_vol y.res_vol && (nat_eq x.com_non y.com_non && (nat_eq x.com_vol y.com_vol && nat_eq x.footprint y.footprint))) h in
    let q = four (nat_eq x.res_vol y.res_vol) (nat_eq x.com_non y.com_non) (nat_eq x.com_vol y.com_vol) (nat_eq x.footprint y.footprint) p.1 in
    let res_non : x.res_non ≡ y.res_non = eqb-true x.res_non y.res_non p.0 in
    let res_vol : x.res_vol ≡ y.res_vol = eqb-true x.res_vol y.res_vol q.0 in
    let com_non : x.com_non ≡ y.com_non = eqb-true x.com_non y.com_non q.1 in
    let com_vol : x.com_vol ≡ y.com_vol = eqb-true x.com_vol y.com_vol q.2 in
    let footprint : x.footprint ≡ y.footprint = eqb-true x.footprint y.footprint q.3 in
    λ i. record { res_non = res_non i; res_vol = res_vol i; com_non = com_non i; com_vol = com_vol i; footprint = footprint i }

frames_same : (x y : FrameCounts) → (frames_eq.ghosts).eq x y ≡ true → x ≡ y
frames_same x y h =
    let p = three (nat_eq x.free y.free) (nat_eq x.active y.active) (nat_eq x.inactive y.inactive && (nat_eq x.stored y.stored && (nat_eq x.entered y.entered && nat_eq x.left y.left))) h in
    let q = four (nat_eq x.inactive y.inactive) (nat_eq x.stored y.stored) (nat_eq x.entered y.entered) (nat_eq x.left y.left) p.2 in
    let free : x.free ≡ y.free = eqb-true x.free y.free p.0 in
    let active : x.active ≡ y.active = eqb-true x.active y.active p.1 in
    let inactive : x.inactive ≡ y.inactive = eqb-true x.inactive y.inactive q.0 in
    let stored : x.stored ≡ y.stored = eqb-true x.stored y.stored q.1 in
    let entered : x.entered ≡ y.entered = eqb-true x.entered y.entered q.2 in
    let left : x.left ≡ y.left = eqb-true x.left y.left q.3 in
    λ i. record { free = free i; active = active i; inactive = inactive i; stored = stored i; entered = entered i; left = left i }

queue_same : (x y : QueueCounts) → (queue_eq.ghosts).eq x y ≡ true → x ≡ y
queue_same x y h =
    let q = four (nat_eq x.tokens y.tokens) (nat_eq x.ripe y.ripe) (nat_eq x.next y.next) (nat_eq x.last y.last) h in
    let tokens : x.tokens ≡ y.tokens = eqb-true x.tokens y.tokens q.0 in
    let ripe : x.ripe ≡ y.ripe = eqb-true x.ripe y.ripe q.1 in
    let next : x.next ≡ y.next = eqb-true x.next y.next q.2 in
    let last : x.last ≡ y.last = eqb-true x.last y.last q.3 in
    λ i. record { tokens = tokens i; ripe = ripe i; next = next i; last = last i }

tokens_same : (x y : TokenCounts) → (tokens_eq.ghosts).eq x y ≡ true → x ≡ y
tokens_same x y h =
    let r = three ((queue_eq.ghosts).eq x.obsolete y.obsolete) ((queue_eq.ghosts).eq x.lifo y.lifo) ((queue_eq.ghosts).eq x.fifo y.fifo) h in
    let obsolete : x.obsolete ≡ y.obsolete = queue_same x.obsolete y.obsolete r.0 in
    let lifo : x.lifo ≡ y.lifo = queue_same x.lifo y.lifo r.1 in
    let fifo : x.fifo ≡ y.fifo = queue_same x.fifo y.fifo r.2 in
    λ i. record { obsolete = obsolete i; lifo = lifo i; fifo = fifo i }

refusal_same : (x y : Refusal) → (refusal_eq.ghosts).eq x y ≡ true → x ≡ y
refusal_same Dead Dead h = refl
refusal_same NotMine NotMine h = refl
refusal_same NoObject NoObject h = refl
refusal_same Already Already h = refl
refusal_same Invalid Invalid h = refl
refusal_same Range Range h = refl
refusal_same Emptied Emptied h = refl
refusal_same (Shortage n f) (Shortage m g) h =
    let q = and_parts (nat_eq n m) (nat_eq f g) h in
    let needs : n ≡ m = eqb-true n m q.0 in
    let frees : f ≡ g = eqb-true f g q.1 in
    λ i. Shortage (needs i) (frees i)
refusal_same _ _ h = differs h

pub same_reply-true : (a b : Reply) → same_reply a b ≡ true → a ≡ b
unfolding same_reply
same_reply-true Mapped Mapped h = refl
same_reply-true Unmapped Unmapped h = refl
same_reply-true Wrote Wrote h = refl
same_reply-true (Bytes xs) (Bytes ys) h = ap Bytes (filled_same 256 xs ys h)
same_reply-true (Old x) (Old y) h = ap Old (state_same x y h)
same_reply-true (Is x) (Is y) h = ap Is (state_same x y h)
same_reply-true (Was x) (Was y) h = ap Was (flag_same x y h)
same_reply-true (Pages x) (Pages y) h = ap Pages (counts_same x y h)
same_reply-true Exited Exited h = refl
same_reply-true (Purged x) (Purged y) h = ap Purged (eqb-true x y h)
same_reply-true Nothing Nothing h = refl
same_reply-true Enough Enough h = refl
same_reply-true (Moved m p) (Moved n r) h =
    let q = and_parts ((move_eq.ghosts).eq m n) ((page_eq.ghosts).eq p r) h in
    let moves : m ≡ n = move_same m n q.0 in
    let pages : p ≡ r = page_same p r q.1 in
    λ i. Moved (moves i) (pages i)
same_reply-true Idle Idle h = refl
same_reply-true (Aged xs) (Aged ys) h = ap Aged (filled_same 64 xs ys h)
same_reply-true Quiet Quiet h = refl
same_reply-true (Killed t c) (Killed u d) h =
    let q = and_parts (nat_eq t u) ((cause_eq.ghosts).eq c d) h in
    let tasks : t ≡ u = eqb-true t u q.0 in
    let causes : c ≡ d = cause_same c d q.1 in
    λ i. Killed (tasks i) (causes i)
same_reply-true NoVictim NoVictim h = refl
same_reply-true Banded Banded h = refl
same_reply-true Limited Limited h = refl
same_reply-true (Frames x) (Frames y) h = ap Frames (frames_same x y h)
same_reply-true (Tokens x) (Tokens y) h = ap Tokens (tokens_same x y h)
same_reply-true (Refused x) (Refused y) h = ap Refused (refusal_same x y h)
same_reply-true Attached Attached h = refl
same_reply-true _ _ h = differs h

pub same_call-refl : (a : Call) → same_call a a ≡ true
unfolding same_call
same_call-refl a = (call_laws.laws-law).refl a

pub same_reply-refl : (a : Reply) → same_reply a a ≡ true
unfolding same_reply
same_reply-refl a = (reply_laws.laws-law).refl a
