-- The bytes and the touched pages once more, by numbers of entries.
-- The bytes by two numbers of entries: the newest Write that covers the byte, and the newest emptying.
use Rattle.std.proofs.Common.{◌≡◌, ℕ, suc, ◌<◌, List, [], ◌∷◌, length, Bool, true, false, nat_lt, Option, Some, None, option_map, if◌then◌else◌, refl, sym, ◌∙◌, not, ◌&&◌, ◌||◌, arith}
use Rattle.std.specs.Option.{unwrap_or}
use Rattle.std.proofs.lemmas.Bool.Decides.{nat_tests}
use Rattle.kernel_model.specs.Newest.{newest}
use Rattle.kernel_model.specs.Lists.{some_if}
use Rattle.kernel_model.specs.Laws.Literal.{newest_number, newest_gift, gift_after, is_after}
use Rattle.kern_ids.specs.declared.entries.Entry.{Entry}
use Rattle.kern_ids.specs.declared.ids.PageId.{PageId}
use Rattle.kern_ids.specs.declared.calls.Call.{Call}
use Rattle.kern_ids.specs.declared.calls.Call.TheVariants.{Scan}
use Rattle.kern_ids.specs.declared.calls.State.{State}
use Rattle.kern_ids.specs.declared.replies.Reply.{Reply}
use Rattle.kern_ids.specs.declared.replies.Reply.TheVariants.{Moved}
use Rattle.std.specs.Prelude.{is_some}
use Rattle.std.proofs.lemmas.Bool.{true≢false}
use Rattle.kernel_model.specs.System.{System}
use Rattle.kernel_model.specs.Histories.{IsLegal}
use Rattle.kernel_model.specs.Mapping.{unmaps}
use Rattle.kernel_model.specs.State.{state}
use Rattle.kernel_model.specs.declared.place.Place.{Place}
use Rattle.kernel_model.specs.declared.place.Place.TheVariants.{Absent, Active}
use Rattle.kernel_model.specs.declared.place.Placed.{Placed}
use Rattle.kernel_model.specs.Pages.{placed, place, place_given, touched_since, touches, touches_from, move_of, is_out}
use Rattle.kernel_model.specs.Laws.Kinds.{tells, is_scan_call}
use Rattle.kernel_model.proofs.Laws.Answers.{legal-tells}
use Rattle.kernel_model.specs.Contents.{byte, empties}
use Rattle.kernel_model.specs.Events.{written_byte, is_reply}

abbrev pub by_newest : {E : Type 0} → (List E → E → Bool) → (E → Option ℕ) → List E → ℕ
by_newest p f past = newest (λ before was e. if p before e then Some 0 else f e) 0 past

abbrev pub Below : ℕ → Option ℕ → Type 0
Below n None = Unit {0}
Below n (Some k) = k < n

abbrev Below0 : ℕ → Option (ℕ × ℕ) → Type 0
Below0 n None = Unit {0}
Below0 n (Some g) = g.0 < n

below-suc : (n : ℕ) (m : Option ℕ) → Below n m → Below (suc n) m
below-suc n None h = tt
below-suc n (Some k) h = omega arith

below0-suc : (n : ℕ) (m : Option (ℕ × ℕ)) → Below0 n m → Below0 (suc n) m
below0-suc n None h = tt
below0-suc n (Some k) h = omega arith

pub number-below : {E : Type 0} (p : List E → E → Bool) (past : List E) → Below (length past) (newest_number p past)
unfolding newest
number-below p [] = tt
number-below p (e ∷ before) =
    elim (p before e) as (λ b. Below (suc (length before)) (unwrap_or (some_if b (Some (length before))) (newest_number p before)))
    [ true ↦ omega arith | false ↦ below-suc (length before) (newest_number p before) (number-below p before) ]

gift-below : {E : Type 0} (f : E → Option ℕ) (past : List E) → Below0 (length past) (newest_gift f past)
unfolding newest
gift-below f [] = tt
gift-below f (e ∷ before) =
    elim (f e) as (λ o. Below0 (suc (length before)) (unwrap_or (option_map (λ x. Some (length before, x)) o) (newest_gift f before)))
    [ Some x ↦ omega arith | None ↦ below0-suc (length before) (newest_gift f before) (gift-below f before) ]

old-gift : (n : ℕ) (w : Option (ℕ × ℕ)) → Below0 n w → 0 ≡ gift_after (Some n) w
old-gift n None h = refl
old-gift n (Some g) h = let t : nat_lt n g.0 ≡ false = grind (arith, nat_tests) in rw t refl

new-gift : (n x : ℕ) (m : Option ℕ) → Below n m → x ≡ gift_after m (Some (n, x))
new-gift n x None h = refl
new-gift n x (Some k) h = let t : nat_lt k n ≡ true = grind (arith, nat_tests) in rw t refl

-- one look back is the comparison of the two numbers
pub by_newest-is : {E : Type 0} (p : List E → E → Bool) (f : E → Option ℕ) (past : List E) → by_newest p f past ≡ gift_after (newest_number p past) (newest_gift f past)
unfolding newest
by_newest-is p f [] = refl
by_newest-is p f (e ∷ before) =
    let n = length before in
    let m = newest_number p before in
    let w = newest_gift f before in
    elim (p before e) as (λ b. unwrap_or (if b then Some 0 else f e) (by_newest p f before) ≡ gift_after (unwrap_or (some_if b (Some n)) m) (unwrap_or (option_map (λ x. Some (n, x)) (f e)) w)) [
      | true ↦ elim (f e) as (λ o. 0 ≡ gift_after (Some n) (unwrap_or (option_map (λ x. Some (n, x)) o) w)) [
        | Some x ↦ (let t : nat_lt n n ≡ false = grind (arith, nat_tests) in rw t refl)
        | None ↦ old-gift n w (gift-below f before)
      ]
      | false ↦ elim (f e) as (λ o. unwrap_or o (by_newest p f before) ≡ gift_after m (unwrap_or (option_map (λ x. Some (n, x)) o) w)) [
        | Some x ↦ new-gift n x m (number-below p before)
        | None ↦ by_newest-is p f before
      ]
    ]

-- the byte is that of the newest accepted Write covering it, if it is newer than the newest emptying, else 0
pub byte-is : (past : List Entry) (o b : ℕ) → byte past o b ≡ gift_after (newest_number (empties o) past) (newest_gift (written_byte o b) past)
unfolding byte
byte-is past o b = by_newest-is (empties o) (written_byte o b) past

abbrev mark_at : ℕ → Place → Placed
mark_at n place = record { place = place; number = n }

number_kept : (given : Option Place) (n : ℕ) (was : Placed) → is_out (unwrap_or (option_map (mark_at n) given) was).place ≡ false → (is_out was.place ≡ false → was.number < n) → (unwrap_or (option_map (mark_at n) given) was).number < suc n
number_kept (Some x) n was h k = omega arith
number_kept None n was h k = let l = k h in omega arith

not_after : (n : ℕ) (m : Option ℕ) → Below n m → false ≡ is_after n m
not_after n None h = refl
not_after n (Some k) h = let t : nat_lt n k ≡ false = grind (arith, nat_tests) in sym t

not_itself : (n : ℕ) → false ≡ is_after n (Some n)
not_itself n = let t : nat_lt n n ≡ false = grind (arith, nat_tests) in sym t

-- emptied or unmapped; touched; out before; moved by the scan
touched_core : (gone t out : Bool) (moved : Option Place) (n : ℕ) (s : Placed) (m : Option ℕ) (was : Bool) → Below n m → (t ≡ true → moved ≡ None) → (out ≡ false → s.number < n) → was ≡ is_after s.number m
    → unwrap_or (if gone then Some false else if t then Some (not out) else some_if (is_some moved) false) was ≡ is_after (unwrap_or (option_map (mark_at n) (if gone then Some Absent else if t && out then Some Active else moved)) s).number (unwrap_or (some_if t (Some n)) m)
touched_core true true out moved n s m was b v i h = not_itself n
touched_core true false out moved n s m was b v i h = not_after n m b
touched_core false true true moved n s m was b v i h = not_itself n
touched_core false true false moved n s m was b v i h =
    let l = i refl in
    let t : nat_lt s.number n ≡ true = grind (arith, nat_tests) in
    rw (v refl) (sym t)
touched_core false false out (Some x) n s m was b v i h = not_after n m b
touched_core false false out None n s m was b v i h = h

-- a page that is in was placed by an entry
pub placed-number : (boot : System) (past : List Entry) (p : PageId) → is_out (place boot past p) ≡ false → (placed boot past p).number < length past
unfolding placed newest
placed-number boot [] p h = absurd (true≢false h)
placed-number boot (e ∷ before) p h = number_kept (place_given (state before p.obj) (unmaps boot before e p.obj) p (place boot before p) e) (length before) (placed boot before p) h (λ i. placed-number boot before p i)

pub move-none : (p : PageId) (r : Reply) (c : Call) → tells r c ≡ true → is_scan_call c ≡ false → move_of p r ≡ None
move-none p (Moved move q) c t s = absurd (true≢false (sym t ∙ s))
move-none p _ c t s = refl

and-false : (b : Bool) → (b && false) ≡ false
and-false true = refl
and-false false = refl

touch-call : (s : State) (p : PageId) (who : ℕ) (c : Call) (r : Reply) → touches_from s p (record { who = who; call = c; reply = r }) ≡ true → is_scan_call c ≡ false
touch-call s p who Scan r h = absurd (true≢false (sym h ∙ and-false (is_reply r)))
touch-call s p who _ r h = refl

-- a page is touched since its stamp exactly where the newest entry that touches it is newer than the one in its stamp
pub touched_since-is : (boot : System) (past : List Entry) (p : PageId) → IsLegal boot past → touched_since boot past p ≡ is_after (placed boot past p).number (newest_number (λ before e. touches before e p) past)
unfolding touched_since newest placed
touched_since-is boot [] p l = refl
touched_since-is boot (e ∷ before) p l =
    touched_core (empties p.obj before e || unmaps boot before e p.obj) (touches before e p) (is_out (place boot before p)) (move_of p e.reply) (length before) (placed boot before p)
    (newest_number (λ before e. touches before e p) before) (touched_since boot before p) (number-below (λ before e. touches before e p) before)
    (λ t. move-none p e.reply e.call (legal-tells boot e before l) (touch-call (state before p.obj) p e.who e.call e.reply t))
    (λ o. placed-number boot before p o) (touched_since-is boot before p l.2)
