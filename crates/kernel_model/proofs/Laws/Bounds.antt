-- The frames and the store of every legal history hold their pages, and what left never falls.
use Rattle.std.proofs.Common.{◌≡◌, ℕ, ◌+◌, ◌-◌, ◌<◌, ◌≤◌, List, [], ◌∷◌, length, Option, Some, None, refl, sym, ap, ap₂, ◌∙◌, Bool, true, false, not, ◌&&◌, ◌||◌, count_by, nat_eq, nat_lt, if◌then◌else◌, inl, inr, ◌⊎◌, arith, zero-le}
use Rattle.std.specs.Option.{option_map_or, unwrap_or}
use Rattle.std.specs.Prelude.{option_map, sum_by}
use Rattle.std.specs.List.{range_with_len}
use Rattle.std.proofs.lemmas.Bool.{false≢true}
use Rattle.std.proofs.lemmas.Bool.Decides.{eqb_tells, nat_tests}
use Rattle.kern_ids.specs.declared.entries.Entry.{Entry}
use Rattle.kern_ids.specs.declared.ids.PageId.{PageId}
use Rattle.kern_ids.specs.declared.calls.Call.{Call}
use Rattle.kern_ids.specs.declared.calls.Call.TheVariants.{Write, Read, Scan}
use Rattle.kern_ids.specs.declared.replies.Move.{Move}
use Rattle.kern_ids.specs.declared.replies.Move.TheVariants.{Deactivated, Reactivated, Freed, Compressed, Requeued}
use Rattle.kern_ids.specs.declared.replies.Refusal.{Refusal}
use Rattle.kern_ids.specs.declared.replies.Refusal.TheVariants.{Shortage}
use Rattle.std.proofs.lemmas.Bool.{cases_lt}
use Rattle.kern_ids.specs.declared.replies.Reply.{Reply}
use Rattle.kern_ids.specs.declared.replies.Reply.TheVariants.{Moved, Refused}
use Rattle.kernel_model.specs.declared.place.Place.{Place}
use Rattle.kernel_model.specs.declared.place.Place.TheVariants.{Absent, Active, Inactive, Stored}
use Rattle.kernel_model.specs.declared.place.Placed.{Placed}
use Rattle.kernel_model.specs.System.{System}
use Rattle.kernel_model.specs.Newest.{newest}
use Rattle.kernel_model.specs.Mapping.{unmaps}
use Rattle.kernel_model.specs.State.{state, is_empty}
use Rattle.kernel_model.specs.Contents.{empties}
use Rattle.kernel_model.specs.Events.{is_reply, reaches_page}
use Rattle.kernel_model.specs.Lists.{some_if}
use Rattle.kernel_model.specs.Pages.{place, placed, move_of, moved_to, same_page, touches, is_out, is_active, is_inactive, is_stored, pages_of, pages_in, active_pages, inactive_pages, stored_pages, free, left, entered, next_entered, is_deactivation}
use Rattle.kernel_model.specs.Answers.{answer, needed}
use Rattle.kernel_model.specs.Histories.{IsLegal}
use Rattle.kernel_model.specs.Laws.Frames.{bit, is_in, resident_pages, is_compressing}
use Rattle.kernel_model.specs.Answers.{short_of}
use Rattle.kernel_model.specs.Scan.{scan}
use Rattle.kernel_model.proofs.Literal.{move-none}
use Rattle.kernel_model.proofs.Laws.Answers.{answer-cases, answer-tells, accepted-shortage, IsAnswered, refused, gets}
use Rattle.kernel_model.proofs.Laws.Scans.{scan-moved, scan_move-in}
use Rattle.kernel_model.proofs.Laws.Frames.{same_page-is}
use Rattle.kernel_model.proofs.Laws.Kinds.{placed-moved}
use Rattle.kernel_model.specs.Laws.Kinds.{tells}
use Rattle.kernel_model.proofs.Laws.Agree.{count_by-agree}
use Rattle.kernel_model.proofs.Laws.Counting.{count_by-and, count_by-range_le, count_by-weaker, count_by-either, count_by-both, count_by-none, sum_by-one}
use Rattle.kernel_model.proofs.Laws.Frames.{pages-by_objects}
use Rattle.kernel_model.proofs.Laws.Pages.{entered-more, left-is, free-is}

or_true : (b : Bool) → (b || true) ≡ true
or_true true = refl
or_true false = refl

and_true : (b : Bool) → (b && true) ≡ b
and_true true = refl
and_true false = refl

and_false : (b : Bool) → (b && false) ≡ false
and_false true = refl
and_false false = refl

and_second : (a b : Bool) → (a && b) ≡ true → b ≡ true
and_second true b h = h
and_second false b h = absurd (false≢true h)

none_of_some : {A : Type 0} {x : A} → Some x ≡ None → ⊥
none_of_some h = cc

write_touch : (a w : Bool) → (a && (w || false)) ≡ true → w ≡ true
write_touch true true h = refl
write_touch true false h = h
write_touch false w h = absurd (false≢true h)

read_touch : (a w n : Bool) → (a && (w && n)) ≡ true → w ≡ true
read_touch true true n h = refl
read_touch true false n h = h
read_touch false w n h = absurd (false≢true h)

read_none : (a w : Bool) → (a && (w && false)) ≡ false
read_none true true = refl
read_none true false = refl
read_none false w = refl

moved_refused : {m : Move} {q : PageId} {why : Refusal} → Moved m q ≡ Refused why → ⊥
moved_refused h = cc

if_bit : (b : Bool) (n : ℕ) → n ≤ 1 → (if b then n else 0) ≤ bit b
if_bit true n h = h
if_bit false n h = zero-le

le_same : {n : ℕ} → n ≡ 0 → n ≤ 0
le_same h = omega arith

-- a page stands at most once among all pages
pub nat_eq-swap : (a b : ℕ) → nat_eq a b ≡ nat_eq b a
nat_eq-swap a b = elim (eqb_tells a b) [
  | inl same ↦ rw (same.1) refl
  | inr other ↦ elim (eqb_tells b a) [ inl same ↦ absurd (other.1 (sym same.1)) | inr back ↦ other.0 ∙ sym back.0 ]
]

if_le : (b : Bool) (n : ℕ) → n ≤ 1 → (if b then n else 0) ≤ 1
if_le true n h = h
if_le false n h = zero-le

pub pages-at_most_once : (boot : System) (q : PageId) → count_by (λ p. same_page p q) (pages_of boot) ≤ 1
pages-at_most_once boot q =
    let f = λ (o : ℕ). count_by (λ k. nat_eq q.obj o && nat_eq q.page k) (range_with_len 0 (pages_in boot o)) in
    let same : count_by (λ p. same_page p q) (pages_of boot) ≡ count_by (same_page q) (pages_of boot) = count_by-agree (λ p. same_page p q) (same_page q) (λ p. ap₂ (λ a b. a && b) (nat_eq-swap p.obj q.obj) (nat_eq-swap p.page q.page)) (pages_of boot) in
    let parts : count_by (same_page q) (pages_of boot) ≡ sum_by f (range_with_len 0 (length boot.objects)) = pages-by_objects boot (same_page q) in
    let one = sum_by-one f q.obj (length boot.objects) (λ x h. count_by-and (nat_eq q.obj x) (nat_eq q.page) (range_with_len 0 (pages_in boot x)) ∙ ap (λ b. if b then count_by (nat_eq q.page) (range_with_len 0 (pages_in boot x)) else 0) h) in
    let at : f q.obj ≡ (if nat_eq q.obj q.obj then count_by (nat_eq q.page) (range_with_len 0 (pages_in boot q.obj)) else 0) = count_by-and (nat_eq q.obj q.obj) (nat_eq q.page) (range_with_len 0 (pages_in boot q.obj)) in
    let few = if_le (nat_eq q.obj q.obj) (count_by (nat_eq q.page) (range_with_len 0 (pages_in boot q.obj))) (count_by-range_le q.page (pages_in boot q.obj)) in
    omega arith

-- a page gets to a place other than Absent and Active only by a move there
abbrev mark_at : ℕ → Place → Placed
mark_at n place = record { place = place; number = n }

comes : (k : Place → Bool) (gone faults : Bool) (moved : Option Place) (n : ℕ) (was : Placed) → k Absent ≡ false → k Active ≡ false → k (unwrap_or (option_map (mark_at n) (if gone then Some Absent else if faults then Some Active else moved)) was).place ≡ true → (k was.place || option_map_or k moved false) ≡ true
comes k true faults moved n was a c h = absurd (false≢true (sym a ∙ h))
comes k false true moved n was a c h = absurd (false≢true (sym c ∙ h))
comes k false false (Some x) n was a c h = rw h (or_true (k was.place))
comes k false false None n was a c h = rw h refl

moves_none : (k : Place → Bool) (r : Reply) (ps : List PageId) → ((p : PageId) → option_map_or k (move_of p r) false ≡ false) → count_by (λ p. option_map_or k (move_of p r) false) ps ≡ 0
moves_none k r ps h = count_by-none (λ p. option_map_or k (move_of p r) false) h ps

move_test : (k : Place → Bool) (b : Bool) (x : Place) → option_map_or k (some_if b x) false ≡ (k x && b)
move_test k true x = sym (and_true (k x))
move_test k false x = sym (and_false (k x))

moved_count : (boot : System) (k : Place → Bool) (move : Move) (q : PageId) → count_by (λ p. option_map_or k (move_of p (Moved move q)) false) (pages_of boot) ≤ bit (k (moved_to move))
moved_count boot k move q =
    let t = count_by-agree (λ p. option_map_or k (move_of p (Moved move q)) false) (λ p. k (moved_to move) && same_page p q) (λ p. move_test k (same_page p q) (moved_to move)) (pages_of boot) in
    let c = count_by-and (k (moved_to move)) (λ p. same_page p q) (pages_of boot) in
    let o = pages-at_most_once boot q in
    rw (t, c) (if_bit (k (moved_to move)) (count_by (λ p. same_page p q) (pages_of boot)) o)

-- how many pages an entry can bring to such a place
abbrev pub brings : (Place → Bool) → Reply → Bool
brings k (Moved move q) = k (moved_to move)
brings k _ = false

brought : (boot : System) (k : Place → Bool) (r : Reply) → count_by (λ p. option_map_or k (move_of p r) false) (pages_of boot) ≤ bit (brings k r)
brought boot k (Moved move q) = moved_count boot k move q
brought boot k r = le_same (moves_none k r (pages_of boot) (λ p. refl))

pub counted-le : (boot : System) (e : Entry) (before : List Entry) (k : Place → Bool) → k Absent ≡ false → k Active ≡ false → count_by (λ p. k (place boot (e ∷ before) p)) (pages_of boot) ≤ count_by (λ p. k (place boot before p)) (pages_of boot) + bit (brings k e.reply)
unfolding placed newest
counted-le boot e before k a c =
    let s = count_by-either (λ p. k (place boot (e ∷ before) p)) (λ p. k (place boot before p)) (λ p. option_map_or k (move_of p e.reply) false)
    (λ p h. comes k (empties p.obj before e || unmaps boot before e p.obj) (touches before e p && is_out (place boot before p)) (move_of p e.reply) (length before) (placed boot before p) a c h) (pages_of boot) in
    let b = brought boot k e.reply in
    omega arith

-- what left never falls
pub deactivation-brings : (r : Reply) → bit (brings is_inactive r) ≡ bit (is_deactivation r)
deactivation-brings (Moved Deactivated p) = refl
deactivation-brings (Moved Reactivated p) = refl
deactivation-brings (Moved Freed p) = refl
deactivation-brings (Moved Compressed p) = refl
deactivation-brings (Moved Requeued p) = refl
deactivation-brings _ = refl

pub entered_by : (b : Bool) (n : ℕ) → (if b then n + 1 else n) ≡ n + bit b
entered_by true n = refl
entered_by false n = omega arith

pub left-rises : (boot : System) (e : Entry) (before : List Entry) → left boot before ≤ left boot (e ∷ before)
unfolding next_entered
left-rises boot e before =
    let i = counted-le boot e before is_inactive refl refl in
    let d = deactivation-brings e.reply in
    let n : entered (e ∷ before) ≡ entered before + bit (is_deactivation e.reply) = entered-more e before ∙ entered_by (is_deactivation e.reply) (entered before) in
    let l = left-is boot before in
    let m = left-is boot (e ∷ before) in
    rw (l, m) (omega (arith, i, d, n))

-- the frames: a page comes into one by a fault or a move
comes_in : (gone faults : Bool) (moved : Option Place) (n : ℕ) (was : Placed) → is_in (unwrap_or (option_map (mark_at n) (if gone then Some Absent else if faults then Some Active else moved)) was).place ≡ true → (is_in was.place || (faults || option_map_or is_in moved false)) ≡ true
comes_in true faults moved n was h = absurd (false≢true h)
comes_in false true moved n was h = or_true (is_in was.place)
comes_in false false (Some x) n was h = rw h (or_true (is_in was.place))
comes_in false false None n was h = rw h refl

abbrev faulted : List Entry → Entry → Placed → PageId → Bool
faulted before e was p = touches before e p && is_out was.place

resident-le : (boot : System) (e : Entry) (before : List Entry) → resident_pages boot (e ∷ before) ≤ resident_pages boot before + count_by (λ p. faulted before e (placed boot before p) p || option_map_or is_in (move_of p e.reply) false) (pages_of boot)
unfolding placed newest
resident-le boot e before = count_by-either (λ p. is_in (place boot (e ∷ before) p)) (λ p. is_in (place boot before p)) (λ p. faulted before e (placed boot before p) p || option_map_or is_in (move_of p e.reply) false)
    (λ p h. comes_in (empties p.obj before e || unmaps boot before e p.obj) (touches before e p && is_out (place boot before p)) (move_of p e.reply) (length before) (placed boot before p) h) (pages_of boot)

no_fault : (t o : Bool) (m : Option Place) → t ≡ false → m ≡ None → ((t && o) || option_map_or is_in m false) ≡ false
no_fault t o m h k = rw (h, k) refl

-- where nothing is touched and nothing moved
resident-still : (boot : System) (e : Entry) (before : List Entry) → ((p : PageId) → touches before e p ≡ false) → ((p : PageId) → move_of p e.reply ≡ None) → resident_pages boot (e ∷ before) ≤ resident_pages boot before
resident-still boot e before t m =
    let r = resident-le boot e before in
    let z = count_by-none (λ p. faulted before e (placed boot before p) p || option_map_or is_in (move_of p e.reply) false) (λ p. no_fault (touches before e p) (is_out (place boot before p)) (move_of p e.reply) (t p) (m p)) (pages_of boot) in
    omega arith

-- the pages of a range that are out are those needed
pub covered-needed : (boot : System) (past : List Entry) (x off len : ℕ) → count_by (λ p. nat_eq x p.obj && (reaches_page off len p.page && is_out (place boot past p))) (pages_of boot) ≤ needed boot past x off len
unfolding needed
covered-needed boot past x off len =
    let g = λ (o : ℕ) (k : ℕ). reaches_page off len k && is_out (place boot past (record { obj = o; page = k })) in
    let parts : count_by (λ p. nat_eq x p.obj && (reaches_page off len p.page && is_out (place boot past p))) (pages_of boot) ≡ sum_by (λ o. count_by (λ k. nat_eq x o && g o k) (range_with_len 0 (pages_in boot o))) (range_with_len 0 (length boot.objects)) = pages-by_objects boot (λ p. nat_eq x p.obj && (reaches_page off len p.page && is_out (place boot past p))) in
    let one = sum_by-one (λ o. count_by (λ k. nat_eq x o && g o k) (range_with_len 0 (pages_in boot o))) x (length boot.objects) (λ o h. count_by-and (nat_eq x o) (g o) (range_with_len 0 (pages_in boot o)) ∙ ap (λ b. if b then count_by (g o) (range_with_len 0 (pages_in boot o)) else 0) h) in
    let weak = count_by-weaker (λ k. nat_eq x x && g x k) (g x) (λ k h. and_second (nat_eq x x) (g x k) h) (range_with_len 0 (pages_in boot x)) in
    omega arith

access_page : (t o : Bool) (m : Option Place) (x r : Bool) → m ≡ None → (t ≡ true → (x && r) ≡ true) → ((t && o) || option_map_or is_in m false) ≡ true → (x && (r && o)) ≡ true
access_page true true m x r n k h = rw (and_true r) (k refl)
access_page true false m x r n k h = absurd (false≢true (sym (ap (λ y. option_map_or is_in y false) n) ∙ h))
access_page false o m x r n k h = absurd (false≢true (sym (ap (λ y. option_map_or is_in y false) n) ∙ h))

bit_in : (x : Place) → bit (is_in x) ≡ bit (is_active x) + bit (is_inactive x)
bit_in Absent = omega arith
bit_in Active = omega arith
bit_in Inactive = omega arith
bit_in Stored = omega arith

pub resident-parts : (boot : System) (past : List Entry) → resident_pages boot past ≡ active_pages boot past + inactive_pages boot past
resident-parts boot past = count_by-both (λ p. is_in (place boot past p)) (λ p. is_active (place boot past p)) (λ p. is_inactive (place boot past p)) (λ p. bit_in (place boot past p)) (pages_of boot)

-- an access that was accepted finds room
access_le : (boot : System) (e : Entry) (before : List Entry) (x off len : ℕ) → ((p : PageId) → move_of p e.reply ≡ None) → ((p : PageId) → touches before e p ≡ true → (nat_eq x p.obj && reaches_page off len p.page) ≡ true) → needed boot before x off len ≤ free boot before → resident_pages boot before ≤ boot.params.frames → resident_pages boot (e ∷ before) ≤ boot.params.frames
access_le boot e before x off len m t n l =
    let r = resident-le boot e before in
    let w = count_by-weaker (λ p. faulted before e (placed boot before p) p || option_map_or is_in (move_of p e.reply) false) (λ p. nat_eq x p.obj && (reaches_page off len p.page && is_out (place boot before p)))
    (λ p h. access_page (touches before e p) (is_out (place boot before p)) (move_of p e.reply) (nat_eq x p.obj) (reaches_page off len p.page) (m p) (t p) h) (pages_of boot) in
    let c = covered-needed boot before x off len in
    let f : free boot before ≡ boot.params.frames - resident_pages boot before = free-is boot before ∙ ap (λ n. boot.params.frames - n) (sym (resident-parts boot before)) in
    omega (arith, f, c, w, r)

-- each call keeps the frames
abbrev at_call : ℕ → Call → Reply → Entry
at_call who call reply = record { who = who; call = call; reply = reply }

short_none : (n f : ℕ) → some_if (nat_lt f n) (Shortage n f) ≡ None → n ≤ f
short_none n f h = elim (cases_lt f n) [
  | inl l ↦ absurd (let t : nat_lt f n ≡ true = grind (arith, nat_tests) in none_of_some (rw t at h))
  | inr l ↦ l
]

cases_bool : (b : Bool) → (b ≡ true) ⊎ (b ≡ false)
cases_bool true = inl refl
cases_bool false = inr refl

moved_in : (boot : System) (before : List Entry) (who : ℕ) (move : Move) (q : PageId) → is_in (place boot before q) ≡ true → resident_pages boot (at_call who Scan (Moved move q) ∷ before) ≤ resident_pages boot before
moved_in boot before who move q h = count_by-weaker (λ p. is_in (place boot (at_call who Scan (Moved move q) ∷ before) p)) (λ p. is_in (place boot before p))
    (λ p k. elim (cases_bool (same_page p q)) [
      | inl s ↦ ap (λ x. is_in (place boot before x)) (sym (same_page-is p q s)) ∙ h
      | inr f ↦ (let same : placed boot (at_call who Scan (Moved move q) ∷ before) p ≡ placed boot before p = placed-moved boot who move q before p ∙ rw f refl in ap (λ x. is_in x.place) (sym same) ∙ k)
    ]) (pages_of boot)

-- a reply that moves a page is the scan's
pub scan-answer : (boot : System) (before : List Entry) (who : ℕ) (move : Move) (q : PageId) → Moved move q ≡ answer boot before who Scan → scan boot before ≡ Moved move q
scan-answer boot before who move q h = elim (answer-cases boot before who Scan) [
  | refused why r a ↦ absurd (moved_refused (h ∙ a))
  | gets r a ↦ sym (h ∙ a)
]

scan_frames : (boot : System) (before : List Entry) (who : ℕ) (reply : Reply) → reply ≡ answer boot before who Scan → resident_pages boot (at_call who Scan reply ∷ before) ≤ resident_pages boot before
scan_frames boot before who (Moved move q) h = moved_in boot before who move q (scan_move-in boot before move q (scan-moved boot before move q (scan-answer boot before who move q h)).chosen)
scan_frames boot before who reply h = resident-still boot (at_call who Scan reply) before (λ p. and_false (is_reply reply)) (λ p. refl)

-- a refused call leaves the places
refused_frames : (boot : System) (before : List Entry) (who : ℕ) (call : Call) (reply : Reply) (why : Refusal) → reply ≡ Refused why → resident_pages boot before ≤ boot.params.frames → resident_pages boot (at_call who call reply ∷ before) ≤ boot.params.frames
refused_frames boot before who call reply why h l =
    let s = resident-still boot (at_call who call reply) before (λ p. rw h refl) (λ p. rw h refl) in
    omega arith

write_frames : (boot : System) (before : List Entry) (who x off : ℕ) (bytes : List ℕ) (reply : Reply) → reply ≡ answer boot before who (Write x off bytes) → IsAnswered boot before who (Write x off bytes) → resident_pages boot before ≤ boot.params.frames → resident_pages boot (at_call who (Write x off bytes) reply ∷ before) ≤ boot.params.frames
unfolding short_of
write_frames boot before who x off bytes reply h (refused why r a) l = refused_frames boot before who (Write x off bytes) reply why (h ∙ a) l
write_frames boot before who x off bytes reply h (gets r a) l =
    access_le boot (at_call who (Write x off bytes) reply) before x off (length bytes)
    (λ p. move-none p reply (Write x off bytes) (rw h (answer-tells boot before who (Write x off bytes))) refl)
    (λ p t. write_touch (is_reply reply) (nat_eq x p.obj && reaches_page off (length bytes) p.page) t)
    (short_none (needed boot before x off (length bytes)) (free boot before) (accepted-shortage boot before who (Write x off bytes) r)) l

read_empty : (boot : System) (before : List Entry) (who x off len : ℕ) (reply : Reply) (p : PageId) → is_empty (state before x) ≡ true → touches before (at_call who (Read x off len) reply) p ≡ false
read_empty boot before who x off len reply p e = elim (eqb_tells x p.obj) [
  | inl same ↦ (let s : is_empty (state before p.obj) ≡ true = ap (λ o. is_empty (state before o)) (sym same.1) ∙ e in rw s (read_none (is_reply reply) (nat_eq x p.obj && reaches_page off len p.page)))
  | inr other ↦ rw (other.0) (and_false (is_reply reply))
]

read_frames : (boot : System) (before : List Entry) (who x off len : ℕ) (reply : Reply) → reply ≡ answer boot before who (Read x off len) → IsAnswered boot before who (Read x off len) → resident_pages boot before ≤ boot.params.frames → resident_pages boot (at_call who (Read x off len) reply ∷ before) ≤ boot.params.frames
unfolding short_of
read_frames boot before who x off len reply h (refused why r a) l = refused_frames boot before who (Read x off len) reply why (h ∙ a) l
read_frames boot before who x off len reply h (gets r a) l =
    let m : (p : PageId) → move_of p reply ≡ None = λ p. move-none p reply (Read x off len) (rw h (answer-tells boot before who (Read x off len))) refl in
    elim (cases_bool (is_empty (state before x))) [
      | inl e ↦ (let s = resident-still boot (at_call who (Read x off len) reply) before (λ p. read_empty boot before who x off len reply p e) m in omega arith)
      | inr f ↦ access_le boot (at_call who (Read x off len) reply) before x off len m
          (λ p t. read_touch (is_reply reply) (nat_eq x p.obj && reaches_page off len p.page) (not (is_empty (state before p.obj))) t)
          (short_none (needed boot before x off len) (free boot before) (let s = accepted-shortage boot before who (Read x off len) r in rw f at s)) l
    ]

step_frames : (boot : System) (before : List Entry) (who : ℕ) (call : Call) (reply : Reply) → reply ≡ answer boot before who call → resident_pages boot before ≤ boot.params.frames → resident_pages boot (at_call who call reply ∷ before) ≤ boot.params.frames
step_frames boot before who (Write x off bytes) reply h l = write_frames boot before who x off bytes reply h (answer-cases boot before who (Write x off bytes)) l
step_frames boot before who (Read x off len) reply h l = read_frames boot before who x off len reply h (answer-cases boot before who (Read x off len)) l
step_frames boot before who Scan reply h l = let s = scan_frames boot before who reply h in omega arith
step_frames boot before who call reply h l =
    let s = resident-still boot (at_call who call reply) before (λ p. and_false (is_reply reply)) (λ p. move-none p reply call (rw h (answer-tells boot before who call)) refl) in
    omega arith

-- the Active and Inactive pages together are at most the frames
resident-within : (boot : System) (past : List Entry) → IsLegal boot past → resident_pages boot past ≤ boot.params.frames
unfolding placed newest
resident-within boot [] l = let z = count_by-none (λ p. is_in (place boot [] p)) (λ p. refl) (pages_of boot) in omega arith
resident-within boot (e ∷ before) l = step_frames boot before e.who e.call e.reply l.1 (resident-within boot before l.2)

pub frames-hold : (boot : System) (past : List Entry) → IsLegal boot past → active_pages boot past + inactive_pages boot past ≤ boot.params.frames
frames-hold boot past l = let r = resident-within boot past l in let p = resident-parts boot past in omega arith

-- so what is free and what is in frames are all frames
pub free-frames : (boot : System) (past : List Entry) → IsLegal boot past → free boot past + (active_pages boot past + inactive_pages boot past) ≡ boot.params.frames
free-frames boot past l = let f = frames-hold boot past l in let g = free-is boot past in omega arith

-- the store
store_brings : (move : Move) → is_stored (moved_to move) ≡ is_compressing move
store_brings Deactivated = refl
store_brings Reactivated = refl
store_brings Freed = refl
store_brings Compressed = refl
store_brings Requeued = refl

bit_room : (b : Bool) (m n : ℕ) → (b ≡ true → m < n) → m ≤ n → m + bit b ≤ n
bit_room true m n h l = let k = h refl in omega arith
bit_room false m n h l = omega arith

store_step : (boot : System) (before : List Entry) (who : ℕ) (call : Call) (reply : Reply) → reply ≡ answer boot before who call → stored_pages boot before ≤ boot.params.store → stored_pages boot before + bit (brings is_stored reply) ≤ boot.params.store
store_step boot before who Scan (Moved move q) h l =
    let m = scan-moved boot before move q (scan-answer boot before who move q h) in
    bit_room (is_stored (moved_to move)) (stored_pages boot before) boot.params.store (λ b. m.room (sym (store_brings move) ∙ b)) l
store_step boot before who call (Moved move q) h l = absurd (false≢true (ap (λ r. tells r call) h ∙ answer-tells boot before who call))
store_step boot before who call reply h l = omega arith

-- the Stored pages are at most the store's
pub store-holds : (boot : System) (past : List Entry) → IsLegal boot past → stored_pages boot past ≤ boot.params.store
unfolding placed newest
store-holds boot [] l = let z = count_by-none (λ p. is_stored (place boot [] p)) (λ p. refl) (pages_of boot) in omega arith
store-holds boot (e ∷ before) l =
    let c = counted-le boot e before is_stored refl refl in
    let s = store_step boot before e.who e.call e.reply l.1 (store-holds boot before l.2) in
    omega arith

-- a ripe deadline stays ripe
pub ripe-stays : (boot : System) (e : Entry) (before : List Entry) (d : ℕ) → d ≤ left boot before → d ≤ left boot (e ∷ before)
ripe-stays boot e before d h = let r = left-rises boot e before in omega arith
