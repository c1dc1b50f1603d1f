-- What holds after every history, by one entry after another: a page that isn't Absent was placed by an entry, each object stands
-- in one of eight groups, no more pages are Inactive than were ever deactivated, and a page that isn't Absent is one of a mapped object.
use Rattle.std.proofs.Common.{◌≡◌, ℕ, suc, ◌+◌, ◌/◌, ◌<◌, ◌≤◌, List, [], ◌∷◌, length, Option, Some, None, option_map, nat_eq, nat_lt, refl, sym, ap, ◌∙◌, subst, Bool, true, false, not, ◌&&◌, ◌||◌, if◌then◌else◌, inl, inr, arith}
use Rattle.std.specs.Prelude.{IsTrue, is_some, bit_and, option_and_then}
use Rattle.std.specs.Option.{unwrap_or}
use Rattle.std.proofs.lemmas.Bool.{cases_Bool, false≢true, true≢false, and_parts, and_right}
use Rattle.std.proofs.lemmas.Bool.Decides.{eqb_tells}
use Rattle.std.proofs.lemmas.Nat.{and_le_r}
use Rattle.kern_ids.specs.declared.entries.Entry.{Entry}
use Rattle.kern_ids.specs.declared.ids.PageId.{PageId}
use Rattle.kern_ids.specs.declared.calls.Call.{Call}
use Rattle.kern_ids.specs.declared.calls.Call.TheVariants.{Read, Write, Scan, SetState}
use Rattle.kern_ids.specs.declared.calls.Queue.{Queue}
use Rattle.kern_ids.specs.declared.calls.Wish.{Wish}
use Rattle.kern_ids.specs.declared.calls.Wish.TheVariants.{Nonvolatile as ask_nonvolatile, Volatile as ask_volatile, Empty as ask_empty}
use Rattle.kern_ids.specs.StateWord.{decoded}
use Rattle.kern_ids.specs.declared.replies.Reply.{Reply}
use Rattle.kern_ids.specs.declared.replies.Reply.TheVariants.{Moved, Refused}
use Rattle.kern_ids.specs.declared.replies.Refusal.{Refusal}
use Rattle.kernel_model.specs.declared.place.Place.{Place}
use Rattle.kernel_model.specs.declared.place.Place.TheVariants.{Absent, Active, Inactive, Stored}
use Rattle.kernel_model.specs.declared.place.Placed.{Placed}
use Rattle.kernel_model.specs.declared.place.Standing.{Standing}
use Rattle.kernel_model.specs.System.{System}
use Rattle.kernel_model.specs.Valid.{IsValidBoot}
use Rattle.kernel_model.specs.Newest.{newest}
use Rattle.kernel_model.specs.Events.{accepted, asked, wish_call, is_reply, task_of, reaches_page}
use Rattle.kernel_model.specs.Mapping.{maps, mapped, unmaps}
use Rattle.kernel_model.specs.State.{state, is_empty}
use Rattle.kernel_model.specs.Groups.{standing, standing_asked}
use Rattle.kernel_model.specs.Contents.{empties}
use Rattle.kernel_model.specs.Pages.{place, placed, place_given, touches, is_out, move_of, same_page, is_inactive, pages_of, inactive_pages, entered, next_entered, is_deactivation}
use Rattle.kernel_model.specs.Answers.{answer}
use Rattle.kernel_model.specs.Histories.{IsLegal, fits, names_fit, same, is_task_call}
use Rattle.kernel_model.specs.Laws.Frames.{is_in, bit}
use Rattle.kernel_model.specs.Laws.Kinds.{tells}
use Rattle.kernel_model.specs.Laws.Present.{is_absent}
use Rattle.kernel_model.proofs.Laws.Answers.{refused, gets, answer-cases, answer-tells, accepted-no_object}
use Rattle.kernel_model.proofs.Laws.Bounds.{scan-answer, counted-le, deactivation-brings, entered_by}
use Rattle.kernel_model.proofs.Laws.Counting.{count_by-none}
use Rattle.kernel_model.proofs.Laws.Frames.{same_page-is}
use Rattle.kernel_model.proofs.Laws.Held.{declared_task, maps_mapped, not_false}
use Rattle.kernel_model.proofs.Laws.Pages.{entered-more}
use Rattle.kernel_model.proofs.Laws.Scans.{scan-moved, scan_move-in}
use Rattle.kernel_model.proofs.Laws.Tokens.{at_call}

-- a page that isn't Absent was placed by an entry
number_since : (given : Option Place) (n : ℕ) (was : Placed) → is_absent (unwrap_or (option_map (λ x. record { place = x; number = n }) given) was).place ≡ false → (is_absent was.place ≡ false → was.number < n) → (unwrap_or (option_map (λ x. record { place = x; number = n }) given) was).number < suc n
number_since (Some x) n was h k = omega arith
number_since None n was h k = let l = k h in omega arith

pub placed-since : (boot : System) (past : List Entry) (p : PageId) → is_absent (place boot past p) ≡ false → (placed boot past p).number < length past
unfolding placed newest
placed-since boot [] p h = absurd (true≢false h)
placed-since boot (e ∷ before) p h = number_since (place_given (state before p.obj) (unmaps boot before e p.obj) p (place boot before p) e) (length before) (placed boot before p) h (λ i. placed-since boot before p i)

-- a word asks for a group below 8
word_group : (a b c d o : Bool) (k : ℕ) (r q : Queue) (g : ℕ) → (if a then None else if b then Some ask_nonvolatile else if c then Some ask_empty else if d then Some (ask_volatile r (if o then 0 else k)) else None) ≡ Some (ask_volatile q g) → k < 8 → g < 8
word_group true b c d o k r q g h l = absurd (cc)
word_group false true c d o k r q g h l = absurd (cc)
word_group false false true d o k r q g h l = absurd (cc)
word_group false false false true true k r q g h l = let e : 0 ≡ g = cc in omega arith
word_group false false false true false k r q g h l = let e : k ≡ g = cc in omega arith
word_group false false false false o k r q g h l = absurd (cc)

decoded-group : (word : ℕ) (q : Queue) (g : ℕ) → decoded word ≡ Some (ask_volatile q g) → g < 8
decoded-group word q g h =
    let few : bit_and (word / 256) 7 ≤ 7 = and_le_r (word / 256) 7 in
    word_group (not (nat_eq (bit_and word 0x773) word)) (nat_eq (bit_and word 3) 0) (nat_eq (bit_and word 3) 2) (nat_eq (bit_and word 3) 1) (not (nat_eq (bit_and word 0x20) 0)) (bit_and (word / 256) 7) _ q g h (omega arith)

given_group : (b : Bool) (w : Option Wish) (q : Queue) (g : ℕ) → (if b then w else None) ≡ Some (ask_volatile q g) → (w ≡ Some (ask_volatile q g) → g < 8) → g < 8
given_group true w q g h k = k h
given_group false w q g h k = absurd (cc)

wish_group : (o : ℕ) (call : Call) (q : Queue) (g : ℕ) → wish_call o call ≡ Some (ask_volatile q g) → g < 8
wish_group o (SetState x word) q g h = given_group (nat_eq x o) (decoded word) q g h (decoded-group word q g)
wish_group o _ q g h = absurd (cc)

standing_group : (w : Option Wish) (n : ℕ) (was : Standing) → ((q : Queue) (g : ℕ) → w ≡ Some (ask_volatile q g) → g < 8) → was.group < 8 → (unwrap_or (option_and_then (standing_asked n) w) was).group < 8
standing_group (Some (ask_volatile q g)) n was k l = k q g refl
standing_group (Some ask_nonvolatile) n was k l = l
standing_group (Some ask_empty) n was k l = l
standing_group None n was k l = l

-- so every object stands in one of eight groups
pub standing-group : (past : List Entry) (o : ℕ) → (standing past o).group < 8
unfolding standing newest
standing-group [] o = omega arith
standing-group (e ∷ before) o = standing_group (asked o e) (length before) (standing before o) (λ q g h. given_group (accepted e) (wish_call o e.call) q g h (wish_group o e.call q g)) (standing-group before o)

-- no more pages are Inactive than were ever deactivated
pub inactive-entered : (boot : System) (past : List Entry) → inactive_pages boot past ≤ entered past
unfolding placed newest next_entered
inactive-entered boot [] = (let z = count_by-none (λ p. is_inactive (place boot [] p)) (λ p. refl) (pages_of boot) in omega arith)
inactive-entered boot (e ∷ before) =
    let i = counted-le boot e before is_inactive refl refl in
    let d = deactivation-brings e.reply in
    let n : entered (e ∷ before) ≡ entered before + bit (is_deactivation e.reply) = entered-more e before ∙ entered_by (is_deactivation e.reply) (entered before) in
    let b = inactive-entered boot before in
    omega (arith, i, d, n, b)

or_false : (b : Bool) → (b || false) ≡ b
or_false true = refl
or_false false = refl

-- a call that fits is one of the caller's side
fitting_side : (boot : System) (who : ℕ) (call : Call) → IsTrue (fits boot who call) → same (is_task_call call) (is_some (task_of boot who)) ≡ true
fitting_side boot who call f =
    let p = and_parts (nat_lt who (length boot.sides) && same (is_task_call call) (is_some (task_of boot who))) (names_fit boot call) f in
    (and_parts (nat_lt who (length boot.sides)) (same (is_task_call call) (is_some (task_of boot who))) p.0).1

same_number : (a b : ℕ) → nat_eq a b ≡ true → a ≡ b
same_number a b h = elim (eqb_tells a b) [ inl same ↦ same.1 | inr other ↦ absurd (false≢true (sym other.0 ∙ h)) ]

refused_not : (reply : Reply) (why : Refusal) → is_reply reply ≡ true → reply ≡ Refused why → ⊥
refused_not reply why h e = false≢true (sym (ap is_reply e) ∙ h)

-- an entry that touches a page is an access of a task that maps its object
touch_mapped : (boot : System) (before : List Entry) (who : ℕ) (call : Call) (reply : Reply) (p : PageId) → IsValidBoot boot → IsTrue (fits boot who call) → reply ≡ answer boot before who call → touches before (at_call who call reply) p ≡ true → mapped boot before p.obj ≡ true
touch_mapped boot before who (Write x off bytes) reply p v f h t =
    let parts = and_parts (is_reply reply) ((nat_eq x p.obj && reaches_page off (length bytes) p.page) || false) t in
    let here : x ≡ p.obj = same_number x p.obj (and_parts (nat_eq x p.obj) (reaches_page off (length bytes) p.page) (sym (or_false (nat_eq x p.obj && reaches_page off (length bytes) p.page)) ∙ parts.1)).0 in
    elim (answer-cases boot before who (Write x off bytes)) [
      | refused why r a ↦ absurd (refused_not reply why parts.0 (h ∙ a))
      | gets r a ↦ subst (λ o. mapped boot before o ≡ true) here (maps_mapped boot before x (unwrap_or (task_of boot who) 0) (declared_task boot who v (fitting_side boot who (Write x off bytes) f)) (not_false (maps boot before x (unwrap_or (task_of boot who) 0)) (accepted-no_object boot before who (Write x off bytes) r)))
    ]
touch_mapped boot before who (Read x off len) reply p v f h t =
    let parts = and_parts (is_reply reply) ((nat_eq x p.obj && reaches_page off len p.page) && not (is_empty (state before p.obj))) t in
    let inner = and_parts (nat_eq x p.obj && reaches_page off len p.page) (not (is_empty (state before p.obj))) parts.1 in
    let here : x ≡ p.obj = same_number x p.obj (and_parts (nat_eq x p.obj) (reaches_page off len p.page) inner.0).0 in
    elim (answer-cases boot before who (Read x off len)) [
      | refused why r a ↦ absurd (refused_not reply why parts.0 (h ∙ a))
      | gets r a ↦ subst (λ o. mapped boot before o ≡ true) here (maps_mapped boot before x (unwrap_or (task_of boot who) 0) (declared_task boot who v (fitting_side boot who (Read x off len) f)) (not_false (maps boot before x (unwrap_or (task_of boot who) 0)) (accepted-no_object boot before who (Read x off len) r)))
    ]
touch_mapped boot before who call reply p v f h t = absurd (false≢true (sym (and_right (is_reply reply) false refl) ∙ t))

in-present : (x : Place) → is_in x ≡ true → is_absent x ≡ false
in-present Active h = refl
in-present Inactive h = refl
in-present Absent h = absurd (false≢true h)
in-present Stored h = absurd (false≢true h)

-- a page that an entry moves was in a frame
move_present : (boot : System) (before : List Entry) (who : ℕ) (call : Call) (reply : Reply) (p : PageId) (x : Place) → reply ≡ answer boot before who call → move_of p reply ≡ Some x → is_absent (place boot before p) ≡ false
move_present boot before who Scan (Moved move q) p x h m = elim (cases_Bool (same_page p q)) [
  | inl same ↦ subst (λ r. is_absent (place boot before r) ≡ false) (same_page-is p q same) (in-present (place boot before q) (scan_move-in boot before move q (scan-moved boot before move q (scan-answer boot before who move q h)).chosen))
  | inr off ↦ absurd (none_some (rw off at m))
]
  where
    none_some : {A : Type 0} {y : A} → (None ≡ Some y) → ⊥
    none_some e = cc
move_present boot before who call (Moved move q) p x h m = absurd (false≢true (ap (λ r. tells r call) h ∙ answer-tells boot before who call))
move_present boot before who call reply p x h m = absurd (cc)

-- the page after the entry, by the page before
held_step : (gone faults : Bool) (moved : Option Place) (n : ℕ) (was : Placed) (before after : Bool) → (gone ≡ false → before ≡ true → after ≡ true) → (faults ≡ true → before ≡ true) → ((x : Place) → moved ≡ Some x → before ≡ true) → (is_absent was.place ≡ false → before ≡ true) → is_absent (unwrap_or (option_map (λ x. record { place = x; number = n }) (if gone then Some Absent else if faults then Some Active else moved)) was).place ≡ false → after ≡ true
held_step true faults moved n was before after stays f m w h = absurd (true≢false h)
held_step false true moved n was before after stays f m w h = stays refl (f refl)
held_step false false (Some x) n was before after stays f m w h = stays refl (m x refl)
held_step false false None n was before after stays f m w h = stays refl (w h)

or_left : (a b : Bool) → (a || b) ≡ false → b ≡ false
or_left true b h = absurd (true≢false h)
or_left false b h = h

still_mapped : (boot : System) (e : Entry) (before : List Entry) (o : ℕ) → unmaps boot before e o ≡ false → mapped boot before o ≡ true → mapped boot (e ∷ before) o ≡ true
unfolding unmaps
still_mapped boot e before o u m = elim (cases_Bool (mapped boot (e ∷ before) o)) [
  | inl stays ↦ stays
  | inr gone ↦ absurd (true≢false (sym (rw (m, gone) refl) ∙ u))
]

pub held-mapped : (boot : System) (past : List Entry) (p : PageId) → IsValidBoot boot → IsLegal boot past → is_absent (place boot past p) ≡ false → mapped boot past p.obj ≡ true
unfolding placed newest
held-mapped boot [] p v l h = absurd (true≢false h)
held-mapped boot (e ∷ before) p v l h =
    held_step (empties p.obj before e || unmaps boot before e p.obj) (touches before e p && is_out (place boot before p)) (move_of p e.reply) (length before) (placed boot before p) (mapped boot before p.obj) (mapped boot (e ∷ before) p.obj)
    (λ gone m. still_mapped boot e before p.obj (or_left (empties p.obj before e) (unmaps boot before e p.obj) gone) m)
    (λ f. touch_mapped boot before e.who e.call e.reply p v l.0 l.1 (and_parts (touches before e p) (is_out (place boot before p)) f).0)
    (λ x m. held-mapped boot before p v l.2 (move_present boot before e.who e.call e.reply p x l.1 m))
    (λ w. held-mapped boot before p v l.2 w)
    h
