-- The scan moves one page: what the tables are afterwards.
use Rattle.std.proofs.Common.{◌≡◌, ℕ, ◌+◌, ◌-◌, ◌<◌, ◌≤◌, List, [], ◌∷◌, length, map, if◌then◌else◌, not, Some, slice_get, get_or, nat_eq, refl, sym, ap, ap₂, ◌∙◌, subst, Bool, true, false, ◌&&◌, inl, arith}
use Rattle.std.specs.Prelude.{IsTrue}
use Rattle.std.proofs.lemmas.Bool.{false≢true, and_right}
use Rattle.kern_ids.specs.declared.entries.Entry.{Entry}
use Rattle.kern_ids.specs.declared.ids.PageId.{PageId}
use Rattle.kern_ids.specs.declared.calls.Call.TheVariants.{Scan}
use Rattle.kern_ids.specs.declared.calls.Queue.{Queue}
use Rattle.kern_ids.specs.declared.calls.Queue.TheVariants.{Obsolete, Lifo, Fifo}
use Rattle.kern_ids.specs.declared.replies.Reply.TheVariants.{Moved}
use Rattle.kern_ids.specs.declared.replies.Move.{Move}
use Rattle.kern_ids.specs.declared.replies.Move.TheVariants.{Deactivated, Reactivated, Freed, Compressed, Requeued}
use Rattle.kernel_model.specs.declared.place.Place.{Place}
use Rattle.kernel_model.specs.declared.place.Place.TheVariants.{Absent, Active, Inactive, Stored}
use Rattle.kernel_model.specs.declared.place.Placed.{Placed}
use Rattle.kernel_model.specs.System.{System}
use Rattle.kernel_model.specs.Valid.{IsValidBoot}
use Rattle.kernel_model.specs.Lists.{pair_lt}
use Rattle.kernel_model.specs.Pages.{place, placed, pages_of, same_page, moved_to, is_active, is_inactive, is_stored, touched_since, entered, left, active_pages, inactive_pages}
use Rattle.kernel_model.specs.Deadlines.{Deadlines, deadlines, of_queue}
use Rattle.kernel_model.specs.Answers.{answer}
use Rattle.kernel_model.specs.Histories.{IsLegal, fits}
use Rattle.kernel_model.specs.Laws.Frames.{bit}
use Rattle.kernel_model.specs.Laws.Kinds.{moved_entry}
use Rattle.kernel_model.specs.Laws.Order.{Has}
use Rattle.kernel_model.specs.Laws.Present.{is_absent}
use Rattle.kernel_model.specs.Laws.Queues.{KeepsPages}
use Rattle.kernel_model.proofs.Laws.Bounds.{nat_eq-swap, scan-answer, frames-hold}
use Rattle.kernel_model.proofs.Laws.Frames.{pages-page}
use Rattle.kernel_model.proofs.Laws.Kept.{entered-kept, written-kept}
use Rattle.kernel_model.proofs.Laws.Kinds.{placed-moved, touched_since-moved, entered-deactivated}
use Rattle.kernel_model.proofs.Laws.Pages.{left-is}
use Rattle.kernel_model.proofs.Laws.Present.{placed-since, inactive-entered}
use Rattle.kernel_model.proofs.Laws.Queues.{pair_lt-newer, first_active-is, first_inactive-is}
use Rattle.kernel_model.proofs.Laws.Scans.{scan-moved, chosen_page}
use Rattle.kernel_model.proofs.Laws.Untouched.{has-pages}
use Rattle.page_queues.specs.Pages.{Pages, key_of, page_of, active as active_keys, inactive as inactive_keys, place_at, placed as placed_in, absented}
use Rattle.token_list.specs.Dues.{lowered_by}
use Rattle.ripen_advance.specs.Queues.{QueueDues, dues_in}
use Rattle.purge_pick.specs.Follows.{Follows}
use Rattle.purge_pick.proofs.FollowLemmas.{departed-follows}
use Rattle.vm_object.specs.Objects.{object_at, owner as owner_in}
use Rattle.kernel_tables.specs.Values.{TableValues}
use Rattle.kernel_tables.specs.Stands.{Stands, HasDues}
use Rattle.kernel_tables.specs.Moves.{moved_from, movable, moved_first, told_of, entered_by, recharged, IsChargeable, CanTell}
use Rattle.kernel_tables.proofs.Kept.{kept-objects}
use Rattle.kernel_tables.proofs.PageKeys.{key_of-page, same_itself}
use Rattle.kernel_tables.proofs.PageMoves.{PagesHold, stamped, hold-placed, hold-absented, hold-stands, stands-hold}
use Rattle.kernel_tables.proofs.PageCharges.{ChargesHold, charges-stand, page-fits, has-counted}
use Rattle.kernel_tables.proofs.OnlyPages.{OnlyPages, same-maps, same-mapped, same-state, same-deadlines, charged-stand, only-pages-stand}
use Rattle.kernel_tables.proofs.Recharges.{page-object, recharge-can, recharge-does}

same-swap : (q p : PageId) → same_page q p ≡ same_page p q
same-swap q p = ap₂ (λ a b. a && b) (nat_eq-swap q.obj p.obj) (nat_eq-swap q.page p.page)

abbrev put_at : Place → ℕ → Placed
put_at x n = record { place = x; number = n }

-- a move says nothing but of pages
pub moved-only : (who : ℕ) (how : Move) (p : PageId) → OnlyPages (moved_entry who how p)
moved-only who how p = record { map = λ o. refl; attach = λ o. refl; unmap = λ o. refl; exit = refl; tick = refl; wish = λ o. refl; set = refl; band = λ t. refl; active = refl; limits = λ t. refl; purged = refl; killed = refl; aged = refl }

-- the page is at its new place since the entry, and no other page changes
module _ (boot : System) (past : List Entry) (who : ℕ) (how : Move) (p : PageId) where
  moved-here : placed boot (moved_entry who how p ∷ past) p ≡ record { place = moved_to how; number = length past }
  moved-here = placed-moved boot who how p past p ∙ ap (λ b. if b then put_at (moved_to how) (length past) else placed boot past p) (same_itself p)

  pub moved-other : (q : PageId) → same_page p q ≡ false → placed boot (moved_entry who how p ∷ past) q ≡ placed boot past q
  moved-other q off = placed-moved boot who how p past q ∙ ap (λ b. if b then put_at (moved_to how) (length past) else placed boot past q) (same-swap q p ∙ off)

  pub moved-place : place boot (moved_entry who how p ∷ past) p ≡ moved_to how
  moved-place = ap (λ (x : Placed). x.place) moved-here

  untouched-here : touched_since boot (moved_entry who how p ∷ past) p ≡ false
  untouched-here = touched_since-moved boot who how p past p ∙ ap (λ b. not b && touched_since boot past p) (same_itself p)

  touched-other : (q : PageId) → same_page p q ≡ false → touched_since boot (moved_entry who how p ∷ past) q ≡ touched_since boot past q
  touched-other q off = touched_since-moved boot who how p past q ∙ ap (λ b. not b && touched_since boot past q) (same-swap q p ∙ off)

  unmarked-here : (is_inactive (place boot (moved_entry who how p ∷ past) p) && touched_since boot (moved_entry who how p ∷ past) p) ≡ false
  unmarked-here = ap (λ b. is_inactive (place boot (moved_entry who how p ∷ past) p) && b) untouched-here ∙ and_right (is_inactive (place boot (moved_entry who how p ∷ past) p)) false refl

  moved-behind : (q : PageId) → same_page p q ≡ false → is_absent (place boot past q) ≡ false → pair_lt (stamped (placed boot past) q) (stamped (placed boot (moved_entry who how p ∷ past)) p) ≡ true
  moved-behind q off k = subst (λ (x : Placed). pair_lt (stamped (placed boot past) q) (x.number, p.page) ≡ true) (sym moved-here) (pair_lt-newer (stamped (placed boot past) q) (length past, p.page) (placed-since boot past q k))

  moved-put : IsValidBoot boot → Has (pages_of boot) p → (pages : Pages) (key l : ℕ) → l < 3 → length pages.queues ≡ 3 → key ≡ key_of p → moved_to how ≡ place_at (Some l) → is_active (moved_to how) ≡ nat_eq l 0 → is_inactive (moved_to how) ≡ nat_eq l 1 → is_stored (moved_to how) ≡ nat_eq l 2 → PagesHold boot (placed boot past) (touched_since boot past) pages → PagesHold boot (placed boot (moved_entry who how p ∷ past)) (touched_since boot (moved_entry who how p ∷ past)) (placed_in pages key l)
  moved-put v w pages key l below three is to a i s h =
      subst (λ k. PagesHold boot (placed boot (moved_entry who how p ∷ past)) (touched_since boot (moved_entry who how p ∷ past)) (placed_in pages k l)) (sym is)
      (hold-placed boot (placed boot past) (placed boot (moved_entry who how p ∷ past)) (touched_since boot past) (touched_since boot (moved_entry who how p ∷ past)) p (page-fits boot v) w moved-other touched-other unmarked-here moved-behind pages l below three (moved-place ∙ to) (ap is_active moved-place ∙ a) (ap is_inactive moved-place ∙ i) (ap is_stored moved-place ∙ s) h)

  moved-away : IsValidBoot boot → Has (pages_of boot) p → (pages : Pages) (key : ℕ) → length pages.queues ≡ 3 → key ≡ key_of p → moved_to how ≡ Absent → PagesHold boot (placed boot past) (touched_since boot past) pages → PagesHold boot (placed boot (moved_entry who how p ∷ past)) (touched_since boot (moved_entry who how p ∷ past)) (absented pages key)
  moved-away v w pages key three is to h =
      subst (λ k. PagesHold boot (placed boot (moved_entry who how p ∷ past)) (touched_since boot (moved_entry who how p ∷ past)) (absented pages k)) (sym is)
      (hold-absented boot (placed boot past) (placed boot (moved_entry who how p ∷ past)) (touched_since boot past) (touched_since boot (moved_entry who how p ∷ past)) p (page-fits boot v) w moved-other touched-other unmarked-here moved-behind pages three (moved-place ∙ to) h)

  inactive-moved : Has (pages_of boot) p → inactive_pages boot (moved_entry who how p ∷ past) + bit (is_inactive (place boot past p)) ≡ inactive_pages boot past + bit (is_inactive (moved_to how))
  inactive-moved w = pages-page boot (moved_entry who how p) past p is_inactive (has-pages boot p w) moved-other ∙ ap (λ x. inactive_pages boot past + bit (is_inactive x)) moved-place

moved-hold : (boot : System) (past : List Entry) (who : ℕ) (how : Move) (p : PageId) → IsValidBoot boot → Has (pages_of boot) p → (pages : Pages) → length pages.queues ≡ 3 → get_or (movable pages how) 0 0 ≡ key_of p → PagesHold boot (placed boot past) (touched_since boot past) pages → PagesHold boot (placed boot (moved_entry who how p ∷ past)) (touched_since boot (moved_entry who how p ∷ past)) (moved_first pages how)
moved-hold boot past who Deactivated p v w pages three key h = moved-put boot past who Deactivated p v w pages (get_or (active_keys pages) 0 0) 1 (omega arith) three key refl refl refl refl h
moved-hold boot past who Reactivated p v w pages three key h = moved-put boot past who Reactivated p v w pages (get_or (inactive_keys pages) 0 0) 0 (omega arith) three key refl refl refl refl h
moved-hold boot past who Freed p v w pages three key h = moved-away boot past who Freed p v w pages (get_or (inactive_keys pages) 0 0) three key refl h
moved-hold boot past who Compressed p v w pages three key h = moved-put boot past who Compressed p v w pages (get_or (inactive_keys pages) 0 0) 2 (omega arith) three key refl refl refl refl h
moved-hold boot past who Requeued p v w pages three key h = moved-put boot past who Requeued p v w pages (get_or (inactive_keys pages) 0 0) 0 (omega arith) three key refl refl refl refl h

-- the tokens once a page more is Inactive, and once one is it no more
abbrev lowered : QueueDues → QueueDues
lowered tokens = record { obsolete = lowered_by 1 tokens.obsolete; lifo = lowered_by 1 tokens.lifo; fifo = lowered_by 1 tokens.fifo; ahead = tokens.ahead - 1 }

same-dues : (tokens : QueueDues) (n : ℕ) (q : Queue) → dues_in (record tokens { ahead = n }) q ≡ dues_in tokens q
same-dues tokens n Obsolete = refl
same-dues tokens n Lifo = refl
same-dues tokens n Fifo = refl

lowered-dues : (tokens : QueueDues) (q : Queue) → dues_in (lowered tokens) q ≡ lowered_by 1 (dues_in tokens q)
lowered-dues tokens Obsolete = refl
lowered-dues tokens Lifo = refl
lowered-dues tokens Fifo = refl

module _ (boot : System) (e : Entry) (past : List Entry) (tokens : QueueDues) (due : deadlines boot (e ∷ past) ≡ deadlines boot past) (ahead : tokens.ahead ≡ inactive_pages boot past) (dues : HasDues boot past tokens) where
  pub tokens-enter : entered (e ∷ past) ≡ entered past + 1 → inactive_pages boot (e ∷ past) ≡ inactive_pages boot past + 1 → HasDues boot (e ∷ past) (record tokens { ahead = tokens.ahead + 1 })
  tokens-enter more inactive q =
      let l = left-is boot past in
      let m = left-is boot (e ∷ past) in
      let same : left boot past ≡ left boot (e ∷ past) = omega arith in
      same-dues tokens (tokens.ahead + 1) q ∙ dues q ∙ ap₂ (λ (n : ℕ) (ds : Deadlines). map (λ d. d - n) (of_queue ds q)) same (sym due)

  pub tokens-leave : entered (e ∷ past) ≡ entered past → inactive_pages boot (e ∷ past) + 1 ≡ inactive_pages boot past → HasDues boot (e ∷ past) (lowered tokens)
  tokens-leave none inactive q =
      let l = left-is boot past in
      let m = left-is boot (e ∷ past) in
      let b = inactive-entered boot past in
      let same : left boot past + 1 ≡ left boot (e ∷ past) = omega arith in
      let held : tokens.ahead ≡ entered past - left boot past = omega arith in
      let follows : Follows (deadlines boot past) (entered past) (left boot past) tokens = record { dues = dues; ahead = held } in
      (departed-follows (deadlines boot past) (entered past) (left boot past) 1 tokens (lowered tokens) follows (lowered-dues tokens) refl).dues q
      ∙ ap₂ (λ (n : ℕ) (ds : Deadlines). map (λ d. d - n) (of_queue ds q)) same (sym due)

-- what is known of the page before
pub record CanMove (tables : TableValues) (past : List Entry) (how : Move) (p : PageId) : Type 0 where
  pub some : 0 < length (movable tables.pages how)
  pub key : get_or (movable tables.pages how) 0 0 ≡ key_of p
  pub listed : Has (pages_of tables.boot) p
  pub from : place tables.boot past p ≡ moved_from how

active-is : (x : Place) → is_active x ≡ true → x ≡ Active
active-is Active h = refl
active-is Absent h = absurd (false≢true h)
active-is Inactive h = absurd (false≢true h)
active-is Stored h = absurd (false≢true h)

inactive-is : (x : Place) → is_inactive x ≡ true → x ≡ Inactive
inactive-is Inactive h = refl
inactive-is Absent h = absurd (false≢true h)
inactive-is Active h = absurd (false≢true h)
inactive-is Stored h = absurd (false≢true h)

pub record IsFirst (boot : System) (past : List Entry) (k : Place → Bool) (p : PageId) (keys : List ℕ) : Type 0 where
  pub some : 0 < length keys
  pub key : get_or keys 0 0 ≡ key_of p
  pub listed : Has (pages_of boot) p
  pub stands : k (place boot past p) ≡ true

is-first : (boot : System) (past : List Entry) (k : Place → Bool) (p : PageId) (keys : List ℕ) → KeepsPages boot past k (map page_of keys) → slice_get (map page_of keys) 0 ≡ Some p → IsFirst boot past k p keys
is-first boot past k p [] keeps h = absurd (cc)
is-first boot past k p (x ∷ xs) keeps h =
    let same : page_of x ≡ p = cc in
    record { some = omega arith; key = sym (key_of-page x) ∙ ap key_of same; listed = keeps.within p (inl same); stands = keeps.passes p (inl same) }

first-inactive : (tables : TableValues) (past : List Entry) (p : PageId) → Stands tables past → chosen_page tables.boot past Reactivated ≡ Some p → IsFirst tables.boot past is_inactive p (inactive_keys tables.pages)
first-inactive tables past p s h = is-first tables.boot past is_inactive p (inactive_keys tables.pages) s.pages.inactive_order (sym (first_inactive-is tables.boot past (map page_of (inactive_keys tables.pages)) s.pages.inactive_order) ∙ h)

chosen-can : (tables : TableValues) (past : List Entry) (how : Move) (p : PageId) → Stands tables past → chosen_page tables.boot past how ≡ Some p → CanMove tables past how p
chosen-can tables past Deactivated p s h =
    let f = is-first tables.boot past is_active p (active_keys tables.pages) s.pages.active_order (sym (first_active-is tables.boot past (map page_of (active_keys tables.pages)) s.pages.active_order) ∙ h) in
    record { some = f.some; key = f.key; listed = f.listed; from = active-is (place tables.boot past p) f.stands }
chosen-can tables past Reactivated p s h = let f = first-inactive tables past p s h in record { some = f.some; key = f.key; listed = f.listed; from = inactive-is (place tables.boot past p) f.stands }
chosen-can tables past Freed p s h = let f = first-inactive tables past p s h in record { some = f.some; key = f.key; listed = f.listed; from = inactive-is (place tables.boot past p) f.stands }
chosen-can tables past Compressed p s h = let f = first-inactive tables past p s h in record { some = f.some; key = f.key; listed = f.listed; from = inactive-is (place tables.boot past p) f.stands }
chosen-can tables past Requeued p s h = let f = first-inactive tables past p s h in record { some = f.some; key = f.key; listed = f.listed; from = inactive-is (place tables.boot past p) f.stands }

pub can-move : (tables : TableValues) (past : List Entry) (who : ℕ) (how : Move) (p : PageId) → Stands tables past → answer tables.boot past who Scan ≡ Moved how p → CanMove tables past how p
can-move tables past who how p s decided = chosen-can tables past how p s (scan-moved tables.boot past how p (scan-answer tables.boot past who how p (sym decided))).chosen

-- the tokens may be told of it
some_inactive : (boot : System) (past : List Entry) (p : PageId) (n : ℕ) → Has (pages_of boot) p → place boot past p ≡ Inactive → n ≡ inactive_pages boot past → 1 ≤ n
some_inactive boot past p n w from ahead =
    let c : bit (is_inactive (place boot past p)) ≤ inactive_pages boot past = has-counted (λ q. is_inactive (place boot past q)) (pages_of boot) p w in
    let one : bit (is_inactive (place boot past p)) ≡ 1 = ap (λ x. bit (is_inactive x)) from in
    omega arith

pub can-tell : (boot : System) (past : List Entry) (how : Move) (p : PageId) (n : ℕ) → IsValidBoot boot → IsLegal boot past → Has (pages_of boot) p → place boot past p ≡ moved_from how → n ≡ inactive_pages boot past → CanTell how n
can-tell boot past Deactivated p n v l w from ahead =
    let f : active_pages boot past + inactive_pages boot past ≤ boot.params.frames = frames-hold boot past l in
    let few : boot.params.frames ≤ 4096 = v.params.frames in
    omega arith
can-tell boot past Reactivated p n v l w from ahead = some_inactive boot past p n w from ahead
can-tell boot past Freed p n v l w from ahead = some_inactive boot past p n w from ahead
can-tell boot past Compressed p n v l w from ahead = some_inactive boot past p n w from ahead
can-tell boot past Requeued p n v l w from ahead = some_inactive boot past p n w from ahead

-- and what they are then
pub record AreTold (boot : System) (past : List Entry) (tokens : QueueDues) : Type 0 where
  pub ahead : tokens.ahead ≡ inactive_pages boot past
  pub dues : HasDues boot past tokens

told_left : (boot : System) (past : List Entry) (who : ℕ) (how : Move) (p : PageId) (tokens : QueueDues) → Has (pages_of boot) p → place boot past p ≡ Inactive → is_inactive (moved_to how) ≡ false → entered (moved_entry who how p ∷ past) ≡ entered past → AreTold boot past tokens → AreTold boot (moved_entry who how p ∷ past) (lowered tokens)
told_left boot past who how p tokens w from off none h =
    let i = inactive-moved boot past who how p w in
    let one : bit (is_inactive (place boot past p)) ≡ 1 = ap (λ x. bit (is_inactive x)) from in
    let zero_more : bit (is_inactive (moved_to how)) ≡ 0 = ap bit off in
    let less : inactive_pages boot (moved_entry who how p ∷ past) + 1 ≡ inactive_pages boot past = omega arith in
    let a = h.ahead in
    record {
      ahead = omega arith;
      dues = tokens-leave boot (moved_entry who how p) past tokens (same-deadlines boot (moved_entry who how p) past (moved-only who how p)) h.ahead h.dues none less;
    }

told : (boot : System) (past : List Entry) (who : ℕ) (how : Move) (p : PageId) (tokens : QueueDues) → Has (pages_of boot) p → place boot past p ≡ moved_from how → AreTold boot past tokens → AreTold boot (moved_entry who how p ∷ past) (told_of how tokens)
told boot past who Deactivated p tokens w from h =
    let i : inactive_pages boot (moved_entry who Deactivated p ∷ past) + bit (is_inactive (place boot past p)) ≡ inactive_pages boot past + 1 = inactive-moved boot past who Deactivated p w in
    let none : bit (is_inactive (place boot past p)) ≡ 0 = ap (λ x. bit (is_inactive x)) from in
    let more : inactive_pages boot (moved_entry who Deactivated p ∷ past) ≡ inactive_pages boot past + 1 = omega arith in
    let a = h.ahead in
    record {
      ahead = omega arith;
      dues = tokens-enter boot (moved_entry who Deactivated p) past tokens (same-deadlines boot (moved_entry who Deactivated p) past (moved-only who Deactivated p)) h.ahead h.dues (entered-deactivated who p past) more;
    }
told boot past who Reactivated p tokens w from h = told_left boot past who Reactivated p tokens w from refl (entered-kept (moved_entry who Reactivated p) past refl) h
told boot past who Freed p tokens w from h = told_left boot past who Freed p tokens w from refl (entered-kept (moved_entry who Freed p) past refl) h
told boot past who Compressed p tokens w from h = told_left boot past who Compressed p tokens w from refl (entered-kept (moved_entry who Compressed p) past refl) h
told boot past who Requeued p tokens w from h = told_left boot past who Requeued p tokens w from refl (entered-kept (moved_entry who Requeued p) past refl) h

counted : (who : ℕ) (how : Move) (p : PageId) (past : List Entry) → entered_by how (entered past) ≡ entered (moved_entry who how p ∷ past)
counted who Deactivated p past = sym (entered-deactivated who p past)
counted who Reactivated p past = sym (entered-kept (moved_entry who Reactivated p) past refl)
counted who Freed p past = sym (entered-kept (moved_entry who Freed p) past refl)
counted who Compressed p past = sym (entered-kept (moved_entry who Compressed p) past refl)
counted who Requeued p past = sym (entered-kept (moved_entry who Requeued p) past refl)

same_frames : (pages : Pages) (how : Move) → (moved_first pages how).frames ≡ pages.frames
same_frames pages Deactivated = refl
same_frames pages Reactivated = refl
same_frames pages Freed = refl
same_frames pages Compressed = refl
same_frames pages Requeued = refl

same_sizes : (pages : Pages) (how : Move) → (moved_first pages how).sizes ≡ pages.sizes
same_sizes pages Deactivated = refl
same_sizes pages Reactivated = refl
same_sizes pages Freed = refl
same_sizes pages Compressed = refl
same_sizes pages Requeued = refl

-- the account of the owner may be recounted
module _ (tables : TableValues) (past : List Entry) (who : ℕ) (how : Move) (p : PageId) (v : IsValidBoot tables.boot) (can : CanMove tables past how p) (s : Stands tables past) where
  pub move-chargeable : (t : ℕ) → owner_in tables.objects p.obj ≡ Some t → IsChargeable (object_at tables.objects p.obj).state (moved_from how) (moved_to how) tables.accounts t
  move-chargeable t owns =
      subst (λ x. IsChargeable (object_at tables.objects p.obj).state x (moved_to how) tables.accounts t) can.from
      (subst (λ y. IsChargeable (object_at tables.objects p.obj).state (place tables.boot past p) y tables.accounts t) (moved-place tables.boot past who how p)
      (recharge-can tables.boot past tables.objects tables.accounts (placed tables.boot past) (placed tables.boot (moved_entry who how p ∷ past)) p v s.objects can.listed (moved-other tables.boot past who how p) (charges-stand tables.boot past tables.accounts s.accounts) t owns))

  move-charged : ChargesHold tables.boot past (placed tables.boot (moved_entry who how p ∷ past)) (recharged (owner_in tables.objects p.obj) (object_at tables.objects p.obj).state (moved_from how) (moved_to how) tables.accounts)
  move-charged =
      subst (λ x. ChargesHold tables.boot past (placed tables.boot (moved_entry who how p ∷ past)) (recharged (owner_in tables.objects p.obj) (object_at tables.objects p.obj).state x (moved_to how) tables.accounts)) can.from
      (subst (λ y. ChargesHold tables.boot past (placed tables.boot (moved_entry who how p ∷ past)) (recharged (owner_in tables.objects p.obj) (object_at tables.objects p.obj).state (place tables.boot past p) y tables.accounts)) (moved-place tables.boot past who how p)
      (recharge-does tables.boot past tables.objects tables.accounts (placed tables.boot past) (placed tables.boot (moved_entry who how p ∷ past)) p v s.objects can.listed (moved-other tables.boot past who how p) (charges-stand tables.boot past tables.accounts s.accounts)))

  -- the tables stand for the history with the move
  pub move-stands : length tables.pages.queues ≡ 3 → IsTrue (fits tables.boot who Scan) → answer tables.boot past who Scan ≡ Moved how p → Stands (record tables { pages = moved_first tables.pages how; tokens = told_of how tables.tokens; accounts = recharged (owner_in tables.objects p.obj) (object_at tables.objects p.obj).state (moved_from how) (moved_to how) tables.accounts; entered = entered_by how tables.entered }) (moved_entry who how p ∷ past)
  move-stands three fit decided =
      let boot = tables.boot in
      let e = moved_entry who how p in
      let o = moved-only who how p in
      let heard = told boot past who how p tables.tokens can.listed can.from (record { ahead = s.queues.ahead; dues = s.queues.dues }) in
      only-pages-stand tables e past (moved_first tables.pages how) (told_of how tables.tokens) tables.objects _ (entered_by how tables.entered) o
      (fit, sym decided, s.legal) s
      (stands-hold boot (e ∷ past) (moved_first tables.pages how) (entered_by how tables.entered)
      (same_frames tables.pages how ∙ s.pages.frames) (same_sizes tables.pages how ∙ s.pages.page_sizes)
      (ap (entered_by how) s.pages.entered ∙ counted who how p past)
      (moved-hold boot past who how p v can.listed tables.pages three can.key (hold-stands boot past tables.pages tables.entered s.pages)))
      heard.ahead heard.dues
      (kept-objects boot e past tables.objects (same-maps boot e past o) (same-mapped boot e past o) (same-state boot e past o) (λ q. written-kept e past q refl) s.objects)
      (charged-stand boot e past o _ move-charged)

pub move-declared : (tables : TableValues) (past : List Entry) (how : Move) (p : PageId) → CanMove tables past how p → Stands tables past → p.obj < length tables.objects
move-declared tables past how p can s = subst (λ n. p.obj < n) (sym s.objects.object_count) (page-object tables.boot p can.listed)
