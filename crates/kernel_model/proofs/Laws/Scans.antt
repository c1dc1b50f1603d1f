-- What a move of the scan tells of its page.
use Rattle.std.proofs.Common.{◌≡◌, ℕ, ◌<◌, List, Option, Some, None, refl, sym, ap, ◌∙◌, Bool, true, false, not, ◌||◌, filter, if◌then◌else◌, nat_lt, nat_le, arith}
use Rattle.std.specs.Option.{option_map_or}
use Rattle.std.proofs.lemmas.Bool.Decides.{nat_tests}
use Rattle.std.proofs.lemmas.Bool.{false≢true}
use Rattle.kern_ids.specs.declared.entries.Entry.{Entry}
use Rattle.kern_ids.specs.declared.ids.PageId.{PageId}
use Rattle.kern_ids.specs.declared.replies.Move.{Move}
use Rattle.kern_ids.specs.declared.replies.Move.TheVariants.{Deactivated, Reactivated, Freed, Compressed, Requeued}
use Rattle.kern_ids.specs.declared.replies.Reply.TheVariants.{Enough, Moved, Purged, Idle}
use Rattle.kernel_model.specs.System.{System}
use Rattle.kernel_model.specs.Pages.{place, is_active, is_inactive, pages_of, free, inactive_pages, stored_pages, touched_since, written}
use Rattle.kernel_model.specs.Choice.{pick}
use Rattle.kernel_model.specs.Lists.{least}
use Rattle.kernel_model.specs.Scan.{scan, scan_rest, scan_inactive, first_active, first_inactive, stamp_lt}
use Rattle.kernel_model.specs.Laws.Frames.{is_in, is_compressing}
use Rattle.kernel_model.proofs.Laws.Order.{find-has, filter-has}

-- which page is moved, by the move
abbrev pub chosen_page : System → List Entry → Move → Option PageId
chosen_page boot past Deactivated = first_active boot past
chosen_page boot past _ = first_inactive boot past

pub record IsScanMove (boot : System) (past : List Entry) (move : Move) (p : PageId) : Type 0 where
  pub chosen : chosen_page boot past move ≡ Some p
  pub room : is_compressing move ≡ true → stored_pages boot past < boot.params.store

nat_below : (a b : ℕ) → nat_lt a b ≡ true → a < b
nat_below a b h = grind (arith, nat_tests)

is_chosen : (boot : System) (past : List Entry) (move : Move) (p q : PageId) (m : Move) → first_inactive boot past ≡ Some p → chosen_page boot past m ≡ first_inactive boot past → (is_compressing m ≡ true → stored_pages boot past < boot.params.store) → Moved m p ≡ Moved move q → IsScanMove boot past move q
is_chosen boot past move p q m f c r h =
    let same : m ≡ move = cc in
    let page : p ≡ q = cc in
    record {
      chosen = ap (chosen_page boot past) (sym same) ∙ c ∙ f ∙ ap Some page;
      room = λ k. r (ap is_compressing same ∙ k);
    }

moved_inactive : (boot : System) (past : List Entry) (move : Move) (p q : PageId) (t w s : Bool) → first_inactive boot past ≡ Some p → (s ≡ true → stored_pages boot past < boot.params.store) → (if t then Moved Reactivated p else if w then Moved Freed p else if s then Moved Compressed p else Moved Requeued p) ≡ Moved move q → IsScanMove boot past move q
moved_inactive boot past move p q true w s f r h = is_chosen boot past move p q Reactivated f refl (λ k. absurd (false≢true k)) h
moved_inactive boot past move p q false true s f r h = is_chosen boot past move p q Freed f refl (λ k. absurd (false≢true k)) h
moved_inactive boot past move p q false false true f r h = is_chosen boot past move p q Compressed f refl (λ k. r refl) h
moved_inactive boot past move p q false false false f r h = is_chosen boot past move p q Requeued f refl (λ k. absurd (false≢true k)) h

moved_first : (boot : System) (past : List Entry) (move : Move) (q : PageId) (first : Option PageId) → first_inactive boot past ≡ first → option_map_or (scan_inactive boot past) first Idle ≡ Moved move q → IsScanMove boot past move q
moved_first boot past move q None f h = absurd (cc)
moved_first boot past move q (Some p) f h = moved_inactive boot past move p q (touched_since boot past p) (not (written past p)) (nat_lt (stored_pages boot past) boot.params.store) f (λ k. nat_below (stored_pages boot past) boot.params.store k) h

moved_rest : (boot : System) (past : List Entry) (move : Move) (q : PageId) (o : Option ℕ) → (elim o [ Some o ↦ Purged o | None ↦ option_map_or (scan_inactive boot past) (first_inactive boot past) Idle ]) ≡ Moved move q → IsScanMove boot past move q
moved_rest boot past move q (Some o) h = absurd (cc)
moved_rest boot past move q None h = moved_first boot past move q (first_inactive boot past) refl h

moved_second : (boot : System) (past : List Entry) (move : Move) (q : PageId) (first : Option PageId) → first_active boot past ≡ first → option_map_or (Moved Deactivated) first (scan_rest boot past) ≡ Moved move q → IsScanMove boot past move q
moved_second boot past move q None f h = moved_rest boot past move q (pick boot past) h
moved_second boot past move q (Some p) f h =
    let same : Deactivated ≡ move = cc in
    let page : p ≡ q = cc in
    record {
      chosen = ap (chosen_page boot past) (sym same) ∙ f ∙ ap Some page;
      room = λ k. absurd (false≢true (ap is_compressing same ∙ k));
    }

moved_scan : (boot : System) (past : List Entry) (move : Move) (q : PageId) (a b : Bool) → (if a then Enough else if b then option_map_or (Moved Deactivated) (first_active boot past) (scan_rest boot past) else scan_rest boot past) ≡ Moved move q → IsScanMove boot past move q
moved_scan boot past move q true b h = absurd (cc)
moved_scan boot past move q false true h = moved_second boot past move q (first_active boot past) refl h
moved_scan boot past move q false false h = moved_rest boot past move q (pick boot past) h

pub scan-moved : (boot : System) (past : List Entry) (move : Move) (p : PageId) → scan boot past ≡ Moved move p → IsScanMove boot past move p
unfolding scan
scan-moved boot past move p h = moved_scan boot past move p (nat_le boot.params.target (free boot past)) (nat_lt (inactive_pages boot past) boot.params.inactive) h

-- the least of those that pass is one of them
pub least-passes : {A : Type 0} (less : A → A → Bool) (p : A → Bool) (xs : List A) (x : A) → least less (filter p xs) ≡ Some x → p x ≡ true
least-passes less p xs x h = (filter-has p xs x (find-has _ (filter p xs) x h).0).1

pub first_active-in : (boot : System) (past : List Entry) (p : PageId) → first_active boot past ≡ Some p → is_active (place boot past p) ≡ true
unfolding first_active
first_active-in boot past p h = least-passes (stamp_lt boot past) (λ p. is_active (place boot past p)) (pages_of boot) p h

pub first_inactive-in : (boot : System) (past : List Entry) (p : PageId) → first_inactive boot past ≡ Some p → is_inactive (place boot past p) ≡ true
unfolding first_inactive
first_inactive-in boot past p h = least-passes (stamp_lt boot past) (λ p. is_inactive (place boot past p)) (pages_of boot) p h

or_true : (b : Bool) → (b || true) ≡ true
or_true true = refl
or_true false = refl

-- a page that the scan moves was in a frame
pub scan_move-in : (boot : System) (past : List Entry) (move : Move) (p : PageId) → chosen_page boot past move ≡ Some p → is_in (place boot past p) ≡ true
scan_move-in boot past Deactivated p h = rw (first_active-in boot past p h) refl
scan_move-in boot past Reactivated p h = rw (first_inactive-in boot past p h) (or_true (is_active (place boot past p)))
scan_move-in boot past Freed p h = rw (first_inactive-in boot past p h) (or_true (is_active (place boot past p)))
scan_move-in boot past Compressed p h = rw (first_inactive-in boot past p h) (or_true (is_active (place boot past p)))
scan_move-in boot past Requeued p h = rw (first_inactive-in boot past p h) (or_true (is_active (place boot past p)))
