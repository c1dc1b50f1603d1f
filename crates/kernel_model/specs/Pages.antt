-- Where the pages are, since when, and how many frames are free.
use Rattle.std.specs.Prelude.{ℕ, suc, ◌+◌, ◌-◌, List, [], ◌∷◌, length, Bool, true, false, ◌&&◌, ◌||◌, not, Option, Some, None, if◌then◌else◌, nat_eq, count_by, flat_map, map, option_map, slice_get}
use Rattle.std.specs.List.{range_with_len}
use Rattle.kern_ids.specs.declared.entries.Entry.{Entry}
use Rattle.kern_ids.specs.declared.ids.PageId.{PageId}
use Rattle.kern_ids.specs.declared.replies.Reply.{Reply}
use Rattle.kern_ids.specs.declared.replies.Reply.TheVariants.{Moved}
use Rattle.kern_ids.specs.declared.replies.Move.{Move}
use Rattle.kern_ids.specs.declared.replies.Move.TheVariants.{Deactivated, Reactivated, Freed, Compressed, Requeued}
use Rattle.kernel_model.specs.declared.place.Place.{Place}
use Rattle.kernel_model.specs.declared.place.Place.TheVariants.{Absent, Active, Inactive, Stored}
use Rattle.kernel_model.specs.System.{System}
use Rattle.kernel_model.specs.Newest.{newest}
use Rattle.kernel_model.specs.Events.{accepted, write_covers, read_covers}
use Rattle.kernel_model.specs.Mapping.{unmaps}
use Rattle.kernel_model.specs.State.{state, is_empty}
use Rattle.kernel_model.specs.Contents.{empties, empties_from}
use Rattle.kern_ids.specs.declared.calls.State.{State}
use Rattle.kernel_model.specs.declared.place.Placed.{Placed}
use Rattle.std.specs.Option.{unwrap_or, option_map_or}
use Rattle.kernel_model.specs.Lists.{some_if}

-- an accepted Write covering a byte of the page, or an accepted Read covering one whose object wasn't EMPTY
abbrev pub touches_from : State → PageId → Entry → Bool
touches_from state p e = accepted e && (write_covers p e.call || (read_covers p e.call && not (is_empty state)))

abbrev pub touches : List Entry → Entry → PageId → Bool
touches before e p = touches_from (state before p.obj) p e

abbrev pub same_page : PageId → PageId → Bool
same_page p q = nat_eq p.obj q.obj && nat_eq p.page q.page

-- where the scan moves a page
abbrev pub moved_to : Move → Place
moved_to Deactivated = Inactive
moved_to Reactivated = Active
moved_to Freed = Absent
moved_to Compressed = Stored
moved_to Requeued = Active

abbrev pub move_of : PageId → Reply → Option Place
move_of p (Moved move q) = some_if (same_page p q) (moved_to move)
move_of p _ = None

abbrev pub is_out : Place → Bool
is_out Absent = true
is_out Stored = true
is_out _ = false

abbrev pub is_active : Place → Bool
is_active Active = true
is_active _ = false

abbrev pub is_inactive : Place → Bool
is_inactive Inactive = true
is_inactive _ = false

abbrev pub is_stored : Place → Bool
is_stored Stored = true
is_stored _ = false

-- the place that an entry gives a page, whose object was in this state, and was unmapped by it or not
abbrev pub place_given : State → Bool → PageId → Place → Entry → Option Place
place_given state unmapped p was e =
    if empties_from state p.obj e || unmapped then Some Absent
    else if touches_from state p e && is_out was then Some Active
    else move_of p e.reply

abbrev pub says_placed : System → PageId → List Entry → Placed → Entry → Option Placed
says_placed boot p before was e =
    option_map (λ place. record { place = place; number = length before }) (place_given (state before p.obj) (unmaps boot before e p.obj) p was.place e)

-- a page's place after entry n, from the place before
unfoldable pub next_placed : State → Bool → ℕ → PageId → Placed → Entry → Placed
next_placed state unmapped n p was e =
    unwrap_or (option_map (λ place. record { place = place; number = n }) (place_given state unmapped p was.place e)) was

-- by the newest entry that placed the page
unfoldable pub placed : System → List Entry → PageId → Placed
placed boot past p = newest (says_placed boot p) (record { place = Absent; number = 0 }) past

abbrev pub place : System → List Entry → PageId → Place
place boot past p = (placed boot past p).place

-- stamps are compared as pairs
abbrev pub stamp : System → List Entry → PageId → ℕ × ℕ
stamp boot past p = ((placed boot past p).number, p.page)

-- all pages, by their objects
unfoldable pub pages_of_size : ℕ → ℕ → List PageId
pages_of_size o n = map (λ k. record { obj = o; page = k }) (range_with_len 0 n)

abbrev pub pages_in : System → ℕ → ℕ
pages_in boot o = option_map_or (λ object. object.pages) (slice_get boot.objects o) 0

abbrev pub pages_of : System → List PageId
pages_of boot = flat_map (λ o. pages_of_size o (pages_in boot o)) (range_with_len 0 (length boot.objects))

-- the numbers of pages in a place
abbrev pub active_pages : System → List Entry → ℕ
active_pages boot past = count_by (λ p. is_active (place boot past p)) (pages_of boot)

abbrev pub inactive_pages : System → List Entry → ℕ
inactive_pages boot past = count_by (λ p. is_inactive (place boot past p)) (pages_of boot)

abbrev pub stored_pages : System → List Entry → ℕ
stored_pages boot past = count_by (λ p. is_stored (place boot past p)) (pages_of boot)

unfoldable pub free : System → List Entry → ℕ
free boot past = boot.params.frames - (active_pages boot past + inactive_pages boot past)

abbrev pub is_deactivation : Reply → Bool
is_deactivation (Moved Deactivated p) = true
is_deactivation _ = false

-- how many pages were ever deactivated
unfoldable pub entered : List Entry → ℕ
entered past = count_by (λ e. is_deactivation e.reply) past

unfoldable pub next_entered : ℕ → Entry → ℕ
next_entered was e = if is_deactivation e.reply then was + 1 else was

-- and how many of these aren't Inactive any more
unfoldable pub left : System → List Entry → ℕ
left boot past = entered past - inactive_pages boot past

-- an entry newer than the one in the page's stamp touches it
abbrev pub says_touched : System → PageId → List Entry → Bool → Entry → Option Bool
says_touched boot p before was e =
    if empties p.obj before e || unmaps boot before e p.obj then Some false
    else if touches before e p then Some (not (is_out (place boot before p)))
    else some_if (Rattle.std.specs.Prelude.is_some (move_of p e.reply)) false

unfoldable pub touched_since : System → List Entry → PageId → Bool
touched_since boot past p = newest (says_touched boot p) false past

-- an accepted Write newer than the newest emptying of its object covers a byte of the page
abbrev pub says_written : PageId → List Entry → Bool → Entry → Option Bool
says_written p before was e =
    if empties p.obj before e then Some false else some_if (accepted e && write_covers p e.call) true

unfoldable pub written : List Entry → PageId → Bool
written past p = newest (says_written p) false past
