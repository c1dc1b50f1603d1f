-- What the scan answers.
use Rattle.std.specs.Prelude.{List, Bool, not, Option, Some, None, if◌then◌else◌, nat_lt, nat_le, filter}
use Rattle.std.specs.Option.{option_map_or}
use Rattle.kern_ids.specs.declared.entries.Entry.{Entry}
use Rattle.kern_ids.specs.declared.ids.PageId.{PageId}
use Rattle.kern_ids.specs.declared.replies.Reply.{Reply}
use Rattle.kern_ids.specs.declared.replies.Reply.TheVariants.{Enough, Moved, Purged, Idle}
use Rattle.kern_ids.specs.declared.replies.Move.TheVariants.{Deactivated, Reactivated, Freed, Compressed, Requeued}
use Rattle.kernel_model.specs.System.{System}
use Rattle.kernel_model.specs.Pages.{place, stamp, is_active, is_inactive, pages_of, free, inactive_pages, stored_pages, touched_since, written}
use Rattle.kernel_model.specs.Choice.{pick}
use Rattle.kernel_model.specs.Lists.{least, pair_lt}

unfoldable pub stamp_lt : System → List Entry → PageId → PageId → Bool
stamp_lt boot past p q = pair_lt (stamp boot past p) (stamp boot past q)

-- the Active and the Inactive page of least stamp
unfoldable pub first_active : System → List Entry → Option PageId
first_active boot past = least (stamp_lt boot past) (filter (λ p. is_active (place boot past p)) (pages_of boot))

unfoldable pub first_inactive : System → List Entry → Option PageId
first_inactive boot past = least (stamp_lt boot past) (filter (λ p. is_inactive (place boot past p)) (pages_of boot))

-- what is done with the first Inactive page
abbrev pub scan_inactive : System → List Entry → PageId → Reply
scan_inactive boot past p =
    if touched_since boot past p then Moved Reactivated p
    else if not (written past p) then Moved Freed p
    else if nat_lt (stored_pages boot past) boot.params.store then Moved Compressed p
    else Moved Requeued p

abbrev pub scan_rest : System → List Entry → Reply
scan_rest boot past = elim (pick boot past) [
  | Some o ↦ Purged o
  | None ↦ option_map_or (scan_inactive boot past) (first_inactive boot past) Idle
]

unfoldable pub scan : System → List Entry → Reply
scan boot past =
    if nat_le boot.params.target (free boot past) then Enough
    else if nat_lt (inactive_pages boot past) boot.params.inactive then option_map_or (Moved Deactivated) (first_active boot past) (scan_rest boot past)
    else scan_rest boot past
