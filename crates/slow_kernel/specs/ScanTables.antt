-- The pages as the scan sees them.
use Rattle.std.specs.Prelude.{List, Bool, ◌&&◌, not, Option, Some, None, if◌then◌else◌, nat_lt}
use Rattle.std.specs.Option.{option_map_or}
use Rattle.std.specs.List.{list_any}
use Rattle.kern_ids.specs.declared.entries.Entry.{Entry}
use Rattle.kern_ids.specs.declared.ids.PageId.{PageId}
use Rattle.kern_ids.specs.declared.replies.Reply.{Reply}
use Rattle.kern_ids.specs.declared.replies.Reply.TheVariants.{Moved, Purged, Idle}
use Rattle.kern_ids.specs.declared.replies.Move.TheVariants.{Deactivated, Reactivated, Freed, Compressed, Requeued}
use Rattle.kernel_model.specs.System.{System}
use Rattle.kernel_model.specs.Lists.{pair_lt}
use Rattle.kernel_model.specs.Pages.{is_active, is_inactive, inactive_pages}
use Rattle.kernel_model.specs.Scan.{scan_inactive, first_inactive, first_active}
use Rattle.kernel_model.specs.Choice.{pick}
use Rattle.slow_kernel.specs.declared.pages.PageRow.{PageRow}

abbrev pub row_there : Bool → PageRow → Bool
row_there active row = if active then is_active row.facts.placed.place else is_inactive row.facts.placed.place

abbrev pub row_older : PageRow → PageRow → Bool
row_older a b = pair_lt (a.facts.placed.number, a.page.page) (b.facts.placed.number, b.page.page)

-- an Active or Inactive page than which none of them is older
unfoldable pub row_oldest : List PageRow → Bool → PageRow → Bool
row_oldest rows active row = row_there active row && not (list_any (λ other. row_there active other && row_older other row) rows)

abbrev pub row_moved : PageRow → Bool → Reply
row_moved row room =
    if row.facts.touched then Moved Reactivated row.page
    else if not row.facts.written then Moved Freed row.page
    else if room then Moved Compressed row.page
    else Moved Requeued row.page

-- what is done with the first Inactive page
unfoldable pub inactive_reply : System → List Entry → Reply
inactive_reply boot past = option_map_or (scan_inactive boot past) (first_inactive boot past) Idle

-- what is done where no page is deactivated
abbrev pub rest_reply : System → List Entry → Reply
rest_reply boot past = elim (pick boot past) [ Some o ↦ Purged o | None ↦ inactive_reply boot past ]

-- the page that is deactivated
abbrev pub deactivated : System → List Entry → Option PageId
deactivated boot past = if nat_lt (inactive_pages boot past) boot.params.inactive then first_active boot past else None

-- what the scan answers where too few frames are free
abbrev pub short_reply : System → List Entry → Reply
short_reply boot past = option_map_or (Moved Deactivated) (deactivated boot past) (rest_reply boot past)
