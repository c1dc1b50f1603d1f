-- The pages as the scan sees them.
use Rattle.std.proofs.Common.{◌≡◌, ℕ, List, filter, find, Bool, true, false, Option, Some, None, option_map, refl, ap, ◌∙◌, if◌then◌else◌, nat_le, nat_lt, ◌+◌, ◌<◌, [], ◌∷◌, length, take, get_or, zero, suc, arith}
use Rattle.std.specs.Option.{option_map_or}
use Rattle.kern_ids.specs.declared.entries.Entry.{Entry}
use Rattle.kern_ids.specs.declared.ids.PageId.{PageId}
use Rattle.kern_ids.specs.declared.replies.Reply.{Reply}
use Rattle.kern_ids.specs.declared.replies.Reply.TheVariants.{Enough, Moved, Idle}
use Rattle.kern_ids.specs.declared.replies.Move.TheVariants.{Deactivated}
use Rattle.kernel_model.specs.System.{System}
use Rattle.kernel_model.specs.Pages.{placed, pages_of, free, inactive_pages, stored_pages, is_active, is_inactive}
use Rattle.kernel_model.specs.Lists.{least}
use Rattle.kernel_model.specs.Answers.{last_or}
use Rattle.kernel_model.specs.Scan.{scan, stamp_lt, first_active, first_inactive, scan_inactive}
use Rattle.slow_kernel.specs.declared.pages.PageRow.{PageRow}
use Rattle.slow_kernel.specs.Tables.{page_row, all_rows}
use Rattle.slow_kernel.specs.ScanTables.{row_there, row_older, row_oldest, row_moved, inactive_reply, rest_reply, short_reply}
use Rattle.slow_kernel.proofs.Maps.{least_filter, filter_map, least_map}

oldest-active : (boot : System) (past : List Entry) (rows : List PageRow) → rows ≡ all_rows boot past → find (row_oldest rows true) rows ≡ option_map (page_row boot past) (first_active boot past)
unfolding row_oldest first_active stamp_lt
oldest-active boot past rows e =
    ap (λ rs. find (row_oldest rs true) rs) e
    ∙ least_filter row_older (row_there true) (all_rows boot past)
    ∙ ap (least row_older) (filter_map (row_there true) (page_row boot past) (pages_of boot))
    ∙ least_map row_older (page_row boot past) (filter (λ p. is_active (placed boot past p).place) (pages_of boot))

oldest-inactive : (boot : System) (past : List Entry) (rows : List PageRow) → rows ≡ all_rows boot past → find (row_oldest rows false) rows ≡ option_map (page_row boot past) (first_inactive boot past)
unfolding row_oldest first_inactive stamp_lt
oldest-inactive boot past rows e =
    ap (λ rs. find (row_oldest rs false) rs) e
    ∙ least_filter row_older (row_there false) (all_rows boot past)
    ∙ ap (least row_older) (filter_map (row_there false) (page_row boot past) (pages_of boot))
    ∙ least_map row_older (page_row boot past) (filter (λ p. is_inactive (placed boot past p).place) (pages_of boot))

back : (boot : System) (past : List Entry) (o : Option PageId) → option_map (λ (row : PageRow). row.page) (option_map (page_row boot past) o) ≡ o
back boot past None = refl
back boot past (Some p) = refl

pub first_active_rows : (boot : System) (past : List Entry) (rows : List PageRow) → rows ≡ all_rows boot past → option_map (λ (row : PageRow). row.page) (find (row_oldest rows true) rows) ≡ first_active boot past
first_active_rows boot past rows e = ap (option_map (λ (row : PageRow). row.page)) (oldest-active boot past rows e) ∙ back boot past (first_active boot past)

over : (boot : System) (past : List Entry) (o : Option PageId) → option_map_or (λ (row : PageRow). row_moved row (nat_lt (stored_pages boot past) boot.params.store)) (option_map (page_row boot past) o) Idle ≡ option_map_or (scan_inactive boot past) o Idle
over boot past None = refl
over boot past (Some p) = refl

pub scan_inactive_rows : (boot : System) (past : List Entry) (rows : List PageRow) → rows ≡ all_rows boot past → option_map_or (λ (row : PageRow). row_moved row (nat_lt (stored_pages boot past) boot.params.store)) (find (row_oldest rows false) rows) Idle ≡ inactive_reply boot past
unfolding inactive_reply
scan_inactive_rows boot past rows e =
    ap (λ o. option_map_or (λ (row : PageRow). row_moved row (nat_lt (stored_pages boot past) boot.params.store)) o Idle) (oldest-inactive boot past rows e)
    ∙ over boot past (first_inactive boot past)

choice : (b : Bool) (o : Option PageId) (f : PageId → Reply) (rest : Reply) → (if b then option_map_or f o rest else rest) ≡ option_map_or f (if b then o else None) rest
choice true o f rest = refl
choice false o f rest = refl

pub scan_from : (boot : System) (past : List Entry) → scan boot past ≡ (if nat_le boot.params.target (free boot past) then Enough else short_reply boot past)
unfolding scan inactive_reply
scan_from boot past =
    ap (λ reply. if nat_le boot.params.target (free boot past) then Enough else reply)
    (choice (nat_lt (inactive_pages boot past) boot.params.inactive) (first_active boot past) (Moved Deactivated) (rest_reply boot past))

pub last_more : (xs : List ℕ) (i d e : ℕ) → i < length xs → last_or (take (i + 1) xs) d ≡ get_or xs i e
last_more [] i d e l = absurd (omega arith)
last_more (x ∷ xs) zero d e l = refl
last_more (x ∷ xs) (suc i) d e l =
    let k : suc i + 1 ≡ suc (i + 1) = omega arith in
    ap (λ n. last_or (take n (x ∷ xs)) d) k ∙ last_more xs i x e (omega arith)
