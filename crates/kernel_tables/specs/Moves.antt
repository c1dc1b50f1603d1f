-- What a touch, a fault and a move of the scan make of the pages, of the tokens and of the account of an owner.
use Rattle.std.specs.Prelude.{◌≡◌, ℕ, ◌+◌, ◌-◌, ◌*◌, ◌/◌, ◌^◌, ◌<◌, ◌≤◌, Bool, true, false, ◌&&◌, List, length, set, Option, Some, None, option_map, slice_get, slice_index_or, if◌then◌else◌}
use Rattle.std.specs.Option.{option_map_or}
use Rattle.kern_ids.specs.declared.calls.State.{State}
use Rattle.kern_ids.specs.declared.ids.PageId.{PageId}
use Rattle.kern_ids.specs.declared.replies.Counts.{Counts}
use Rattle.kern_ids.specs.declared.replies.Reply.{Reply}
use Rattle.kern_ids.specs.declared.replies.Reply.TheVariants.{Enough, Moved, Purged, Idle}
use Rattle.kern_ids.specs.declared.replies.Move.{Move}
use Rattle.kern_ids.specs.declared.replies.Move.TheVariants.{Deactivated, Reactivated, Freed, Compressed, Requeued}
use Rattle.kernel_model.specs.declared.place.Place.{Place}
use Rattle.kernel_model.specs.declared.place.Place.TheVariants.{Active, Inactive}
use Rattle.kernel_model.specs.Groups.{is_volatile_state}
use Rattle.kernel_model.specs.Counted.{is_nonvolatile_state}
use Rattle.kernel_model.specs.System.{System}
use Rattle.kernel_model.specs.Pages.{is_stored, pages_in}
use Rattle.kernel_model.specs.Laws.Frames.{bit, is_in}
use Rattle.page_queues.specs.Pages.{Pages, key_of, active, inactive, placed, absented, place, page_of, free, IsPage, is_out, is_inactive}
use Rattle.pageout_scan.specs.declared.plan.ScanPlan.{ScanPlan}
use Rattle.pageout_scan.specs.declared.plan.ScanPlan.TheVariants.{Enough as PlanEnough, Deactivate, Purge, Reactivate, Free, Compress, Requeue, Idle as PlanIdle}
use Rattle.vm_object.specs.Objects.{Object, object_at, owner, is_written, changed, with_written}
use Rattle.token_list.specs.Dues.{lowered_by}
use Rattle.ripen_advance.specs.Queues.{QueueDues}
use Rattle.task_ledger.specs.declared.account.Account.{Account}
use Rattle.task_ledger.specs.Accounts.{account_of, counts_plus, counts_less, with_counts, AreAtMost, AreWithin}

-- a page that has no frame becomes Active, placed last, and one that is Inactive is marked
abbrev pub touched : Pages → PageId → Pages
touched pages p =
    if is_out (place pages p) then placed pages (key_of p) 0
    else if is_inactive (place pages p) then record pages { marks = set pages.marks (key_of p) true }
    else pages

-- the place of a page after a touch
abbrev pub place_touched : Place → Place
place_touched was = if is_out was then Active else was

-- the place from which the scan moves a page
abbrev pub moved_from : Move → Place
moved_from Deactivated = Active
moved_from _ = Inactive

-- the pages in the place from which the scan moves one
abbrev pub movable : Pages → Move → List ℕ
movable pages Deactivated = active pages
movable pages _ = inactive pages

-- the first of them moves
abbrev pub moved_first : Pages → Move → Pages
moved_first pages Deactivated = placed pages (slice_index_or (active pages) 0 0) 1
moved_first pages Reactivated = placed pages (slice_index_or (inactive pages) 0 0) 0
moved_first pages Freed = absented pages (slice_index_or (inactive pages) 0 0)
moved_first pages Compressed = placed pages (slice_index_or (inactive pages) 0 0) 2
moved_first pages Requeued = placed pages (slice_index_or (inactive pages) 0 0) 0

-- the tokens once a page has entered the inactive queue, and once one has left it
abbrev pub told_of : Move → QueueDues → QueueDues
told_of Deactivated tokens = record tokens { ahead = tokens.ahead + 1 }
told_of _ tokens = record {
  obsolete = lowered_by 1 tokens.obsolete;
  lifo = lowered_by 1 tokens.lifo;
  fifo = lowered_by 1 tokens.fifo;
  ahead = tokens.ahead - 1;
}

-- how many pages were ever deactivated, after a move
abbrev pub entered_by : Move → ℕ → ℕ
entered_by Deactivated n = n + 1
entered_by _ n = n

-- what one page in a place adds to the counts of the owner of its object, by the object's state
abbrev pub one_page : State → Place → Counts
one_page s x = record {
  res_non = bit (is_in x && is_nonvolatile_state s);
  res_vol = bit (is_in x && is_volatile_state s);
  com_non = bit (is_stored x && is_nonvolatile_state s);
  com_vol = bit (is_stored x && is_volatile_state s);
  footprint = bit (is_in x && is_nonvolatile_state s) + bit (is_stored x && is_nonvolatile_state s);
}

-- counts with one page in another place
abbrev pub recounted : State → Place → Place → Counts → Counts
recounted s was now counts = counts_plus (counts_less counts (one_page s was)) (one_page s now)

-- the accounts after a page of an object of this owner, if it has one, went to another place
abbrev pub recharged : Option ℕ → State → Place → Place → List Account → List Account
recharged None s was now accounts = accounts
recharged (Some t) s was now accounts = with_counts accounts t (recounted s was now (account_of accounts t).counts)

-- what is asked of the account of an owner before it is recounted
pub record IsChargeable (s : State) (was now : Place) (accounts : List Account) (t : ℕ) : Type 0 where
  pub task : t < length accounts
  pub charged : AreAtMost (one_page s was) (account_of accounts t).counts
  pub room : AreWithin (recounted s was now (account_of accounts t).counts)

-- what is asked of the tokens before a move: room for a page more, or a page that can leave
abbrev pub CanTell : Move → ℕ → Type 0
CanTell Deactivated ahead = ahead + 1 < 2 ^ 32
CanTell _ ahead = 1 ≤ ahead

-- a page of an object, and those that have the first and the last byte of a range of it
abbrev pub page_at : ℕ → ℕ → PageId
page_at o page = record { obj = o; page = page }

abbrev pub first_page : ℕ → ℕ → PageId
first_page o off = page_at o (off / 4096)

abbrev pub last_page : ℕ → ℕ → ℕ → PageId
last_page o off len = page_at o ((off + len - 1) / 4096)

-- the pages after a touch of both
abbrev pub touched_range : Pages → ℕ → ℕ → ℕ → Pages
touched_range pages o off len = touched (touched pages (first_page o off)) (last_page o off len)

-- the accounts after a touch of one page of an object of this owner, and of both
abbrev pub charged_touch : Option ℕ → State → Pages → PageId → List Account → List Account
charged_touch w s pages p accounts = recharged w s (place pages p) (place_touched (place pages p)) accounts

abbrev pub charged_range : Option ℕ → State → Pages → ℕ → ℕ → ℕ → List Account → List Account
charged_range w s pages o off len accounts = charged_touch w s (touched pages (first_page o off)) (last_page o off len) (charged_touch w s pages (first_page o off) accounts)

-- a range of 1 to 256 bytes that lies in the pages of a declared object
pub record IsRange (boot : System) (o off len : ℕ) : Type 0 where
  pub object : o < length boot.objects
  pub some : 0 < len
  pub few : len ≤ 256
  pub inside : off + len ≤ 4096 * pages_in boot o

-- what is asked before a touch of a page: a free frame where it has none, and room in the account of its owner
pub record CanTouch (pages : Pages) (objects : List Object) (accounts : List Account) (p : PageId) : Type 0 where
  pub page : IsPage pages p
  pub frame : is_out (place pages p) ≡ true → 0 < free pages
  pub object : p.obj < length objects
  pub charged : (t : ℕ) → owner objects p.obj ≡ Some t → IsChargeable (object_at objects p.obj).state (place pages p) (place_touched (place pages p)) accounts t

-- the objects after the pages of a range were written
abbrev pub written_range : ℕ → ℕ → ℕ → List Object → List Object
written_range o off len objects = changed (changed objects o (with_written (off / 4096))) o (with_written ((off + len - 1) / 4096))

-- whether the Inactive page that was placed first is a written one
abbrev pub first_written : Pages → List Object → Bool
first_written pages objects = option_map_or (λ key. is_written objects (page_of key).obj (page_of key).page) (slice_get (inactive pages) 0) false

-- the first page of a queue
abbrev pub first_of : List ℕ → Option PageId
first_of keys = option_map page_of (slice_get keys 0)

-- a move of a page, where there is one
abbrev pub reply_moved : Move → Option PageId → Reply
reply_moved how first = option_map_or (Moved how) first Idle

-- what is answered to a scan with a plan
abbrev pub reply_of : Pages → ScanPlan → Reply
reply_of pages PlanEnough = Enough
reply_of pages Deactivate = reply_moved Deactivated (first_of (active pages))
reply_of pages (Purge o) = Purged o
reply_of pages Reactivate = reply_moved Reactivated (first_of (inactive pages))
reply_of pages Free = reply_moved Freed (first_of (inactive pages))
reply_of pages Compress = reply_moved Compressed (first_of (inactive pages))
reply_of pages Requeue = reply_moved Requeued (first_of (inactive pages))
reply_of pages PlanIdle = Idle
