-- What an object counts for the task that owns it.
use Rattle.std.specs.Prelude.{ℕ, ◌+◌, Bool, false, List, Option, Some, None, if◌then◌else◌, nat_eq}
use Rattle.std.specs.Option.{option_map_or}
use Rattle.kern_ids.specs.declared.entries.Entry.{Entry}
use Rattle.kern_ids.specs.declared.calls.State.{State}
use Rattle.kern_ids.specs.declared.replies.Counts.{Counts}
use Rattle.kernel_model.specs.System.{System}
use Rattle.kernel_model.specs.Mapping.{owner}
use Rattle.kernel_model.specs.State.{state}
use Rattle.kernel_model.specs.Groups.{is_volatile_state}
use Rattle.kernel_model.specs.Counted.{is_nonvolatile_state}
use Rattle.kernel_model.specs.Pages.{is_stored}
use Rattle.kernel_model.specs.Laws.Frames.{is_in, pages_at}
use Rattle.page_queues.specs.Pages.{Pages, active, inactive, stored}
use Rattle.page_queues.specs.Tallies.{count_of}
use Rattle.task_ledger.specs.declared.account.Account.{Account}
use Rattle.task_ledger.specs.Accounts.{account_of, with_counts, counts_plus, counts_less, no_pages}

-- n pages in frames and m Stored ones, of an object in this state
abbrev pub charge : State → ℕ → ℕ → Counts
charge s n m = record {
  res_non = if is_nonvolatile_state s then n else 0;
  res_vol = if is_volatile_state s then n else 0;
  com_non = if is_nonvolatile_state s then m else 0;
  com_vol = if is_volatile_state s then m else 0;
  footprint = if is_nonvolatile_state s then n + m else 0;
}

-- the pages of an object that are in frames, and its Stored ones, by the queues of the pages
abbrev pub framed_of : Pages → ℕ → ℕ
framed_of pages o = count_of o (active pages) + count_of o (inactive pages)

abbrev pub stored_of : Pages → ℕ → ℕ
stored_of pages o = count_of o (stored pages)

-- what an object counts over a history, and what of it is counted for task t
abbrev pub charge_of : System → List Entry → ℕ → Counts
charge_of boot past o = charge (state past o) (pages_at boot past is_in o) (pages_at boot past is_stored o)

abbrev pub is_owner : Option ℕ → ℕ → Bool
is_owner o t = option_map_or (nat_eq t) o false

abbrev pub owed : Option ℕ → Counts → ℕ → Counts
owed o c t = if is_owner o t then c else no_pages

-- the accounts once these counts were taken off an owner's, if there is one, and once they were added to it
abbrev pub relieved : Option ℕ → Counts → List Account → List Account
relieved None c accounts = accounts
relieved (Some t) c accounts = with_counts accounts t (counts_less (account_of accounts t).counts c)

abbrev pub burdened : Option ℕ → Counts → List Account → List Account
burdened None c accounts = accounts
burdened (Some t) c accounts = with_counts accounts t (counts_plus (account_of accounts t).counts c)
