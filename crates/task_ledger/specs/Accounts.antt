-- What each task is charged and allowed.
use Rattle.std.specs.Prelude.{◌≡◌, ℕ, ◌+◌, ◌-◌, ◌≤◌, Bool, true, false, List, set, nat_lt, slice_index_or, if◌then◌else◌}
use Rattle.kern_ids.specs.declared.calls.Limit.{Limit}
use Rattle.kern_ids.specs.declared.replies.Counts.{Counts}
use Rattle.kernel_model.specs.declared.boot.TaskBoot.{TaskBoot}
use Rattle.task_ledger.specs.declared.account.Account.{Account}
use Rattle.task_ledger.specs.declared.account.Over.{Over}
use Rattle.task_ledger.specs.declared.account.Over.TheVariants.{Within, Soft, Hard}

-- no page
abbrev pub no_pages : Counts
no_pages = record { res_non = 0; res_vol = 0; com_non = 0; com_vol = 0; footprint = 0 }

-- the account of a number that is no task's
abbrev pub no_account : Account
no_account = record {
  counts = no_pages;
  when_active = record { pages = 0; fatal = false };
  when_inactive = record { pages = 0; fatal = false };
  internal = false;
  active = false;
  live = false;
}

-- the account of a task
abbrev pub account_of : List Account → ℕ → Account
account_of accounts task = slice_index_or accounts task no_account

-- the account of a task at the start: it is charged nothing, is not active, and is live
abbrev pub first_account : TaskBoot → Account
first_account task = record {
  counts = no_pages;
  when_active = task.active;
  when_inactive = task.inactive;
  internal = task.internal;
  active = false;
  live = true;
}

-- counts with others added
abbrev pub counts_plus : Counts → Counts → Counts
counts_plus a b = record {
  res_non = a.res_non + b.res_non;
  res_vol = a.res_vol + b.res_vol;
  com_non = a.com_non + b.com_non;
  com_vol = a.com_vol + b.com_vol;
  footprint = a.footprint + b.footprint;
}

-- counts with others taken away
abbrev pub counts_less : Counts → Counts → Counts
counts_less a b = record {
  res_non = a.res_non - b.res_non;
  res_vol = a.res_vol - b.res_vol;
  com_non = a.com_non - b.com_non;
  com_vol = a.com_vol - b.com_vol;
  footprint = a.footprint - b.footprint;
}

-- the footprint is that of the nonvolatile pages, resident and compressed
abbrev pub IsSummed : Counts → Type 0
IsSummed c = c.footprint ≡ c.res_non + c.com_non

-- no count passes 65,536
pub record AreWithin (c : Counts) : Type 0 where
  pub res_non : c.res_non ≤ 65536
  pub res_vol : c.res_vol ≤ 65536
  pub com_non : c.com_non ≤ 65536
  pub com_vol : c.com_vol ≤ 65536
  pub footprint : c.footprint ≤ 65536

-- no count is above that of others
pub record AreAtMost (c others : Counts) : Type 0 where
  pub res_non : c.res_non ≤ others.res_non
  pub res_vol : c.res_vol ≤ others.res_vol
  pub com_non : c.com_non ≤ others.com_non
  pub com_vol : c.com_vol ≤ others.com_vol
  pub footprint : c.footprint ≤ others.footprint

-- the limit of the task's present activity
abbrev pub present_limit : Account → Limit
present_limit account = if account.active then account.when_active else account.when_inactive

-- the footprint is greater than the present limit
abbrev pub is_over : Account → Bool
is_over account = nat_lt (present_limit account).pages account.counts.footprint

-- whether a task is over its limit, and of which kind that limit is
abbrev pub over : Account → Over
over account = if is_over account then (if (present_limit account).fatal then Hard else Soft) else Within

-- the accounts after one task's counts became others
abbrev pub with_counts : List Account → ℕ → Counts → List Account
with_counts accounts task counts = set accounts task (record (account_of accounts task) { counts = counts })

-- what is true of each account
pub record IsSound (account : Account) : Type 0 where
  pub within : AreWithin account.counts
  pub summed : IsSummed account.counts
