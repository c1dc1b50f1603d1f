-- Which task jetsam kills, by the free frames, the bands and the accounts of the tasks.
use Rattle.std.specs.Prelude.{◌≡◌, ℕ, List, Bool, ◌&&◌, not, Option, find, nat_le, if◌then◌else◌}
use Rattle.std.specs.Option.{option_map_or}
use Rattle.kern_ids.specs.declared.replies.Cause.{Cause}
use Rattle.kern_ids.specs.declared.replies.Cause.TheVariants.{Limit as by_limit, HighWater, Pressure}
use Rattle.link_list.specs.KeyLists.{has}
use Rattle.priority_bands.specs.Banded.{tasks_from}
use Rattle.task_ledger.specs.declared.account.Account.{Account}
use Rattle.task_ledger.specs.Accounts.{account_of, is_over, present_limit}
use Rattle.jetsam_pick.specs.declared.verdict.JetsamVerdict.{JetsamVerdict}
use Rattle.jetsam_pick.specs.declared.verdict.JetsamVerdict.TheVariants.{Quiet, Kill, NoVictim}

-- a task is live
abbrev pub is_live : List Account → ℕ → Bool
is_live accounts task = (account_of accounts task).live

-- a task is live and not internal
abbrev pub is_eligible : List Account → ℕ → Bool
is_eligible accounts task = is_live accounts task && not (account_of accounts task).internal

-- a live task is over a fatal limit
abbrev pub over_fatal : List Account → ℕ → Bool
over_fatal accounts task = is_live accounts task && is_over (account_of accounts task) && (present_limit (account_of accounts task)).fatal

-- an eligible task is over a limit that isn't fatal
abbrev pub over_soft : List Account → ℕ → Bool
over_soft accounts task = is_eligible accounts task && is_over (account_of accounts task) && not (present_limit (account_of accounts task)).fatal

-- the first task that passes, in the lowest band that has one
abbrev pub least_task : List (List ℕ) → (ℕ → Bool) → Option ℕ
least_task bands p = find p (tasks_from bands 0)

abbrev pub killed_for : Cause → ℕ → JetsamVerdict
killed_for cause task = Kill task cause

-- what jetsam does: the first that applies
abbrev pub verdict : ℕ → ℕ → List (List ℕ) → List Account → JetsamVerdict
verdict free critical bands accounts = option_map_or (killed_for by_limit) (least_task bands (over_fatal accounts))
    (if nat_le critical free then Quiet
    else option_map_or (killed_for HighWater) (least_task bands (over_soft accounts))
    (option_map_or (killed_for Pressure) (least_task bands (is_eligible accounts)) NoVictim))

-- the bands hold exactly the live tasks
abbrev pub HoldLive : List (List ℕ) → List Account → Type 0
HoldLive bands accounts = (task : ℕ) → has task (tasks_from bands 0) ≡ is_live accounts task

-- the task that is killed, if one is, is a live one
abbrev pub KillsLive : List Account → JetsamVerdict → Type 0
KillsLive accounts (Kill task cause) = is_live accounts task ≡ Bool.true
KillsLive accounts _ = Unit {0}
