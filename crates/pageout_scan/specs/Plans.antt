-- What the next scan does, by the queues of the pages, the parameters, the object that a ripe token chooses, and
-- whether the first Inactive page was written.
use Rattle.std.specs.Prelude.{ℕ, Bool, not, Option, Some, None, length, nat_lt, nat_le, slice_get, if◌then◌else◌}
use Rattle.std.specs.Option.{option_map_or}
use Rattle.kernel_model.specs.declared.boot.Params.{Params}
use Rattle.page_queues.specs.Pages.{Pages, active, inactive, stored, free, is_marked}
use Rattle.pageout_scan.specs.declared.plan.ScanPlan.{ScanPlan}
use Rattle.pageout_scan.specs.declared.plan.ScanPlan.TheVariants.{Enough, Deactivate, Purge, Reactivate, Free, Compress, Requeue, Idle}

-- what is done with the first Inactive page, by its key
abbrev pub plan_of_inactive : Pages → Params → Bool → ℕ → ScanPlan
plan_of_inactive pages params written key =
    if is_marked pages key then Reactivate
    else if not written then Free
    else if nat_lt (length (stored pages)) params.store then Compress
    else Requeue

-- what is done where nothing is deactivated
abbrev pub plan_of_rest : Pages → Params → Option ℕ → Bool → ScanPlan
plan_of_rest pages params ripe written = elim ripe [
  | Some o ↦ Purge o
  | None ↦ option_map_or (plan_of_inactive pages params written) (slice_get (inactive pages) 0) Idle
]

-- what the scan does: the first that applies
abbrev pub scan_plan : Pages → Params → Option ℕ → Bool → ScanPlan
scan_plan pages params ripe written =
    if nat_le params.target (free pages) then Enough
    else if nat_lt (length (inactive pages)) params.inactive then option_map_or (λ key. Deactivate) (slice_get (active pages) 0) (plan_of_rest pages params ripe written)
    else plan_of_rest pages params ripe written

-- the plan is for an Active page, or for an Inactive one
abbrev pub takes_active : ScanPlan → Bool
takes_active Deactivate = Bool.true
takes_active _ = Bool.false

abbrev pub takes_inactive : ScanPlan → Bool
takes_inactive Reactivate = Bool.true
takes_inactive Free = Bool.true
takes_inactive Compress = Bool.true
takes_inactive Requeue = Bool.true
takes_inactive _ = Bool.false
