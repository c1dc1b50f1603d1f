-- What the tables have at the start.
use Rattle.std.specs.Prelude.{ℕ, Bool, false, List, Option, Some, None, nat_eq, slice_get, if◌then◌else◌}
use Rattle.std.specs.Option.{option_map_or}
use Rattle.kernel_model.specs.declared.boot.TaskBoot.{TaskBoot}
use Rattle.kernel_model.specs.Lists.{some_if}

-- the band in which a task stands at the start: its ageing band where it wishes band 0
abbrev pub first_band : TaskBoot → ℕ
first_band task = if nat_eq task.band 0 then task.ageing else task.band

-- whether task t stands in a band at the start
abbrev pub begins_in : List TaskBoot → ℕ → ℕ → Bool
begins_in tasks b t = option_map_or (λ task. nat_eq (first_band task) b) (slice_get tasks t) false

-- the count of task t at the start: it counts where it wishes band 0
abbrev pub first_count : List TaskBoot → ℕ → Option ℕ
first_count tasks t = option_map_or (λ task. some_if (nat_eq task.band 0) 0) (slice_get tasks t) None
