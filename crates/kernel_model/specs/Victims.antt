-- Which task is killed.
use Rattle.std.specs.Prelude.{ℕ, List, Bool, false, ◌&&◌, ◌||◌, not, Option, if◌then◌else◌, nat_lt, nat_le, nat_eq, filter}
use Rattle.std.specs.Option.{option_map_or}
use Rattle.kern_ids.specs.declared.entries.Entry.{Entry}
use Rattle.kern_ids.specs.declared.replies.Reply.{Reply}
use Rattle.kern_ids.specs.declared.replies.Reply.TheVariants.{Quiet, Killed, NoVictim}
use Rattle.kern_ids.specs.declared.replies.Cause.{Cause}
use Rattle.kern_ids.specs.declared.replies.Cause.TheVariants.{Limit as by_limit, HighWater, Pressure}
use Rattle.kernel_model.specs.System.{System}
use Rattle.kernel_model.specs.Mapping.{live, tasks_of}
use Rattle.kernel_model.specs.Counted.{counts}
use Rattle.kernel_model.specs.Bands.{present_limit, of_task, band, bstamp}
use Rattle.kernel_model.specs.Pages.{free}
use Rattle.kernel_model.specs.Lists.{least, pair_lt}

-- the footprint is greater than the present limit
abbrev pub is_over : System → List Entry → ℕ → Bool
is_over boot past t = nat_lt (present_limit boot past t).pages (counts boot past t).footprint

abbrev pub is_eligible : System → List Entry → ℕ → Bool
is_eligible boot past t = live boot past t && not (of_task (λ task. task.internal) boot t false)

abbrev pub over_fatal : System → List Entry → ℕ → Bool
over_fatal boot past t = live boot past t && is_over boot past t && (present_limit boot past t).fatal

abbrev pub over_soft : System → List Entry → ℕ → Bool
over_soft boot past t = is_eligible boot past t && is_over boot past t && not (present_limit boot past t).fatal

-- lower in the bands: a lower band, or the same and a lower stamp
abbrev pub band_lt : System → List Entry → ℕ → ℕ → Bool
band_lt boot past t u =
    nat_lt (band boot past t) (band boot past u) || (nat_eq (band boot past t) (band boot past u) && pair_lt (bstamp boot past t) (bstamp boot past u))

abbrev pub least_task : System → List Entry → (ℕ → Bool) → Option ℕ
least_task boot past p = least (band_lt boot past) (filter p (tasks_of boot))

abbrev pub killed_for : Cause → ℕ → Reply
killed_for cause t = Killed t cause

unfoldable pub victim : System → List Entry → Reply
victim boot past = option_map_or (killed_for by_limit) (least_task boot past (over_fatal boot past))
    (if nat_le boot.params.critical (free boot past) then Quiet
    else option_map_or (killed_for HighWater) (least_task boot past (over_soft boot past))
    (option_map_or (killed_for Pressure) (least_task boot past (is_eligible boot past)) NoVictim))
