-- The tasks as jetsam sees them.
use Rattle.std.specs.Prelude.{ℕ, List, map, Bool, false, ◌&&◌, ◌||◌, not, Option, if◌then◌else◌, nat_eq, nat_lt, nat_le}
use Rattle.std.specs.Option.{option_map_or}
use Rattle.std.specs.List.{list_any}
use Rattle.kern_ids.specs.declared.entries.Entry.{Entry}
use Rattle.kern_ids.specs.declared.calls.Limit.{Limit}
use Rattle.kern_ids.specs.declared.replies.Reply.{Reply}
use Rattle.kern_ids.specs.declared.replies.Reply.TheVariants.{Quiet, NoVictim}
use Rattle.kern_ids.specs.declared.replies.Cause.TheVariants.{HighWater, Pressure}
use Rattle.kernel_model.specs.System.{System}
use Rattle.kernel_model.specs.Lists.{pair_lt}
use Rattle.kernel_model.specs.Mapping.{tasks_of}
use Rattle.kernel_model.specs.Groups.{is_volatile_state}
use Rattle.kernel_model.specs.Pages.{is_active, is_inactive, is_stored, free}
use Rattle.kernel_model.specs.Counted.{is_nonvolatile_state}
use Rattle.kernel_model.specs.Bands.{band, bstamp}
use Rattle.kernel_model.specs.Victims.{over_fatal, over_soft, is_eligible, least_task, killed_for}
use Rattle.slow_kernel.specs.declared.pages.PageRow.{PageRow}
use Rattle.slow_kernel.specs.declared.tasks.TaskPass.{TaskPass}
use Rattle.slow_kernel.specs.declared.victims.VictimRow.{VictimRow}
use Rattle.slow_kernel.specs.declared.victims.Among.{Among}
use Rattle.slow_kernel.specs.declared.victims.Among.TheVariants.{OverFatal, OverSoft, Eligible}

abbrev pub row_resident : PageRow → Bool
row_resident row = is_active row.facts.placed.place || is_inactive row.facts.placed.place

-- the page counts for t among the stored or the resident ones, of VOLATILE or NONVOLATILE objects
unfoldable pub row_counts : ℕ → Bool → Bool → PageRow → Bool
row_counts t stored volatile row =
    option_map_or (nat_eq t) row.owner false
    && (if stored then is_stored row.facts.placed.place else row_resident row)
    && (if volatile then is_volatile_state row.state else is_nonvolatile_state row.state)

abbrev pub limit_in : TaskPass → Limit
limit_in pass = if pass.active then pass.when_active else pass.when_inactive

abbrev pub victim_row : System → List Entry → ℕ → VictimRow
victim_row boot past t = record {
  task = t;
  band = band boot past t;
  stamp = bstamp boot past t;
  fatal = over_fatal boot past t;
  soft = over_soft boot past t;
  eligible = is_eligible boot past t;
}

abbrev pub victim_rows : System → List Entry → List VictimRow
victim_rows boot past = map (victim_row boot past) (tasks_of boot)

abbrev pub row_among : Among → VictimRow → Bool
row_among OverFatal row = row.fatal
row_among OverSoft row = row.soft
row_among Eligible row = row.eligible

abbrev pub row_lower : VictimRow → VictimRow → Bool
row_lower a b = nat_lt a.band b.band || (nat_eq a.band b.band && pair_lt a.stamp b.stamp)

-- a row of those sought that none of them is lower than
unfoldable pub row_least : List VictimRow → Among → VictimRow → Bool
row_least rows among row = row_among among row && not (list_any (λ other. row_among among other && row_lower other row) rows)

-- the lowest of those sought
unfoldable pub least_among : System → List Entry → Among → Option ℕ
least_among boot past among = least_task boot past (λ t. row_among among (victim_row boot past t))

-- the answer where no task is over a limit, where none is over a fatal one, and with the frames free
abbrev pub pressure_reply : System → List Entry → Reply
pressure_reply boot past = option_map_or (killed_for Pressure) (least_among boot past Eligible) NoVictim

abbrev pub high_water_reply : System → List Entry → Reply
high_water_reply boot past = option_map_or (killed_for HighWater) (least_among boot past OverSoft) (pressure_reply boot past)

abbrev pub within_limits : System → List Entry → Reply
within_limits boot past = if nat_le boot.params.critical (free boot past) then Quiet else high_water_reply boot past
