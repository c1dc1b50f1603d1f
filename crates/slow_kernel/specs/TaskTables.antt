-- What is known of a task while the entries are looked through.
use Rattle.std.specs.Prelude.{ℕ, suc, ◌+◌, List, length, Bool, true, false, ◌&&◌, ◌||◌, not, Option, Some, None, is_some, if◌then◌else◌, nat_eq, nat_lt, nat_le, option_map}
use Rattle.std.specs.Option.{option_map_or, unwrap_or}
use Rattle.kern_ids.specs.declared.entries.Entry.{Entry}
use Rattle.kernel_model.specs.System.{System}
use Rattle.kernel_model.specs.Events.{accepted}
use Rattle.kernel_model.specs.Lists.{pair_lt, put, in_order}
use Rattle.kernel_model.specs.Bands.{wish, active, limits, placing, ticks, sets_band, sets_active, limits_call, differs, aged_place, is_tick_call, Limits, of_task, band, due}
use Rattle.slow_kernel.specs.declared.tasks.TaskPass.{TaskPass}
use Rattle.slow_kernel.specs.declared.tasks.TaskRow.{TaskRow}
use Rattle.kernel_model.specs.Mapping.{live}
use Rattle.kernel_model.specs.Victims.{band_lt}
use Rattle.std.specs.List.{range_with_len}
use Rattle.std.specs.Prelude.{◌-◌, filter}

abbrev pub task_pass : System → List Entry → ℕ → TaskPass
task_pass boot past t = record {
  wish = wish boot past t;
  active = active boot past t;
  when_active = (limits boot past t).when_active;
  when_inactive = (limits boot past t).when_inactive;
  aged = (placing boot past t).aged;
  stamp = (placing boot past t).bstamp;
  ticks = ticks boot past t;
}

-- how an entry places t: by ageing or not, and its place among those that the entry placed
unfoldable pub tells_placing : System → ℕ → ℕ → Bool → Entry → Option (Bool × ℕ)
tells_placing boot t wish active e =
    if is_some (sets_band t e) || (option_map_or (differs active) (sets_active boot t e) false && nat_eq wish 0) then Some (false, 0)
    else option_map (λ i. (true, i)) (aged_place t e)

-- the count of Ticks begins anew
unfoldable pub tells_restart : System → ℕ → Bool → Entry → Bool
tells_restart boot t active e = option_map_or (λ on. not on && active) (sets_active boot t e) false || option_map_or (nat_eq 0) (sets_band t e) false

unfoldable pub tells_limits : ℕ → Entry → Option Limits
tells_limits t e = if accepted e then limits_call t e.call else None

unfoldable pub next_ticks : System → ℕ → Bool → ℕ → Entry → ℕ
next_ticks boot t active was e = if tells_restart boot t active e then 0 else if is_tick_call e.call then 1 + was else was

-- what is known of t after entry n
unfoldable pub next_pass : System → ℕ → ℕ → TaskPass → Entry → TaskPass
next_pass boot t n was e = record {
  wish = unwrap_or (sets_band t e) was.wish;
  active = unwrap_or (sets_active boot t e) was.active;
  when_active = option_map_or (λ l. l.when_active) (tells_limits t e) was.when_active;
  when_inactive = option_map_or (λ l. l.when_inactive) (tells_limits t e) was.when_inactive;
  aged = option_map_or (λ x. x.0) (tells_placing boot t was.wish was.active e) was.aged;
  stamp = option_map_or (λ x. (suc n, x.1)) (tells_placing boot t was.wish was.active e) was.stamp;
  ticks = next_ticks boot t was.active was.ticks e;
}

-- what is known of t before the first entry
unfoldable pub start_pass : System → ℕ → TaskPass
start_pass boot t = record {
  wish = of_task (λ task. task.band) boot t 0;
  active = false;
  when_active = of_task (λ task. task.active) boot t (record { pages = 0; fatal = false });
  when_inactive = of_task (λ task. task.inactive) boot t (record { pages = 0; fatal = false });
  aged = false;
  stamp = (0, t);
  ticks = 0;
}

-- the band in which t stands, from what is known of it
abbrev pub band_in : System → ℕ → TaskPass → ℕ
band_in boot t pass =
    if pass.aged then 0
    else if nat_eq pass.wish 0 then of_task (λ task. task.ageing) boot t 0
    else pass.wish

-- a task with what is known of it
abbrev pub task_row : System → List Entry → ℕ → TaskRow
task_row boot past t = record { task = t; live = live boot past t; band = band boot past t; pass = task_pass boot past t }

abbrev pub row_lower : TaskRow → TaskRow → Bool
row_lower a b = nat_lt a.band b.band || (nat_eq a.band b.band && pair_lt a.pass.stamp b.pass.stamp)

abbrev pub row_due : System → TaskRow → Bool
row_due boot row =
    row.live && not row.pass.active && nat_eq row.pass.wish 0 && nat_eq row.band (of_task (λ task. task.ageing) boot row.task 0)
    && nat_le (of_task (λ task. task.delay) boot row.task 0) (row.pass.ticks + 1)

-- with t in its place, if it is due
unfoldable pub with_due : System → List Entry → ℕ → List ℕ → List ℕ
with_due boot past t xs = if due boot past t then put (band_lt boot past) t xs else xs

-- the due ones of the last n tasks, in the order of the bands
unfoldable pub due_of_last : System → List Entry → ℕ → List ℕ
due_of_last boot past n = in_order (band_lt boot past) (filter (due boot past) (range_with_len (length boot.tasks - n) n))
