-- What holds of the table of states beside the model, and of sets of tasks beside lists of them.
use Rattle.std.specs.Prelude.{◌≡◌, ℕ, ◌<◌, ◌≤◌, List, Bool, Option, Some, false, option_map, nat_eq, find}
use Rattle.std.specs.List.{range_with_len, list_any}
use Rattle.kern_ids.specs.declared.entries.Entry.{Entry}
use Rattle.kern_ids.specs.declared.calls.Queue.{Queue}
use Rattle.kern_ids.specs.declared.calls.State.{State}
use Rattle.kern_ids.specs.declared.calls.State.TheVariants.{Volatile}
use Rattle.kern_ids.specs.declared.calls.Wish.{Wish}
use Rattle.kernel_model.specs.System.{System}
use Rattle.kernel_model.specs.State.{is_empty}
use Rattle.kernel_model.specs.Groups.{standing, standing_asked}
use Rattle.kernel_model.specs.Deadlines.{Deadlines, after_set}
use Rattle.vm_object.specs.Objects.{row}
use Rattle.vm_object.specs.Rows.{deadlines_by}
use Rattle.vm_object.specs.TaskSets.{has_task, tasks_of, least_of, any_of}

-- each row changes the deadlines as the model does, where a volatile object stands in the queue that the model gives it
abbrev pub RowsChangeDeadlines : Type 0
RowsChangeDeadlines = (boot : System) (before : List Entry) (o : ℕ) (was : State) (asked : Wish) (from : Option Queue) (d : Deadlines) → (was ≡ Volatile → from ≡ Some (standing before o).queue) → deadlines_by before (row was asked from) from d ≡ after_set boot before o was asked d

-- an object that isn't EMPTY enters where the model lets it stand from then on
abbrev pub RowsEnter : Type 0
RowsEnter = (n : ℕ) (was : State) (asked : Wish) (from : Option Queue) → is_empty was ≡ false → (row was asked from).enter ≡ option_map (λ stands. (stands.queue, stands.group)) (standing_asked n asked)

-- the set of some listed tasks has those that are listed
abbrev pub SetHasListed : Type 0
SetHasListed = (listed : List ℕ) (t : ℕ) → t < 64 → has_task (tasks_of listed) t ≡ list_any (nat_eq t) listed

-- a set has no task from a number on
abbrev pub IsBelow : ℕ → List Bool → Type 0
IsBelow n tasks = (t : ℕ) → n ≤ t → has_task tasks t ≡ false

-- the least task of a set that has none from a number on is found among the tasks below it
abbrev pub LeastIsBelow : Type 0
LeastIsBelow = (tasks : List Bool) (n : ℕ) → n ≤ 64 → IsBelow n tasks → least_of tasks ≡ find (has_task tasks) (range_with_len 0 n)

-- whether such a set has a task is found among them too
abbrev pub AnyIsBelow : Type 0
AnyIsBelow = (tasks : List Bool) (n : ℕ) → n ≤ 64 → IsBelow n tasks → any_of tasks ≡ list_any (has_task tasks) (range_with_len 0 n)
