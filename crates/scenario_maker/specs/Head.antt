-- What every made scenario begins with: three tasks, forty objects, six threads that have no calls yet.
use Rattle.std.specs.Prelude.{ℕ, ◌+◌, ◌%◌, List, [], ◌∷◌, Bool, true, false, map}
use Rattle.std.specs.List.{range_with_len}
use Rattle.kernel_model.specs.declared.boot.Params.{Params}
use Rattle.kernel_model.specs.declared.boot.TaskBoot.{TaskBoot}
use Rattle.kernel_model.specs.declared.boot.ObjBoot.{ObjBoot}
use Rattle.kernel_model.specs.declared.boot.Side.{Side}
use Rattle.kernel_model.specs.declared.boot.Side.TheVariants.{Task, Kernel}
use Rattle.kernel_model.specs.declared.scenario.Form.TheVariants.{One}
use Rattle.kernel_model.specs.Scenario.{Plan}

abbrev pub head_params : Params
head_params = record { frames = 64; target = 16; inactive = 16; store = 64; critical = 1 }

-- a task of two soft limits, which is aged after four ticks
abbrev pub task_boot : ℕ → ℕ → ℕ → Bool → TaskBoot
task_boot band active inactive internal = record {
  band = band;
  active = record { pages = active; fatal = false };
  inactive = record { pages = inactive; fatal = false };
  internal = internal;
  delay = 4;
  ageing = 1;
}

abbrev pub head_tasks : List TaskBoot
head_tasks = task_boot 0 24 12 false ∷ task_boot 5 24 12 false ∷ task_boot 10 65536 65536 true ∷ []

-- object o is one of task o mod 3, and has 1 + o mod 4 pages
abbrev pub object_boot : ℕ → ObjBoot
object_boot o = record { tasks = o % 3 ∷ []; pages = 1 + o % 4 }

unfoldable pub head_objects : List ObjBoot
head_objects = map object_boot (range_with_len 0 40)

-- a thread of task 0, one of task 1, two of task 2 and two of the kernel
abbrev pub head_sides : List Side
head_sides = Task 0 ∷ Task 1 ∷ Task 2 ∷ Task 2 ∷ Kernel ∷ Kernel ∷ []

abbrev pub head : Plan
head = record {
  form = One 4;
  boot = record { params = head_params; tasks = head_tasks; objects = head_objects; sides = head_sides };
  scripts = [] ∷ [] ∷ [] ∷ [] ∷ [] ∷ [] ∷ [];
  order = [];
}
