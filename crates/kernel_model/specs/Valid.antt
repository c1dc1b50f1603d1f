-- The ranges of what a kernel begins with, and of the calls of its threads.
use Rattle.std.specs.Prelude.{ℕ, ◌+◌, ◌^◌, ◌<◌, ◌≤◌, List, [], ◌∷◌, length, All}
use Rattle.kern_ids.specs.declared.calls.Call.{Call}
use Rattle.kern_ids.specs.declared.calls.Call.TheVariants.{Write, Read, SetState, SetBand}
use Rattle.kernel_model.specs.declared.boot.Params.{Params}
use Rattle.kernel_model.specs.declared.boot.TaskBoot.{TaskBoot}
use Rattle.kernel_model.specs.declared.boot.ObjBoot.{ObjBoot}
use Rattle.kernel_model.specs.declared.boot.Side.{Side}
use Rattle.kernel_model.specs.declared.boot.Side.TheVariants.{Task, Kernel}
use Rattle.kernel_model.specs.System.{System}

pub record IsValidParams (p : Params) : Type 0 where
  pub some_frames : 1 ≤ p.frames
  pub frames : p.frames ≤ 4096
  pub target : p.target ≤ 4096
  pub inactive : p.inactive ≤ 4096
  pub store : p.store ≤ 65536
  pub critical : p.critical ≤ 4096

-- a delay of 1 to 1,000 Ticks
pub record IsDelay (delay : ℕ) : Type 0 where
  pub some : 1 ≤ delay
  pub most : delay ≤ 1000

pub record IsValidTask (t : TaskBoot) : Type 0 where
  pub active : t.active.pages ≤ 65536
  pub inactive : t.inactive.pages ≤ 65536
  pub delay : IsDelay t.delay
  pub ages : 1 ≤ t.ageing
  pub ageing : t.ageing ≤ 2

-- each is greater than the one before, and at least the bound
abbrev pub IsRisingFrom : ℕ → List ℕ → Type 0
IsRisingFrom bound [] = Unit {0}
IsRisingFrom bound (x ∷ xs) = (bound ≤ x) × IsRisingFrom (x + 1) xs

-- an object of some of so many tasks, in rising order
pub record IsValidObject (tasks : ℕ) (o : ObjBoot) : Type 0 where
  pub shared : 0 < length o.tasks
  pub rising : IsRisingFrom 0 o.tasks
  pub declared : All (λ t. t < tasks) o.tasks
  pub some_pages : 1 ≤ o.pages
  pub pages : o.pages ≤ 256

-- a thread's task is declared
abbrev pub IsValidSide : ℕ → Side → Type 0
IsValidSide tasks (Task t) = t < tasks
IsValidSide tasks Kernel = Unit {0}

pub record IsValidBoot (boot : System) : Type 0 where
  pub params : IsValidParams boot.params
  pub few_tasks : length boot.tasks ≤ 64
  pub few_objects : length boot.objects ≤ 256
  pub few_sides : length boot.sides ≤ 32
  pub tasks : All IsValidTask boot.tasks
  pub objects : All (IsValidObject (length boot.tasks)) boot.objects
  pub sides : All (IsValidSide (length boot.tasks)) boot.sides

-- the numbers of a call and its bytes are in their ranges; what it names, and its limits, are in theirs where it fits
abbrev pub IsValidCall : Call → Type 0
IsValidCall (Write o off bytes) = (off < 2 ^ 32) × (length bytes ≤ 256) × All (λ b. b < 256) bytes
IsValidCall (Read o off len) = (off < 2 ^ 32) × (len < 2 ^ 32)
IsValidCall (SetState o word) = word < 2 ^ 32
IsValidCall (SetBand t band) = band ≤ 20
IsValidCall _ = Unit {0}
