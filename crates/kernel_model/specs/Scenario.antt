-- What a scenario is seen as, and which scenarios are valid.
use Rattle.std.specs.Prelude.{◌≡◌, ℕ, ◌<◌, ◌≤◌, List, [], length, All, IsTrue, sum_by, slice_index_or}
use Rattle.kern_ids.specs.declared.calls.Call.{Call}
use Rattle.kernel_model.specs.declared.boot.TaskBoot.{TaskBoot}
use Rattle.kernel_model.specs.declared.scenario.Form.{Form}
use Rattle.kernel_model.specs.declared.scenario.Form.TheVariants.{One, Two}
use Rattle.kernel_model.specs.System.{System}
use Rattle.kernel_model.specs.Valid.{IsDelay, IsValidBoot, IsValidCall}
use Rattle.kernel_model.specs.Histories.{fits}

-- a form, what the kernel begins with, a list of calls for each thread, and the threads whose turns come first
pub record Plan : Type 0 where
  pub form : Form
  pub boot : System
  pub scripts : List (List Call)
  pub order : List ℕ

-- the calls of thread n
abbrev pub script : Plan → ℕ → List Call
script s n = slice_index_or s.scripts n []

-- all scripted calls together
abbrev pub call_count : List (List Call) → ℕ
call_count scripts = sum_by length scripts

-- in the first form every task has the one delay, and ages in band 1
abbrev pub FitsForm : Form → TaskBoot → Type 0
FitsForm (One delay) t = (t.delay ≡ delay) × (t.ageing ≡ 1)
FitsForm Two t = Unit {0}

abbrev pub IsValidForm : Form → Type 0
IsValidForm (One delay) = IsDelay delay
IsValidForm Two = Unit {0}

-- every number is in its range, every call fits its thread, and each thread of the order is declared
pub record IsValid (s : Plan) : Type 0 where
  pub boot : IsValidBoot s.boot
  pub form : IsValidForm s.form
  pub tasks : All (FitsForm s.form) s.boot.tasks
  pub bands : All (λ t. t.band ≤ 20) s.boot.tasks
  pub scripts : length s.scripts ≡ length s.boot.sides
  pub calls : (n : ℕ) → n < length s.scripts → All (λ call. IsTrue (fits s.boot n call)) (script s n)
  pub ranges : All (λ script. All IsValidCall script) s.scripts
  pub few_calls : call_count s.scripts ≤ 200000
  pub order : All (λ n. n < length s.scripts) s.order
  pub few_turns : length s.order ≤ 200000

-- the same in the second form
abbrev pub two : Plan → Plan
two s = record s { form = Two }
