-- What a call that fits names.
use Rattle.std.specs.Prelude.{◌≡◌, ℕ, ◌<◌, true, length, IfSome}
use Rattle.kern_ids.specs.declared.calls.Call.{Call}
use Rattle.kernel_model.specs.System.{System}
use Rattle.kernel_model.specs.Answers.{object_of, named_task}
use Rattle.kernel_model.specs.Histories.{is_task_call}

-- the object and the task that the call names are declared, and so is t, its thread's task, where the call is a task's
pub record IsAsked (boot : System) (t : ℕ) (call : Call) : Type 0 where
  pub object : IfSome (object_of call) (λ o. o < length boot.objects)
  pub task : IfSome (named_task call) (λ u. u < length boot.tasks)
  pub caller : is_task_call call ≡ true → t < length boot.tasks
