-- The passes of a run, each when its script was run, and all in one.
use Rattle.std.specs.Prelude.{◌≡◌, ℕ, ◌<◌, true, List, [], eqb}
use Rattle.std.specs.List.{AllByRecursion, IsDistinct}
use Rattle.kern_ids.specs.declared.entries.Entry.{Entry}
use Rattle.kernel_model.specs.Scenario.{Plan, script}
use Rattle.turn_lock.specs.Passes.{gathered_by, numbers_of, weight_of}
use Rattle.kernel_shared.specs.Calls.{KernelTable, KernelPass, IsIdleOf}
use Rattle.thread_runner.specs.declared.threads.Finished.{Finished}
use Rattle.kernel_model.specs.Whole.{calls_of}

-- the pass is as new but for its calls, which are its script where it was run whole
pub record IsFinished (t : KernelTable) (s : Plan) (f : Finished) : Type 0 where
  pub idle : IsIdleOf t f.pass
  pub alone : f.pass.others ≡ []
  pub below : f.pass.number < t.passes
  pub calls : f.whole ≡ true → calls_of f.pass.mine ≡ script s f.pass.number

-- the entries under a number are those of its thread's script, and it is the number of a pass
abbrev pub IsScripted : KernelTable → Plan → ℕ × List Entry → Type 0
IsScripted t s g = (g.0 < t.passes) × (calls_of g.1 ≡ script s g.0)

-- n passes in one, whose scripts were run whole
pub record IsJoined (t : KernelTable) (s : Plan) (n : ℕ) (p : KernelPass) : Type 0 where
  pub idle : IsIdleOf t p
  pub weight : weight_of p ≡ n
  pub distinct : IsDistinct eqb (numbers_of p)
  pub scripted : AllByRecursion (IsScripted t s) (gathered_by p)
