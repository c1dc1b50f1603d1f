use Rattle.std.proofs.Common.{◌≡◌, ◌+◌, length, eqb}
use Rattle.std.specs.List.{All, AllByRecursion, IsDistinct}
use Rattle.turn_lock.specs.Passes.{gathered_by, numbers_of, weight_of}
use Rattle.kernel_shared.specs.Calls.{IsIdleOf}
use Rattle.thread_runner.specs.Threads.{IsFinished, IsScripted}
use Rattle.thread_runner.proofs.threads.join_all.Given as goal

abbrev pub invariant-loop-other : goal.invariant-loop-other
invariant-loop-other l = record {
  idle : IsIdleOf l.kernel l.pass;
  weight : weight_of l.pass + length l.finished.items ≡ length l.fn.finished.items;
  distinct : IsDistinct eqb (numbers_of l.pass);
  scripted : AllByRecursion (IsScripted l.kernel l.s) (gathered_by l.pass);
  left : All (IsFinished l.kernel l.s) l.finished.items;
}

abbrev pub decreases-loop-other : goal.decreases-loop-other
decreases-loop-other l = length l.finished.items
