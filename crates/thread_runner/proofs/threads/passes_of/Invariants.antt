use Rattle.std.proofs.Common.{◌≡◌, ◌+◌, length}
use Rattle.std.specs.List.{All}
use Rattle.turn_lock.specs.Passes.{IsNewPassOf}
use Rattle.thread_runner.proofs.threads.passes_of.Given as goal

abbrev pub invariant-loop-pass : goal.invariant-loop-pass
invariant-loop-pass l = record {
  left : All (IsNewPassOf l.kernel) l.list;
  taken : All (IsNewPassOf l.kernel) l.passes.items;
  count : length l.passes.items + length l.list ≡ length l.fn.list;
}

abbrev pub decreases-loop-pass : goal.decreases-loop-pass
decreases-loop-pass l = length l.list
