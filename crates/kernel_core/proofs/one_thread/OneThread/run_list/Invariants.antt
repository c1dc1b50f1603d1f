use Rattle.std.proofs.Common.{◌≡◌, take, reverse}
use Rattle.kernel_model.specs.Turns.{run_from}
use Rattle.kernel_core.proofs.one_thread.OneThread.run_list.Given as goal

abbrev pub invariant-loop-turn : goal.invariant-loop-turn
invariant-loop-turn g l = record {
  boot : l.self.boot ≡ l.fn.self.boot;
  made : reverse l.self.history ≡ run_from l.fn.self.boot (reverse l.fn.self.history) (take l.turn-index l.calls);
}
