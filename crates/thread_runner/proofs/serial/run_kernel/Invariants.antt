use Rattle.std.proofs.Common.{◌≡◌, [], length, reverse, IsTrue, All}
use Rattle.kernel_model.specs.Histories.{fits}
use Rattle.kernel_model.specs.Turns.{run_from, turns}
use Rattle.thread_runner.proofs.serial.run_kernel.Given as goal

abbrev pub invariant-turns : goal.invariant-turns
invariant-turns l = record {
  boot : l.kernel.boot ≡ l.scenario.boot;
  said : run_from l.scenario.boot (reverse l.kernel.history) l.turns ≡ run_from l.scenario.boot [] (turns l.scenario);
  fit : All (λ t. IsTrue (fits l.scenario.boot t.0 t.1)) l.turns;
}

abbrev pub decreases-turns : goal.decreases-turns
decreases-turns l = length l.turns
