use Rattle.std.proofs.Common.{◌≡◌, ◌-◌, vec_len}
use Rattle.kernel_model.specs.TurnsLeft.{calls_left, AreSpent}
use Rattle.kernel_model.proofs.turns.next_left.Given as goal

abbrev pub invariant-threads : goal.invariant-threads
invariant-threads l = record {
  same : l.scripts.items ≡ l.fn.scripts.items;
  spent : AreSpent l.from (calls_left l.scripts.items);
}

abbrev pub decreases-threads : goal.decreases-threads
decreases-threads l = vec_len l.scripts - l.from
