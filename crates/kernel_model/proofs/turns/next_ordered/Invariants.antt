use Rattle.std.proofs.Common.{◌≡◌, length, vec_len}
use Rattle.kernel_model.specs.Turns.{turns_from}
use Rattle.kernel_model.specs.TurnsLeft.{calls_left, AreSpent}
use Rattle.kernel_model.proofs.turns.next_ordered.Given as goal

abbrev pub invariant-words : goal.invariant-words
invariant-words l = record {
  said : turns_from l.order.now (calls_left l.scripts.items) ≡ turns_from l.fn.order.now (calls_left l.fn.scripts.items);
  spent : AreSpent l.fn.from (calls_left l.scripts.items);
  len : vec_len l.scripts ≡ vec_len l.fn.scripts;
}

abbrev pub decreases-words : goal.decreases-words
decreases-words l = length l.order.now
