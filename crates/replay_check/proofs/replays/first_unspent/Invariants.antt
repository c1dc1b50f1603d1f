use Rattle.std.proofs.Common.{◌≡◌, None}
use Rattle.replay_check.specs.Replays.{first_unspent}
use Rattle.replay_check.proofs.replays.first_unspent.Given as goal

abbrev pub invariant-loop-n : goal.invariant-loop-n
invariant-loop-n l = first_unspent l.scenario l.made l.n ≡ None
