use Rattle.std.proofs.Common.{◌≤◌, ◌+◌, ◌-◌, ◌++◌, ℕ, List, length, take}
use Rattle.kernel_model.specs.Scenario.{Plan}
use Rattle.replay_check.specs.Pieces.{HasRoom, StandsFor, parts}
use Rattle.replay_check.proofs.pieces.take_all.Given as goal

abbrev pub invariant-bytes : goal.invariant-bytes
invariant-bytes l = record {
  within : l.at ≤ length l.piece;
  room : (more : ℕ) → HasRoom (parts l.scenario l.initial.feed l.initial.replay) (length l.piece + more) → HasRoom (parts l.scenario l.feed l.replay) (length l.piece - l.at + more);
  stands : (s : Plan) (n : ℕ) (text : List ℕ) → StandsFor s n text (parts l.scenario l.initial.feed l.initial.replay) → StandsFor s n (text ++ take l.at l.piece) (parts l.scenario l.feed l.replay);
}

abbrev pub decreases-bytes : goal.decreases-bytes
decreases-bytes l = length l.piece - l.at
