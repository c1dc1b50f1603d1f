use Rattle.std.proofs.Common.{◌≤◌, ◌-◌, length, take}
use Rattle.replay_check.specs.Pieces.{HasRoom, StandsFor}
use Rattle.program_uses.proofs.pieces.in_pieces.Given as goal

abbrev pub invariant-bytes : goal.invariant-bytes
invariant-bytes l = record {
  within : l.at ≤ length l.text;
  room : HasRoom l.check (length l.text - l.at);
  stands : StandsFor l.fn.scenario l.fn.first_line (take l.at l.text) l.check;
}

abbrev pub decreases-bytes : goal.decreases-bytes
decreases-bytes l = length l.text - l.at
