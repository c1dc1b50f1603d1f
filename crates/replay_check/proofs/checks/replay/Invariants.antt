use Rattle.std.proofs.Common.{take}
use Rattle.replay_check.specs.Replays.{StandsFor}
use Rattle.replay_check.proofs.checks.replay.Given as goal

abbrev pub invariant-loop-entry : goal.invariant-loop-entry
invariant-loop-entry l = StandsFor l.scenario (take l.entry-index l.entries) l.replay
