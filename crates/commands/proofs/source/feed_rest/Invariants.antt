use Rattle.std.proofs.Common.{◌≤◌, ◌<◌, length}
use Rattle.commands.proofs.Fed.{IsFed}
use Rattle.commands.proofs.source.feed_rest.Given as goal

abbrev pub invariant-pieces : goal.invariant-pieces
invariant-pieces g l = record {
  some : 0 < length l.piece;
  fed : IsFed l.fn.begun l.check (g.S.Source.left l.fn.source) (g.S.Source.left l.source) l.fn.most l.room;
  grows : g.S.Source.fault_count l.fn.source ≤ g.S.Source.fault_count l.source;
}

abbrev pub decreases-pieces : goal.decreases-pieces
decreases-pieces g l = l.room
