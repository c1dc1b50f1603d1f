use Rattle.std.proofs.Common.{rules, ◌<◌, length}
use Rattle.std.proofs.lemmas.Result.{err_from_is_err_and}
use Rattle.commands.proofs.Stopped.{taken-more, taken-stops}
use Rattle.commands.proofs.opening.skip_rest.Goals as goal

pub returns-in_err-n-clause-stops : goal.returns-in_err-n-clause-stops
returns-in_err-n-clause-stops g c =
    let p = err_from_is_err_and c.from_residual.result c.from_residual.ensures.1 in
    rw (p.1, p.2) (taken-stops _ _ _ _ _ _ _ _ _ c.pieces.invariant.taken c.pieces.invariant.grows c.in_err-n.ensures.stops)

pub pieces-preserved : goal.pieces-preserved
pieces-preserved g c =
    let some : 0 < length c.next_piece.new.piece = search rules in
    record {
      some = some;
      taken = taken-more _ _ _ _ _ _ _ c.pieces.invariant.taken c.in_ok-n.ensures.bytes c.in_ok-n.ensures.bound c.in_ok-n.ensures.within;
      grows = search rules;
    }
