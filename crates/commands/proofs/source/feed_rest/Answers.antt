use Rattle.std.proofs.Common.{rules, ◌≡◌, ◌<◌, length, arith}
use Rattle.std.proofs.lemmas.List.{length-take}
use Rattle.std.proofs.lemmas.Result.{err_from_is_err_and}
use Rattle.commands.proofs.Stopped.{taken-memory, taken-stops}
use Rattle.commands.proofs.Fed.{fed-none, fed-more, fed-ended}
use Rattle.commands.proofs.source.feed_rest.Goals as goal

pub pieces-init : goal.pieces-init
pieces-init g c = record { some = c.requires.some; fed = fed-none _ _ _ c.requires.room; grows = omega arith }

pub returns-in_err-n-clause-stops : goal.returns-in_err-n-clause-stops
returns-in_err-n-clause-stops g c =
    let p = err_from_is_err_and c.from_residual.result c.from_residual.ensures.1 in
    rw (p.1, p.2) (taken-stops _ _ _ _ _ _ _ _ _ c.pieces.invariant.fed.taken c.pieces.invariant.grows c.in_err-n.ensures.stops)

pub returns-then-n-eq0-clause-ended : goal.returns-then-n-eq0-clause-ended
returns-then-n-eq0-clause-ended g c =
    let zero : c.in_ok-n.n ≡ 0 = search rules in
    fed-ended _ _ _ _ _ _ _ _ _ _ c.pieces.invariant.fed c.in_ok-n.ensures.bytes zero (c.in_ok-n.ensures.end zero) c.finish.ensures

pub feed-requires : goal.feed-requires
feed-requires g c = λ sound.
    let room = c.pieces.invariant.fed.fits sound in
    omega (arith, room, length-take c.in_ok-n.n c.next_piece.new.piece, c.in_ok-n.ensures.within)

pub returns-in_err-check-clause-stops : goal.returns-in_err-check-clause-stops
returns-in_err-check-clause-stops g c =
    let p = err_from_is_err_and c.from_residual-in_err-check.result c.from_residual-in_err-check.ensures.1 in
    rw (p.1, p.2) (taken-memory _ _ _ 0 0 _ _ _ _ c.pieces.invariant.fed.taken c.in_ok-n.ensures.bytes c.in_ok-n.ensures.within)

pub pieces-preserved : goal.pieces-preserved
pieces-preserved g c =
    let some : 0 < length c.next_piece.new.piece = search rules in
    record {
      some = some;
      fed = fed-more _ _ _ _ _ _ _ _ _ _ c.pieces.invariant.fed c.in_ok-n.ensures.bytes c.in_ok-n.ensures.bound c.in_ok-n.ensures.within c.in_ok-check.ensures.stands c.in_ok-check.ensures.room;
      grows = search rules;
    }
