use Rattle.std.proofs.Common.{◌+◌, ◌++◌, length, sym, subst}
use Rattle.replay_check.specs.Pieces.{CheckView, HasRoom, StandsFor}
use Rattle.replay_check.proofs.pieces.PieceCheck.feed.Goals as goal

pub invariant_of-result : goal.invariant_of-result
invariant_of-result c =
    let h = c.self.invariant in
    record {
      scenario = h.scenario;
      first = h.first;
      text = h.text ++ c.args.piece.now;
      for_them = c.in_ok-take_all.ensures.stands h.scenario h.first h.text h.for_them;
    }

pub returns-clause-stands : goal.returns-clause-stands
returns-clause-stands c = λ s n text h. c.in_ok-take_all.ensures.stands s n text (subst (StandsFor s n text) (sym c.self.view_is) h)

pub returns-clause-room : goal.returns-clause-room
returns-clause-room c = λ more all.
    c.in_ok-take_all.ensures.room more (subst (λ (v : CheckView). HasRoom v (length c.args.piece.now + more)) (sym c.self.view_is) all)
