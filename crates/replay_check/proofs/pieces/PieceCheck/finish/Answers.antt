use Rattle.std.proofs.Common.{sym, subst}
use Rattle.replay_check.specs.Pieces.{StandsFor}
use Rattle.replay_check.proofs.Ends.{ends-done, ends-bad}
use Rattle.replay_check.proofs.pieces.PieceCheck.finish.Goals as goal

pub returns-in-Ok : goal.returns-in-Ok
returns-in-Ok c = λ s n text h.
    let stands = subst (StandsFor s n text) (sym c.self.view_is) h in
    ends-done s n text _ c.verdict.result _ stands (c.in-Ok.ensures.whole text) (c.in-Ok.ensures.exact text stands.feed) c.verdict.ensures.verdict

pub returns : goal.returns
returns c = λ s n text h.
    let stands = subst (StandsFor s n text) (sym c.self.view_is) h in
    ends-bad s n text _ (c.in-Err.line, c.in-Err.why) stands (c.in-Err.ensures.exact text stands.feed)
