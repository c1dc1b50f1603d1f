use Rattle.std.proofs.Common.{◌≡◌, ℕ, ◌+◌, ◌++◌, List, length, take, ap, ◌∙◌, subst}
use Rattle.std.specs.Prelude.{IfOk}
use Rattle.kernel_model.specs.Scenario.{Plan}
use Rattle.history_feed.specs.Lines.{line_end}
use Rattle.history_feed.proofs.FeedLaws.{taken-none, line_end-some}
use Rattle.replay_check.specs.declared.line_replay.LineReplay.{LineReplay}
use Rattle.replay_check.specs.Lines.{IsReplayed}
use Rattle.replay_check.specs.Replays.{ReplayView}
use Rattle.replay_check.specs.Pieces.{StandsFor, parts}
use Rattle.replay_check.proofs.LinesGrown.{can-take, wrong-grown}
use Rattle.replay_check.proofs.pieces.take_line.Goals as goal

pub feed_line-requires : goal.feed_line-requires
feed_line-requires c = can-take c.args.scenario.now c.args.feed.now c.args.replay.now c.args.piece.now c.args.line.now c.requires.stands c.requires.next

pub returns-in-Wrong-clause-stands : goal.returns-in-Wrong-clause-stands
returns-in-Wrong-clause-stands c =
    let t = c.args.scenario.now in
    let old = c.args.feed.now in
    let piece = c.args.piece.now in
    let line = c.args.line.now in
    let is = c.requires.next in
    let wrong = subst (λ (x : LineReplay). IsReplayed x t line c.args.replay.now c.feed_line.new.self) c.in-Wrong.is c.in_ok-feed_line.ensures.replayed in
    let long : c.skip.result ≡ length line + 1 = c.skip.ensures.taken ∙ taken-none old piece is.sound ∙ ap line_end is.cut ∙ line_end-some line is.behind in
    λ s n text h.
    wrong-grown s t old c.skip.new.feed c.args.replay.now c.feed_line.new.self n c.skip.result text piece line is long wrong.0 wrong.1 c.skip.ensures.first (c.skip.ensures.stands text) h

pub returns-in-Unread-clause-stands : goal.returns-in-Unread-clause-stands
returns-in-Unread-clause-stands c =
    let t = c.args.scenario.now in
    let piece = c.args.piece.now in
    let same : c.feed_line.new.self ≡ c.args.replay.now = (subst (λ (x : LineReplay). IsReplayed x t c.args.line.now c.args.replay.now c.feed_line.new.self) c.in-Unread.is c.in_ok-feed_line.ensures.replayed).0 in
    subst (λ (r : ReplayView). IfOk c.read_some.result (λ taken. (s : Plan) (n : ℕ) (text : List ℕ) → StandsFor s n text (parts t c.args.feed.now r) → StandsFor s n (text ++ take taken piece) (parts t c.read_some.new.feed c.read_some.new.replay))) same
    c.read_some.ensures.stands
