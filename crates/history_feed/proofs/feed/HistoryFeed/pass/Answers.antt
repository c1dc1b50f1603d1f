use Rattle.std.proofs.Common.{◌≡◌, ◌+◌, ◌≤◌, length, refl, sym, ◌∙◌, arith}
use Rattle.history_feed.specs.Kept.{kept_of}
use Rattle.history_feed.proofs.FeedLaws.{line-within}
use Rattle.history_feed.proofs.Passed.{passed}
use Rattle.history_feed.proofs.feed.HistoryFeed.pass.Goals as goal

pub returns-clause-within : goal.returns-clause-within
returns-clause-within c = line-within c.args._piece.now c.args.line.now c.requires.next.behind c.requires.next.cut

pub returns-clause-stands : goal.returns-clause-stands
returns-clause-stands c = λ text h.
    let e = c.requires.entry in
    let b = c.begin_line.ensures in
    (passed c.args.self.now c.begin_line.new.self c.args._piece.now c.args.line.now e.0 c.requires.next e.1 (b.same.0, b.line, b.same.1, b.expected, b.same.2, b.rest) text h).stands

pub returns-clause-gives : goal.returns-clause-gives
returns-clause-gives c = λ text e is h.
    let b = c.begin_line.ensures in
    (passed c.args.self.now c.begin_line.new.self c.args._piece.now c.args.line.now e c.requires.next is (b.same.0, b.line, b.same.1, b.expected, b.same.2, b.rest) text h).gives
