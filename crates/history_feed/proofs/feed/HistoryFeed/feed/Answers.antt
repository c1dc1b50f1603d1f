use Rattle.std.proofs.Common.{length, take}
use Rattle.history_feed.proofs.FeedLaws.{none_is, fed-fault}
use Rattle.history_feed.proofs.feed.HistoryFeed.feed.Goals as goal

pub returns-in-Some-clause-room : goal.returns-in-Some-clause-room
returns-in-Some-clause-room c = λ more room sound. absurd (none_is c.args.self.now.fault c.in-Some.field-0 sound c.in-Some.is)

pub returns-in-Some-clause-stands : goal.returns-in-Some-clause-stands
returns-in-Some-clause-stands c =
    let piece = c.args.piece.now in
    λ text h. (fed-fault c.args.self.now text piece (take (length piece) piece) c.in-Some.field-0 c.in-Some.is h).stands

pub returns-in-Some-clause-entry : goal.returns-in-Some-clause-entry
returns-in-Some-clause-entry c =
    let piece = c.args.piece.now in
    λ text h. (fed-fault c.args.self.now text piece (take (length piece) piece) c.in-Some.field-0 c.in-Some.is h).entry

pub returns-in-Some-clause-gives : goal.returns-in-Some-clause-gives
returns-in-Some-clause-gives c =
    let piece = c.args.piece.now in
    λ text h. (fed-fault c.args.self.now text piece (take (length piece) piece) c.in-Some.field-0 c.in-Some.is h).gives

pub returns-in-None-clause-stands : goal.returns-in-None-clause-stands
returns-in-None-clause-stands c = λ text h. (c.take.ensures.fed text h).stands

pub returns-in-None-clause-entry : goal.returns-in-None-clause-entry
returns-in-None-clause-entry c = λ text h. (c.take.ensures.fed text h).entry

pub returns-in-None-clause-written : goal.returns-in-None-clause-written
returns-in-None-clause-written c = λ text h. (c.take.ensures.fed text h).written

pub returns-in-None-clause-gives : goal.returns-in-None-clause-gives
returns-in-None-clause-gives c = λ text h. (c.take.ensures.fed text h).gives
