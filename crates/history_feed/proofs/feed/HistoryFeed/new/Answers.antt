use Rattle.std.proofs.Common.{[], None, refl, arith}
use Rattle.history_feed.specs.declared.expected.Expected.TheVariants as next
use Rattle.history_feed.specs.declared.feed.HistoryFeed.{HistoryFeed}
use Rattle.history_feed.proofs.KeptLaws.{kept-len}
use Rattle.history_feed.proofs.FeedLaws.{begins}
use Rattle.history_feed.proofs.feed.HistoryFeed.new.Goals as goal

pub returns-clause-stands : goal.returns-clause-stands
returns-clause-stands c =
    let n = c.args.first_line in
    let f : HistoryFeed = record { first = n; line = n; entries = 0; expected = next.Opening; fault = None; rest = c.new.result } in
    begins f n refl (record { sound = refl; line = refl; entries = refl; expected = refl; kept = c.new.ensures })

pub returns-clause-room : goal.returns-clause-room
returns-clause-room c =
    let none = kept-len c.new.result [] c.new.ensures in
    λ more small sound. omega (arith, none, c.requires, small)
