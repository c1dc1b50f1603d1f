use Rattle.std.proofs.Common.{◌≤◌, ◌-◌, length}
use Rattle.history_feed.specs.Feeds.{HasRoom}
use Rattle.parts_uses.proofs.history_feed_tests.fed.Given as goal

abbrev pub invariant-bytes : goal.invariant-bytes
invariant-bytes l = record { within : l.at ≤ length l.text; room : HasRoom l.feed (length l.text - l.at) }

abbrev pub decreases-bytes : goal.decreases-bytes
decreases-bytes l = length l.text - l.at
