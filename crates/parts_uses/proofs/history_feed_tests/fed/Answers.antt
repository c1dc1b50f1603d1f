use Rattle.std.proofs.Common.{◌≡◌, ℕ, ◌+◌, ◌-◌, ◌≤◌, length, arith, subst, length-drop}
use Rattle.std.proofs.lemmas.List.{length-take}
use Rattle.history_feed.specs.declared.feed.HistoryFeed.{HistoryFeed}
use Rattle.history_feed.specs.Feeds.{HasRoom}
use Rattle.parts_uses.proofs.history_feed_tests.fed.Goals as goal

-- room for what is left of a text
room-left : (old new : HistoryFeed) (len at taken : ℕ) → ((more : ℕ) → HasRoom old (taken + more) → HasRoom new more) → at + taken ≤ len → HasRoom old (len - at) → HasRoom new (len - (at + taken))
room-left old new len at taken more le room =
    let same : len - at ≡ taken + (len - (at + taken)) = omega arith in
    more (len - (at + taken)) (subst (HasRoom old) same room)

pub bytes-init : goal.bytes-init
bytes-init c =
    let room = c.new-feed.ensures.room (length c.args.text.now) (omega arith) in
    record {
      within = omega arith;
      room = λ sound. let r = room sound in omega (arith, r);
    }

pub bytes-preserved-in-Continue-branch-2 : goal.bytes-preserved-in-Continue-branch-2
bytes-preserved-in-Continue-branch-2 c =
    let i = c.bytes.invariant in
    let inside = i.within in
    let taken = simp (length-take, length-drop) at c.feed-taken.ensures.within in
    let le : c.bytes.at + c.feed-taken.result.taken ≤ length c.args.text.now = omega (arith, taken, inside) in
    record {
      within = le;
      room = room-left c.bytes.feed c.feed-taken.new.self (length c.args.text.now) c.bytes.at c.feed-taken.result.taken c.feed-taken.ensures.room le i.room;
    }

pub bytes-preserved : goal.bytes-preserved
bytes-preserved c =
    let i = c.bytes.invariant in
    let inside = i.within in
    let taken = simp (length-take, length-drop) at c.feed-taken.ensures.within in
    let le : c.bytes.at + c.feed-taken.result.taken ≤ length c.args.text.now = omega (arith, taken, inside) in
    record {
      within = le;
      room = room-left c.bytes.feed c.feed-taken.new.self (length c.args.text.now) c.bytes.at c.feed-taken.result.taken c.feed-taken.ensures.room le i.room;
    }
