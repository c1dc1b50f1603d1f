use Rattle.std.proofs.Common.{◌++◌, take, subst, Option, Some, None}
use Rattle.kern_ids.specs.declared.entries.Entry.{Entry}
use Rattle.history_feed.specs.Left.{left_by}
use Rattle.history_feed.specs.Feeds as feeds
use Rattle.replay_check.proofs.Grown.{can-replay, grown, none-grows}
use Rattle.replay_check.proofs.pieces.read_some.Goals as goal

pub feed-requires : goal.feed-requires
feed-requires c =
    let h = c.requires.stands in
    can-replay c.args.scenario.now c.args.feed.now c.args.replay.now _ _ (take c.feed-taken.result.taken c.args.piece.now) h c.in-Some.is (c.feed-taken.ensures.gives h.text h.for_them.feed)

pub returns-in_ok-feed-in-Some-clause-stands : goal.returns-in_ok-feed-in-Some-clause-stands
returns-in_ok-feed-in-Some-clause-stands c = λ s n text h.
    let old = c.args.feed.now in
    let taken = take c.feed-taken.result.taken c.args.piece.now in
    let gives = c.feed-taken.ensures.gives text h.feed in
    let one = subst (λ (x : Option Entry). feeds.Gives x (left_by (feeds.first_line_of old) text) (left_by (feeds.first_line_of old) (text ++ taken))) c.in-Some.is gives in
    grown c.args.scenario.now old c.feed-taken.new.self c.args.replay.now c.feed.new.self (Some c.in-Some.entry) taken s n text h
    c.feed-taken.ensures.first (c.feed-taken.ensures.stands text h.feed) one c.in_ok-feed-in-Some.ensures.fed

pub returns-in-None-clause-stands : goal.returns-in-None-clause-stands
returns-in-None-clause-stands c = λ s n text h.
    let old = c.args.feed.now in
    let taken = take c.feed-taken.result.taken c.args.piece.now in
    let gives = c.feed-taken.ensures.gives text h.feed in
    let none = subst (λ (x : Option Entry). feeds.Gives x (left_by (feeds.first_line_of old) text) (left_by (feeds.first_line_of old) (text ++ taken))) c.in-None.is gives in
    grown c.args.scenario.now old c.feed-taken.new.self c.args.replay.now c.args.replay.now None taken s n text h
    c.feed-taken.ensures.first (c.feed-taken.ensures.stands text h.feed) none (none-grows c.args.scenario.now c.args.replay.now)
