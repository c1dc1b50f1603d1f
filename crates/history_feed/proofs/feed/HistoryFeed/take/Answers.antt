use Rattle.std.proofs.Common.{◌≡◌, ◌<◌, ◌∙◌, ◌++◌, length, take, None, sym, ap, subst, arith}
use Rattle.std.proofs.lemmas.List.{take_all}
use Rattle.history_feed.specs.Lines.{line_end}
use Rattle.history_feed.specs.Left.{rest_behind}
use Rattle.history_feed.specs.Feeds.{IsFed}
use Rattle.history_feed.proofs.FeedLaws.{line_end-some, line_end-none, taken-none, empty-end, some-bytes, line-within, taken-line, fed-line, fed-part, fed-none}
use Rattle.history_feed.proofs.feed.HistoryFeed.take.Goals as goal

pub returns-then-is_empty-clause-taken : goal.returns-then-is_empty-clause-taken
returns-then-is_empty-clause-taken c = sym (taken-none c.args.self.now c.args.piece.now c.requires.sound ∙ empty-end c.args.piece.now (sym c.is_empty.ensures ∙ c.if-is_empty.true))

pub returns-then-is_empty-clause-fed : goal.returns-then-is_empty-clause-fed
returns-then-is_empty-clause-fed c = λ text h. fed-none c.args.self.now text c.args.piece.now (sym c.is_empty.ensures ∙ c.if-is_empty.true) h

pub returns-in-Some-clause-taken : goal.returns-in-Some-clause-taken
returns-in-Some-clause-taken c =
    sym (taken-none c.args.self.now c.args.piece.now c.requires.sound ∙ ap line_end c.in-Some.ensures.parts ∙ line_end-some c.in-Some.part.now c.in-Some.field-0-1.now)

pub returns-in-Some-clause-within : goal.returns-in-Some-clause-within
returns-in-Some-clause-within c = line-within c.args.piece.now c.in-Some.part.now c.in-Some.field-0-1.now c.in-Some.ensures.parts

pub returns-in-Some-clause-room : goal.returns-in-Some-clause-room
returns-in-Some-clause-room c =
    let line = c.end_line-entry.ensures.line in
    λ more room sound.
    let before = room c.requires.sound in
    let empty = c.end_line-entry.ensures.empty sound in
    omega (arith, line, before, empty)

pub returns-in-Some-clause-fed : goal.returns-in-Some-clause-fed
returns-in-Some-clause-fed c =
    let old = c.args.self.now in
    let new = c.end_line-entry.new.self in
    let piece = c.args.piece.now in
    let part = c.in-Some.part.now in
    let others = c.in-Some.field-0-1.now in
    let cut = c.in-Some.ensures.parts in
    λ text h.
    subst (IsFed old new c.end_line-entry.result text piece) (sym (taken-line piece part others cut))
    (fed-line old new c.end_line-entry.result text piece part others cut c.end_line-entry.ensures.first c.requires.sound h
    (λ p k. c.end_line-entry.ensures.ended p (rest_behind text ++ part) (record { sound = k.sound; line = k.line; entries = k.entries; expected = k.expected; kept = c.push.ensures.value (rest_behind text) k.kept })))

pub returns-in-None-clause-taken : goal.returns-in-None-clause-taken
returns-in-None-clause-taken c = sym (taken-none c.args.self.now c.args.piece.now c.requires.sound ∙ ap line_end c.in-None.ensures.parts ∙ line_end-none c.args.piece.now)

pub returns-in-None-clause-room : goal.returns-in-None-clause-room
returns-in-None-clause-room c =
    let line = c.go_on.ensures.line in
    let len = c.go_on.ensures.len in
    λ more room sound.
    let before = room c.requires.sound in
    omega (arith, line, len, before)

pub returns-in-None-clause-fed : goal.returns-in-None-clause-fed
returns-in-None-clause-fed c =
    let old = c.args.self.now in
    let new = c.go_on.new.self in
    let piece = c.args.piece.now in
    let whole : take (length piece) piece ≡ piece = take_all (length piece) piece (omega arith) in
    let some : 0 < length piece = some-bytes piece (sym c.is_empty.ensures ∙ c.if-is_empty.false) in
    λ text h.
    subst (IsFed old new None text piece) (sym whole) (fed-part old new text piece c.in-None.ensures.parts some c.go_on.ensures.first c.requires.sound h (λ p k. c.go_on.ensures.on p (rest_behind text) k))
