use Rattle.std.proofs.Common.{◌≡◌, [], ◌∷◌, eqb, drop, sym, ◌∙◌, ap, arith}
use Rattle.line_text.specs.Cut.{lines_of}
use Rattle.line_text.proofs.CutLemmas.{some_part}
use Rattle.history_feed.proofs.Passed.{none-from}
use Rattle.history_feed.proofs.feed.HistoryFeed.next_line.Goals as goal

pub returns-in-Some : goal.returns-in-Some
returns-in-Some c = record {
  sound = none-from c.args.self.now.fault (sym c.is_some.ensures ∙ c.if-is_some.false);
  expected = c.in-Entries.is;
  empty = omega (arith, c.if-self-ne0.false);
  few = omega (arith, c.if-self-ge-MOST.false);
  behind = c.in-Some.field-0-1.now;
  cut = c.in-Some.ensures.parts;
}

pub returns-in-None : goal.returns-in-None
returns-in-None c = λ line next.
    let cut : c.args.piece.now ∷ [] ≡ line ∷ lines_of next.behind = sym c.in-None.ensures.parts ∙ next.cut in
    some_part (λ b. eqb b 10) next.behind (sym (ap (drop 1) cut))
