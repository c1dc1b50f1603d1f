use Rattle.std.proofs.Common.{◌∙◌, ℕ, List, sym, ap, arith}
use Rattle.line_text.specs.Cut.{words_of}
use Rattle.history_text.specs.HistoryReading.{line_says}
use Rattle.history_feed.specs.LongLines.{long_fault}
use Rattle.history_feed.proofs.LongLaws.{refused}
use Rattle.history_feed.proofs.KeptLaws.{kept-short, kept-long, says-same}
use Rattle.history_feed.proofs.SaysLaws.{says-texts}
use Rattle.history_feed.proofs.kept_line.KeptLine.says.Goals as goal

pub returns-then-self-le-MOST-clause-value : goal.returns-then-self-le-MOST-clause-value
returns-then-self-le-MOST-clause-value c =
    λ line e.
    ap (line_says c.args.count) (sym (c.as_slice.ensures.value ∙ kept-short c.args.self.now line e c.if-self-le-MOST.true)) ∙ says-same (line_says c.args.count c.as_slice.result.now) c.take_line.result c.take_line.ensures.value

pub returns-else-self-le-MOST-clause-value : goal.returns-else-self-le-MOST-clause-value
returns-else-self-le-MOST-clause-value c =
    let k = c.args.self.now in
    λ line e.
    kept-long k line c.args.count e (omega arith) c.if-self-le-MOST.false
    ∙ ap (λ (t : List ℕ). refused (long_fault (words_of t) k.spaced k.digits)) (sym c.as_slice-else-self-le-MOST.ensures.value)
    ∙ ap refused (sym c.long_fault.ensures)

pub returns-then-self-le-MOST-clause-text : goal.returns-then-self-le-MOST-clause-text
returns-then-self-le-MOST-clause-text c = says-texts c.args.count c.as_slice.result.now c.take_line.result c.take_line.ensures.value
