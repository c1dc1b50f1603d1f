use Rattle.std.proofs.Common.{sym, ◌∙◌}
use Rattle.history_text.proofs.LineLemmas.{opening-taken, opening-bad}
use Rattle.history_text.proofs.history.open.Goals as goal

pub returns-then-is_word-clause-value : goal.returns-then-is_word-clause-value
returns-then-is_word-clause-value c =
    opening-taken c.args.line c.args.text.now c.in-Ok.parts.0.now c.in-Ok.parts.1.now c.in-Ok.ensures.value (sym c.is_word.ensures ∙ c.if-is_word.true)

pub returns-else-is_word-clause-value : goal.returns-else-is_word-clause-value
returns-else-is_word-clause-value c =
    opening-bad c.args.line c.args.text.now c.in-Ok.parts.0.now c.in-Ok.parts.1.now c.in-Ok.ensures.value (sym c.is_word.ensures ∙ c.if-is_word.false)
