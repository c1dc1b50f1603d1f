use Rattle.std.proofs.Common.{sym, ◌∙◌}
use Rattle.history_text.proofs.LineLemmas.{closed-rest}
use Rattle.history_text.proofs.history.close.Goals as goal

pub returns-else-is_empty : goal.returns-else-is_empty
returns-else-is_empty c = closed-rest c.args.history.list c.args.line c.args.rest.now (sym c.is_empty.ensures ∙ c.if-is_empty.false)
