use Rattle.std.proofs.Common.{reverse, sym, ◌∙◌}
use Rattle.slow_kernel.proofs.Refused.{in_range}
use Rattle.slow_kernel.proofs.answers.answer.Goals as goal

pub accepted_answer-requires : goal.accepted_answer-requires
accepted_answer-requires c =
    in_range c.args.boot.now (reverse c.args.entries.now) c.args.who c.args.call.now (sym c.in_ok-refused.ensures ∙ c.in-None.is)
