use Rattle.std.proofs.Common.{sym, ◌∙◌}
use Rattle.replay_check.proofs.Begun.{verdict-legal, verdict-whole, legal-verdict}
use Rattle.replay_check.proofs.checks.check.Goals as goal

pub returns-clause-verdict : goal.returns-clause-verdict
returns-clause-verdict c = c.verdict.ensures.verdict c.args.history.now.list c.in_ok-replay.ensures

pub returns-clause-legal : goal.returns-clause-legal
returns-clause-legal c = λ legal.
    verdict-legal c.args.scenario.now c.args.history.now.list c.valid.ensures (sym (c.verdict.ensures.verdict c.args.history.now.list c.in_ok-replay.ensures) ∙ legal)

pub returns-clause-whole : goal.returns-clause-whole
returns-clause-whole c = λ legal.
    verdict-whole c.args.scenario.now c.args.history.now.list c.valid.ensures (sym (c.verdict.ensures.verdict c.args.history.now.list c.in_ok-replay.ensures) ∙ legal)

pub returns-clause-only : goal.returns-clause-only
returns-clause-only c = λ legal whole.
    c.verdict.ensures.verdict c.args.history.now.list c.in_ok-replay.ensures ∙ legal-verdict c.args.scenario.now c.args.history.now.list legal whole
