use Rattle.std.proofs.Common.{ap, ◌∙◌, reverse}
use Rattle.kernel_model.specs.System.{System}
use Rattle.kernel_model.specs.Answers.{frames_reply, tokens_reply}
use Rattle.report_tables.specs.Facts.{frames_in, tokens_in}
use Rattle.report_tables.proofs.FactsFrom.{facts_from}
use Rattle.report_tables.proofs.history_facts.told_facts.Goals as goal

pub returns : goal.returns
returns c =
    facts_from c.args.boot.now c.args.entries.now c.purged.result c.killed.result c.in_ok-tasks.tasks.items c.in_ok-objects.objects.items c.frame_counts.result c.token_counts.result
    c.purged.ensures c.killed.ensures c.in_ok-tasks.ensures c.in_ok-objects.ensures (ap frames_in c.frame_counts.ensures ∙ ap (λ (b : System). frames_in (frames_reply b (reverse c.args.entries.now))) c.requires.boot)
    (ap tokens_in c.token_counts.ensures ∙ ap (λ (b : System). tokens_in (tokens_reply b (reverse c.args.entries.now))) c.requires.boot)
