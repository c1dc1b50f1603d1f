use Rattle.std.proofs.Common.{◌≤◌, take, All}
use Rattle.scenario_text.proofs.law.bands_have_words.Given as goal

abbrev pub invariant-loop-task : goal.invariant-loop-task
invariant-loop-task l = All (λ t. t.band ≤ 20) (take l.task-index l.tasks)
