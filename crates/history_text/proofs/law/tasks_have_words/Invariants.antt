use Rattle.std.proofs.Common.{◌≡◌, ◌<◌, length, take, All}
use Rattle.history_text.proofs.law.tasks_have_words.Given as goal

abbrev pub invariant-loop-i : goal.invariant-loop-i
invariant-loop-i l = record {
  below : All (λ t. t < 64) (take l.i l.tasks);
  all : l.i-end ≡ length l.tasks;
}
