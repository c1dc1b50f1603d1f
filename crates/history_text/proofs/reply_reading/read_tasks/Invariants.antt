use Rattle.std.proofs.Common.{◌≡◌, ◌≤◌, ◌-◌, length}
use Rattle.history_text.specs.ReplyReading.{task_words}
use Rattle.history_text.proofs.ReadLemmas.{with_tasks}
use Rattle.history_text.proofs.reply_reading.read_tasks.Given as goal

abbrev pub invariant-words : goal.invariant-words
invariant-words l = record {
  said : with_tasks l.tasks (task_words (64 - length l.tasks) l.words) ≡ task_words 64 l.fn.words;
  few : length l.tasks ≤ 64;
}

abbrev pub decreases-words : goal.decreases-words
decreases-words l = length l.words
