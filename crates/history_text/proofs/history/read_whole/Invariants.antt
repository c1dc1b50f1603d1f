use Rattle.std.proofs.Common.{◌≡◌, ◌≤◌, ◌+◌, length}
use Rattle.line_text.specs.Cut.{lines_of}
use Rattle.history_text.specs.HistoryReading.{entries_from, history_of}
use Rattle.history_text.proofs.history.read_whole.Given as goal

abbrev pub invariant-lines : goal.invariant-lines
invariant-lines l = record {
  said : history_of l.first_line l.text ≡ entries_from l.history.list l.line (lines_of l.rest);
  counted : l.line ≡ l.first_line + 1 + length l.history.list;
  few : length l.history.list ≤ 200000;
}

abbrev pub decreases-lines : goal.decreases-lines
decreases-lines l = length l.rest
