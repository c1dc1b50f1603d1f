use Rattle.std.proofs.Common.{◌≡◌, ◌≤◌, ◌+◌, ◌*◌, ◌++◌, take, map, length}
use Rattle.std.specs.Fmt.{decimal}
use Rattle.line_text.specs.Cut.{spaced}
use Rattle.scenario_text.proofs.writing.push_sharers.Given as goal

abbrev pub invariant-sharers : goal.invariant-sharers
invariant-sharers l = record {
  text : l.line ≡ l.fn.line ++ spaced (map decimal (take l.i l.tasks));
  room : length l.line ≤ 40 + 11 * l.i;
}
