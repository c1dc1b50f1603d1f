use Rattle.std.proofs.Common.{◌≡◌, ◌≤◌, ◌+◌, length}
use Rattle.line_text.specs.Cut.{lines_of}
use Rattle.scenario_text.specs.Grammar.{reading, front_from, front_of}
use Rattle.scenario_text.specs.Gives.{InScript}
use Rattle.scenario_text.proofs.scan.scan.Given as goal

abbrev pub invariant-lines : goal.invariant-lines
invariant-lines l = record {
  said : front_of l.text ≡ front_from (reading l.place l.scenario) l.line (lines_of l.rest);
  counted : l.line + length l.rest ≤ length l.text + 1;
  script : InScript l.place l.scenario;
}

abbrev pub decreases-lines : goal.decreases-lines
decreases-lines l = length l.rest
