use Rattle.std.proofs.Common.{◌≡◌, reverse, take}
use Rattle.kernel_model.specs.State.{state}
use Rattle.report_tables.specs.Reasons.{emptied_at}
use Rattle.report_tables.proofs.reasons.emptied_at.Given as goal

abbrev pub invariant-loop-i : goal.invariant-loop-i
invariant-loop-i l = record {
  state : l.state ≡ state (reverse (take l.i l.entries)) l.o;
  found : l.found ≡ emptied_at (reverse (take l.i l.entries)) l.o;
}
