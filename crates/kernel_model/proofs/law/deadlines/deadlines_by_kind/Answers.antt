use Rattle.kernel_model.proofs.Laws.Kinds.{deadlines-set, deadlines-forced, deadlines-purge, deadlines-scan_purge, deadlines-unmapped}
use Rattle.kernel_model.proofs.law.deadlines.deadlines_by_kind.Goals as goal

pub returns : goal.returns
returns c = record {
  set = deadlines-set;
  forced = deadlines-forced;
  purge = deadlines-purge;
  scan_purge = deadlines-scan_purge;
  unmapped = deadlines-unmapped;
}
