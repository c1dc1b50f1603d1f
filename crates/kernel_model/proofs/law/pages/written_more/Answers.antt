use Rattle.kernel_model.proofs.Laws.Kept.{written-kept}
use Rattle.kernel_model.proofs.Laws.Kinds.{written-emptied, written-write}
use Rattle.kernel_model.proofs.Laws.Pages.{written-more}
use Rattle.kernel_model.proofs.law.pages.written_more.Goals as goal

pub returns : goal.returns
returns c = record {
  one_more = written-more;
  kept = written-kept;
  emptied = written-emptied;
  write = written-write;
}
