use Rattle.kernel_model.proofs.Laws.Contents.{byte-none, byte-more}
use Rattle.kernel_model.proofs.Laws.Kept.{byte-kept}
use Rattle.kernel_model.proofs.Laws.Kinds.{byte-emptied, byte-write}
use Rattle.kernel_model.proofs.Laws.Untouched.{byte-untouched}
use Rattle.kernel_model.proofs.law.contents.bytes_more.Goals as goal

pub returns : goal.returns
returns c = record {
  none = byte-none;
  one_more = byte-more;
  kept = byte-kept;
  emptied = byte-emptied;
  write = byte-write;
  untouched = byte-untouched;
}
