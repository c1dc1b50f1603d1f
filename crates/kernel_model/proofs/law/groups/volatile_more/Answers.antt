use Rattle.kernel_model.proofs.Laws.Whole.{volatile-is, volatile-more}
use Rattle.kernel_model.proofs.law.groups.volatile_more.Goals as goal

pub returns : goal.returns
returns c = record {
  is = volatile-is;
  one_more = volatile-more;
}
