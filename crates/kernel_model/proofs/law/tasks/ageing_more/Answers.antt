use Rattle.kernel_model.proofs.Laws.Whole.{counts_for_ageing-is, counts_for_ageing-more, due-is}
use Rattle.kernel_model.proofs.law.tasks.ageing_more.Goals as goal

pub returns : goal.returns
returns c = record {
  is = counts_for_ageing-is;
  one_more = counts_for_ageing-more;
  due = due-is;
}
