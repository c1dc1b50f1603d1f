use Rattle.kernel_model.proofs.Laws.Queues.{first-is, group-enter, group-enter_lifo, group-filter}
use Rattle.kernel_model.proofs.law.queues.groups.Goals as goal

pub returns : goal.returns
returns c = record {
  first = first-is;
  enter = group-enter;
  enter_lifo = group-enter_lifo;
  filter = group-filter;
}
