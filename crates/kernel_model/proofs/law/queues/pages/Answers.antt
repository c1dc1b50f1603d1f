use Rattle.kernel_model.proofs.Laws.Queues.{pages-none, first_active-is, first_inactive-is, pages-append, pages-filter, pages-drop}
use Rattle.kernel_model.proofs.law.queues.pages.Goals as goal

pub returns : goal.returns
returns c = record {
  none = pages-none;
  first_active = first_active-is;
  first_inactive = first_inactive-is;
  append = pages-append;
  filter = pages-filter;
  drop = pages-drop;
}
