use Rattle.kernel_model.proofs.Laws.Ends.{pages-objects, counts-objects}
use Rattle.kernel_model.proofs.law.next.objects_next.Goals as goal

pub returns : goal.returns
returns g c = record {
  pages = pages-objects g.s;
  counts = counts-objects g.s;
}
